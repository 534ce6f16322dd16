-- An array that a closure made, which computes f and stays as it is.
use Rattle.std.proofs.Common.{◌≡◌, ℕ, zero, suc, ◌+◌, ◌<◌, ◌≤◌, List, map, get_or, ap, sym, ◌∙◌, subst, inl, inr, arith}
use Rattle.std.specs.Array.{IsFromFnResult, IsFromFnResultFrom}
use Rattle.std.specs.Fn.{Called}
use Rattle.std.specs.List.{range_with_len}
use Rattle.std.proofs.lemmas.Bool.{cases_eq}
use Rattle.std.proofs.lemmas.List.FromFn.{fill_by_all}
use denote.Param.Members.{Mut}

module _ {F B : Type 0} (g : Mut F (ℕ × Unit {0}) B) (f : ℕ → B) (d : B) where
  place : (p : F) → ((j : ℕ) (y : B) (q : F) → Called g p (j, tt) y q → (q ≡ p) × (y ≡ f j))
      → (ys : List B) (i n k : ℕ) → IsFromFnResultFrom g p ys i n → i ≤ k → k < i + n → get_or ys k d ≡ f k
  place p each ys i zero k r h l = absurd (omega arith)
  place p each ys i (suc n) k r h l =
      elim (cases_eq k i) [
        | inl e ↦ ap (λ j. get_or ys j d) e ∙ r.2.1 d ∙ (each i r.1 r.0 r.3).1 ∙ ap f (sym e)
        | inr e ↦ place p each ys (i + 1) n k (subst (λ q. IsFromFnResultFrom g q ys (i + 1) n) (each i r.1 r.0 r.3).0 r.4) (omega arith) (omega arith)
      ]

  pub made : (p : F) → ((j : ℕ) (y : B) (q : F) → Called g p (j, tt) y q → (q ≡ p) × (y ≡ f j)) → (ys : List B) (n : ℕ) → IsFromFnResult g p ys n → ys ≡ map f (range_with_len 0 n)
  made p each ys n r = fill_by_all f ys n d r.long (λ k l. place p each ys 0 n k r.each (omega arith) (omega arith))
