-- A packet is refused, or fits and is kept; then rounds end until one is not over.
use Rattle.std.proofs.Common.{◌≡◌, ℕ, zero, suc, ◌+◌, ◌≤◌, true, false, ◌||◌, ltb, ◌⊎◌, List, [], ◌∷◌, refl, ◌∙◌, inl, inr, arith}
use Rattle.std.proofs.lemmas.Bool.{cases_Bool, or_parts, ltb-false, le-ltb}
use Rattle.relay_theory.specs.Relay.{Parcel, State, is_in, any, complete, is_over, next, keep, ends, refused, took, receive}
use Rattle.relay_theory.proofs.Finds.{none_any, except-other}

module _ {A : Type 0} where
  pub record Fits (is : List ℕ) (s : State A) (x : Parcel A) : Type 0 where
    pub comes : is_in x.link is ≡ true
    pub open' : s.round ≤ x.round
    pub free : s.kept x.link x.round ≡ []
    pub soon : x.round ≤ s.round + 2

  pub data Received (is : List ℕ) (s : State A) (x : Parcel A) : Type 0 where
    not_taken : (n : ℕ) → receive is s x ≡ refused n → Received is s x
    taken : Fits is s x → Received is s x

  pub received : (is : List ℕ) (s : State A) (x : Parcel A) → Received is s x
  unfolding receive
  received is s x = go (cases_Bool (is_in x.link is)) (cases_Bool (ltb x.round s.round || any (s.kept x.link x.round))) (cases_Bool (ltb (s.round + 2) x.round))
    where
      go : (is_in x.link is ≡ true) ⊎ (is_in x.link is ≡ false)
          → ((ltb x.round s.round || any (s.kept x.link x.round)) ≡ true) ⊎ ((ltb x.round s.round || any (s.kept x.link x.round)) ≡ false)
          → (ltb (s.round + 2) x.round ≡ true) ⊎ (ltb (s.round + 2) x.round ≡ false) → Received is s x
      go (inr a) b d = not_taken 6 (rw a)
      go (inl a) (inl b) d = not_taken 7 (rw (a, b))
      go (inl a) (inr b) (inl d) = not_taken 8 (rw (a, b, d))
      go (inl a) (inr b) (inr d) =
          let o = or_parts (ltb x.round s.round) _ b in
          taken (record { comes = a; open' = ltb-false _ _ o.0; free = none_any _ o.1; soon = ltb-false _ _ d })

  pub accepts : (is : List ℕ) (s : State A) (x : Parcel A) → Fits is s x → receive is s x ≡ took (ends 3 is (keep x s))
  unfolding receive any
  accepts is s x h = rw (h.comes, h.free, le-ltb x.round s.round h.open', le-ltb (s.round + 2) x.round h.soon)

  pub never-over : (is : List ℕ) (s : State A) → ((k : ℕ) → s.kept k s.round ≡ []) → is_over is s ≡ false
  unfolding is_over any complete
  never-over [] s h = refl
  never-over (k ∷ is) s h = rw (h k)

  -- where nothing is kept beyond n rounds, n endings are enough
  pub ends-idle : (is : List ℕ) (n : ℕ) (s : State A) → ((k r : ℕ) → s.round + n ≤ r → s.kept k r ≡ []) → is_over is (ends n is s).state ≡ false
  unfolding ends
  ends-idle is zero s h = never-over is s (λ k. h k s.round (omega arith))
  ends-idle is (suc n) s h =
      elim (cases_Bool (is_over is s)) [
        | inl e ↦ rw e (ends-idle is n (next s) (λ k r l. except-other k r s.round s.kept (λ d. omega arith) ∙ h k r (omega arith)))
        | inr e ↦ rw e e
      ]
