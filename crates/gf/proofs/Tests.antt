-- A test of every number below a bound, computed at once.
use Rattle.std.proofs.Common.{◌≡◌, ℕ, zero, suc, ◌<◌, Bool, true, ◌&&◌, subst, arith}
use native.Mathlib.Decide.{dec_lt}
use Rattle.std.proofs.lemmas.Bool.{and_parts}

-- f passes at each number below n
abbrev pub below : ℕ → (ℕ → Bool) → Bool
below zero f = true
below (suc n) f = f n && below n f

pub below_at : (n : ℕ) (f : ℕ → Bool) → below n f ≡ true → (k : ℕ) → k < n → f k ≡ true
below_at zero f t k h = absurd (omega arith)
below_at (suc n) f t k h =
    elim (dec_lt k n) [
      | yes l ↦ below_at n f (and_parts (f n) (below n f) t).1 k l
      | no ne ↦ subst (λ m. f m ≡ true) (omega arith) (and_parts (f n) (below n f) t).0
    ]
