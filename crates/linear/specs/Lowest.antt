-- The lowest number that passes a test. In this order:
--   lowest test n t     the lowest of the n numbers from t on that passes; t + n if none does
--   Lowest size P t     t is the lowest of the numbers from 1 to size - 1 of which P holds
--   LowestFound         where there is one, `lowest` finds it
use Rattle.std.specs.Prelude.{◌≡◌, ℕ, zero, suc, ◌-◌, ◌<◌, ◌≤◌, Bool, true, cond}

unfoldable pub lowest : (ℕ → Bool) → ℕ → ℕ → ℕ
lowest test zero t = t
lowest test (suc n) t = cond (test t) t (lowest test n (suc t))

pub record Lowest (size : ℕ) (P : ℕ → Type 0) (t : ℕ) : Type 0 where
  pub some : 0 < t
  pub below : t < size
  pub holds : P t
  pub least : (k : ℕ) → 0 < k → P k → t ≤ k

abbrev pub LowestFound : Type 0
LowestFound =
    (test : ℕ → Bool) (size c : ℕ) → 0 < c → c < size → test c ≡ true
    → Lowest size (λ t. test t ≡ true) (lowest test (size - 1) 1)
