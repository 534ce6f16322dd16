-- The search for the lowest coefficient, number by number from t to 255.
use Rattle.std.proofs.Common.{◌≡◌, ℕ, suc, ◌+◌, ◌-◌, ◌≤◌, Bool, true, false, refl, add-one, arith}
use Rattle.std.proofs.lemmas.Bool.{cond-true, cond-false}
use Rattle.linear.specs.Lowest.{lowest}

module _ (test : ℕ → Bool) (t : ℕ) (l : t ≤ 255) where
  some : 256 - t ≡ suc (256 - (t + 1))
  some = omega arith

  pub lowest-here : test t ≡ true → lowest test (256 - t) t ≡ t
  unfolding lowest
  lowest-here e = rw some (cond-true _ _ _ e)

  pub lowest-later : test t ≡ false → lowest test (256 - t) t ≡ lowest test (256 - (t + 1)) (t + 1)
  unfolding lowest
  lowest-later e = rw (some, add-one) (cond-false _ _ _ e)

pub lowest-none : (test : ℕ → Bool) (t : ℕ) → t ≡ 256 → lowest test (256 - t) t ≡ 256
unfolding lowest
lowest-none test t e = rw e refl
