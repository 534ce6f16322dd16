-- A coefficient that serves all. Receivers test the vector that a link is to carry, each by its dual row. In this order:
--   Left size n forbids      one of the numbers from 1 to size - 1 that none of n forbids
--   SomeLeft                 where fewer than size - 1 forbid at most one number each, one is left
--   added hands cs ds t      the mix of what is at hand by the coefficients cs, with t times the trial coefficients ds added
--   serves_all h v tests     the vector v serves all these rows
--   ForbidsAtMostOne         a row that is served before anything is added forbids at most one t
--   ForbidsNone              a row that isn't, and that the trial coefficients alone would serve, forbids no t but 0
--   TFound                   so there is a lowest t that serves all, and `lowest` finds it
use Rattle.std.specs.Prelude.{◌≡◌, ℕ, ◌+◌, ◌-◌, ◌<◌, Bool, true, false, ◌&&◌, List, [], ◌∷◌, length}
use Rattle.gf.specs.Field.{Field}
use Rattle.linear.specs.Vectors.{plus, scale, mix}
use Rattle.linear.specs.Lowest.{lowest, Lowest}
use Rattle.linear.specs.Dual.{serves}

-- forbids k t: the k-th forbids t
pub record Left (size n : ℕ) (forbids : ℕ → ℕ → Bool) : Type 0 where
  pub value : ℕ
  pub some : 0 < value
  pub below : value < size
  pub allowed : (k : ℕ) → k < n → forbids k value ≡ false

abbrev pub SomeLeft : Type 0
SomeLeft =
    (size n : ℕ) (forbids : ℕ → ℕ → Bool) → 1 + n < size
    → ((k s t : ℕ) → k < n → 0 < s → s < size → 0 < t → t < size → forbids k s ≡ true → forbids k t ≡ true → s ≡ t)
    → Left size n forbids

module _ (F : Field) where
  open F use {size}

  abbrev pub added : List (List ℕ) → List ℕ → List ℕ → ℕ → List ℕ
  added hands cs ds t = mix F (plus cs (scale F t ds)) hands

  unfoldable pub serves_all : ℕ → List ℕ → List (List ℕ) → Bool
  serves_all h v [] = true
  serves_all h v (r ∷ rs) = serves F h v r && serves_all h v rs

  abbrev pub ForbidsAtMostOne : Type 0
  ForbidsAtMostOne =
      (h : ℕ) (hands : List (List ℕ)) (cs ds test : List ℕ) → serves F h (mix F cs hands) test ≡ true
      → (s t : ℕ) → s < size → t < size → serves F h (added hands cs ds s) test ≡ false → serves F h (added hands cs ds t) test ≡ false → s ≡ t

  abbrev pub ForbidsNone : Type 0
  ForbidsNone =
      (h : ℕ) (hands : List (List ℕ)) (cs ds test : List ℕ) → serves F h (mix F cs hands) test ≡ false → serves F h (mix F ds hands) test ≡ true
      → (t : ℕ) → 0 < t → t < size → serves F h (added hands cs ds t) test ≡ true

  -- the rows of `done` are served, `test` isn't yet
  abbrev pub TFound : Type 0
  TFound =
      (h : ℕ) (hands done : List (List ℕ)) (cs ds test : List ℕ) → serves_all h (mix F cs hands) done ≡ true
      → serves F h (mix F cs hands) test ≡ false → serves F h (mix F ds hands) test ≡ true → 1 + length done < size
      → Lowest size (λ t. serves_all h (added hands cs ds t) (test ∷ done) ≡ true)
      (lowest (λ t. serves_all h (added hands cs ds t) (test ∷ done)) (size - 1) 1)
