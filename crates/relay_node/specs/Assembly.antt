-- Lists out of which a node is put together. Defines, in this order:
--   passing   the places at which elements of a list pass a test
--   picked      the rows with given numbers
--   current     where the links of a reader stand among those that come in
-- Assumes nothing.
use Rattle.std.specs.Prelude.{ℕ, ◌+◌, Bool, cond, List, [], ◌∷◌, map}
use Rattle.linear.specs.Vectors.{row}
use Rattle.delivery_theory.specs.Work.{place}

-- k: the place of the first element
unfoldable pub passing : {A : Type 0} → (A → Bool) → ℕ → List A → List ℕ
passing test k [] = []
passing test k (x ∷ xs) = cond (test x) (k ∷ passing test (k + 1) xs) (passing test (k + 1) xs)

abbrev pub picked : List (List ℕ) → List ℕ → List (List ℕ)
picked rows which = map (λ k. row rows k) which

abbrev pub current : (ins links : List ℕ) → List ℕ
current ins links = map (λ k. place k ins) links
