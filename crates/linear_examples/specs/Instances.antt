-- The premises of the theorems on linear algebra can be met: an instance of each over bytes, with vectors of two elements.
--   vectors, duals      two vectors, and their dual rows
--   renewed             the rows when (1, 3) takes the place of the second vector
--   message             a message of two packets of three elements, and `packets`, its mixes by the two vectors
--   Vectors             one vector that isn't 0, one that is, and two independent ones
--   DualRows            dual rows, a vector that serves the second row and one that doesn't, and rows renewed
--   Packets             a message, packets with the vectors by which they are its mixes, and rows that read it
--   Coefficients        a row that is served and forbids 1, one that isn't and forbids none, and the lowest number that serves both
--   Met                 all of these
use Rattle.std.specs.Prelude.{◌≡◌, ℕ, suc, ◌+◌, ◌<◌, true, false, List, [], ◌∷◌, length, ◌==◌}
use Rattle.gf.proofs.Fields.{byte_field}
use Rattle.linear.specs.Vectors.{at, row, units, Small, AllSmall, mix, mixed}
use Rattle.linear.specs.Independence.{Independent}
use Rattle.linear.specs.Lowest.{lowest}
use Rattle.linear.specs.Dual.{serves, Inverse, renew}
use Rattle.linear.specs.Transport.{Both, Message, IsMix}
use Rattle.linear.specs.Reading.{transpose, read_by, Square, Delivers}
use Rattle.linear.specs.Choice.{added, serves_all}

abbrev pub pair : ℕ → ℕ → List ℕ
pair a b = a ∷ b ∷ []

abbrev pub triple : ℕ → ℕ → ℕ → List ℕ
triple a b c = a ∷ b ∷ c ∷ []

abbrev pub vectors : List (List ℕ)
vectors = pair 1 1 ∷ pair 1 2 ∷ []

abbrev pub duals : List (List ℕ)
duals = pair 247 246 ∷ pair 246 246 ∷ []

abbrev pub renewed : List (List ℕ)
renewed = pair 140 141 ∷ pair 141 141 ∷ []

abbrev pub message : List (List ℕ)
message = triple 1 2 3 ∷ triple 4 5 255 ∷ []

abbrev pub packets : List (List ℕ)
packets = triple 5 7 252 ∷ triple 9 8 230 ∷ []

pub record Vectors : Type 0 where
  pub not-zero : at (3 ∷ []) 0 ≡ 0 → ⊥
  pub zero : at (0 ∷ []) 0 ≡ 0
  pub elements : AllSmall byte_field 2 (row vectors)
  pub independent : Independent byte_field 2 (row vectors)

pub record DualRows : Type 0 where
  pub dual : Inverse byte_field 2 (row duals) (row vectors)
  pub small : Small byte_field 2 (at (pair 1 3))
  pub serves-yes : serves byte_field 2 (pair 1 3) (row duals 1) ≡ true
  pub serves-no : serves byte_field 2 (pair 1 1) (row duals 1) ≡ false
  pub renew-is : renew byte_field 2 1 (pair 1 3) duals ≡ renewed

pub record Packets : Type 0 where
  pub good : Message byte_field 3 2 message
  pub mixes : Both (IsMix byte_field 3 2 message) packets vectors
  pub delivers : Delivers byte_field 3 2 (row vectors) (λ m j. mixed byte_field 3 (row vectors j) m)
  pub square : Square byte_field 2 (transpose 2 (row duals))
  pub reads : read_by byte_field 3 (transpose 2 (row duals)) packets ≡ message

-- at hand are the two unit vectors; the coefficients so far are (1, 0), and the trial coefficients (0, 1)
pub record Coefficients : Type 0 where
  pub served : serves_all byte_field 2 (mix byte_field (pair 1 0) (units 2)) (pair 1 1 ∷ []) ≡ true
  pub forbids : serves byte_field 2 (added byte_field (units 2) (pair 1 0) (pair 0 1) 1) (pair 1 1) ≡ false
  pub unserved : serves byte_field 2 (mix byte_field (pair 1 0) (units 2)) (pair 0 1) ≡ false
  pub trial : serves byte_field 2 (mix byte_field (pair 0 1) (units 2)) (pair 0 1) ≡ true
  pub room : 1 + length (pair 1 1 ∷ []) < byte_field.size
  pub lowest-is : lowest (λ t. serves_all byte_field 2 (added byte_field (units 2) (pair 1 0) (pair 0 1) t) (pair 0 1 ∷ pair 1 1 ∷ [])) 255 1 ≡ 2
  -- of the numbers 1, 2 and 3 two are forbidden, by one each
  pub once : (k s t : ℕ) → k < 2 → 0 < s → s < 4 → 0 < t → t < 4 → (s == suc k) ≡ true → (t == suc k) ≡ true → s ≡ t

pub record Met : Type 0 where
  pub vectors-met : Vectors
  pub dual-rows-met : DualRows
  pub packets-met : Packets
  pub coefficients-met : Coefficients
