-- Dual rows of vectors of bytes. Defines, in this order:
--   bytes_of vs       the bytes of each vector
--   AllCounted h vs   each of the vectors has h coefficients
--   SameRows h d e    the first h places of the first h rows are the same
-- Assumes nothing.
use Rattle.std.specs.Prelude.{◌≡◌, ℕ, ◌<◌, List, map, length, slice_index}
use Rattle.gf_bytes.specs.declared.vector.Vector.{Vector}
use Rattle.linear.specs.Vectors.{at, row}

abbrev pub bytes_of : List Vector → List (List ℕ)
bytes_of vs = map (λ v. v.bytes) vs

abbrev pub AllCounted : ℕ → List Vector → Type 0
AllCounted h vs = (i : ℕ) → i < length vs → slice_index (map (λ v. v.count) vs) i ≡ h

abbrev pub SameRows : ℕ → List (List ℕ) → List (List ℕ) → Type 0
SameRows h d e = (i k : ℕ) → i < h → k < h → at (row d i) k ≡ at (row e i) k
