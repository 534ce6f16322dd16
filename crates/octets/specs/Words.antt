-- Numbers of two bytes, the high one first. Defines, in this order:
--   word_bytes   the bytes of a number
--   word_at      the number in the two bytes from a place on
-- Assumes nothing.
use Rattle.std.specs.Prelude.{ℕ, ◌+◌, ◌*◌, ◌/◌, ◌%◌, List, [], ◌∷◌, slice_index}

abbrev pub word_bytes : ℕ → List ℕ
word_bytes x = x / 256 ∷ x % 256 ∷ []

unfoldable pub word_at : List ℕ → ℕ → ℕ
word_at bs i = 256 * slice_index bs i + slice_index bs (i + 1)
