-- Vectors of up to 32 bytes, padded with zeros to 32.
--   SumOf        r is the sum of x and y, place by place
--   MultipleOf   r is x times a factor, place by place
--   dot_of       the sum of the products of the first n places of x and y
use Rattle.std.specs.Prelude.{◌≡◌, ℕ, ◌<◌, List, bit_xor, slice_index}
use Rattle.gf.specs.Sum.{sum}
use Rattle.gf_bytes.specs.Byte.{times}

abbrev pub SumOf : List ℕ → List ℕ → List ℕ → Type 0
SumOf x y r = (k : ℕ) → k < 32 → slice_index r k ≡ bit_xor (slice_index x k) (slice_index y k)

abbrev pub MultipleOf : ℕ → List ℕ → List ℕ → Type 0
MultipleOf factor x r = (k : ℕ) → k < 32 → slice_index r k ≡ times factor (slice_index x k)

abbrev pub dot_of : ℕ → List ℕ → List ℕ → ℕ
dot_of n x y = sum n (λ k. times (slice_index x k) (slice_index y k))
