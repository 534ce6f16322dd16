--   sum   the sum of f 0, .., f (n - 1), by bit_xor
use Rattle.std.specs.Prelude.{ℕ, zero, suc, bit_xor}

abbrev pub sum : ℕ → (ℕ → ℕ) → ℕ
sum zero f = 0
sum (suc n) f = bit_xor (sum n f) (f n)
