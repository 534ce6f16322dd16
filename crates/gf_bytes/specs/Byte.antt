-- The field of bytes, modulo x^8 + x^4 + x^3 + x + 1, which is 0x11b. The sum is bit_xor.
--   times_x   the product of a byte with x
--   times     the product of two bytes
use Rattle.std.specs.Prelude.{ℕ}
use Rattle.gf.specs.Polynomial.{mul, xtime}

abbrev pub times_x : ℕ → ℕ
times_x a = xtime 8 0x11b a

abbrev pub times : ℕ → ℕ → ℕ
times a b = mul 8 0x11b a b
