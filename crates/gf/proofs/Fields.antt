-- Modulo a polynomial of degree d with no factors the numbers below 2 ^ d are a field: the laws of the ring, and the
-- inverses. The field of bytes, and that of numbers of 16 bits.
use Rattle.std.proofs.Common.{ℕ, ◌^◌}
use lib.Bits.{xor_lt}
use Rattle.gf.specs.Polynomial.{mul, Degree, NoFactors}
use Rattle.gf.specs.Laws.{IsField}
use Rattle.gf.specs.Field.{Field}
use Rattle.gf.proofs.Ring.{one-lt, mul-below, mul_comm, mul_assoc, mul-sum, mul-one}
use Rattle.gf.proofs.Inverse.{inverse}
use Rattle.gf.proofs.Polynomials.{degree-byte, byte-no-factors, degree-word, word-no-factors}

laws_of : (d p : ℕ) → Degree d p → NoFactors p → IsField (2 ^ d) (mul d p)
laws_of d p deg none = record {
  more = one-lt d p deg;
  sum_below = xor_lt d;
  times_below = mul-below d p deg;
  comm = mul_comm d p deg;
  assoc = mul_assoc d p deg;
  over-sum = mul-sum d p deg;
  one = mul-one d p deg;
  undo = inverse d p deg none;
}

pub byte_laws : IsField 256 (mul 8 0x11b)
byte_laws = laws_of 8 0x11b degree-byte byte-no-factors

pub word_laws : IsField 65536 (mul 16 0x1100b)
word_laws = laws_of 16 0x1100b degree-word word-no-factors

abbrev pub byte_field : Field
byte_field = record { size = 256; times = mul 8 0x11b; laws = byte_laws }

abbrev pub word_field : Field
word_field = record { size = 65536; times = mul 16 0x1100b; laws = word_laws }
