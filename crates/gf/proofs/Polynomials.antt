-- The two polynomials of the fields, of degrees 8 and 16. That they have no factors is computed, by trial of every
-- polynomial of at most half the degree.
use Rattle.std.proofs.Common.{refl, lit<, lit≤}
use Rattle.gf.specs.Polynomial.{Degree, NoFactors}
use Rattle.gf.proofs.Division.{remainder}
use Rattle.gf.proofs.Trial.{left, tried, no-factors}

pub degree-byte : Degree 8 0x11b
degree-byte = record { some = lit< tt; low = lit≤ tt; high = lit< tt }

pub byte-no-factors : NoFactors 0x11b
unfolding tried left remainder
byte-no-factors = no-factors 8 0x11b degree-byte 4 (lit≤ tt) refl

pub degree-word : Degree 16 0x1100b
degree-word = record { some = lit< tt; low = lit≤ tt; high = lit< tt }

pub word-no-factors : NoFactors 0x1100b
unfolding tried left remainder
word-no-factors = no-factors 16 0x1100b degree-word 8 (lit≤ tt) refl
