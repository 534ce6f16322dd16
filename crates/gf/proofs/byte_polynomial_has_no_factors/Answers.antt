use Rattle.gf.proofs.Polynomials.{byte-no-factors}
use Rattle.gf.proofs.byte_polynomial_has_no_factors.Goals as goal

pub returns : goal.returns
returns c = byte-no-factors
