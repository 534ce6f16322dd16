use Rattle.gf.proofs.Polynomials.{word-no-factors}
use Rattle.gf.proofs.word_polynomial_has_no_factors.Goals as goal

pub returns : goal.returns
returns c = word-no-factors
