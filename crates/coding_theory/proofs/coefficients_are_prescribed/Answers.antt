use Rattle.coding_theory.proofs.Prescribed.{as-prescribed}
use Rattle.coding_theory.proofs.coefficients_are_prescribed.Goals as goal

pub returns : goal.returns
returns c = as-prescribed
