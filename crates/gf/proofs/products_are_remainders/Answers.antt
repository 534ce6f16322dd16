use Rattle.gf.proofs.Modulo.{mul-remainder}
use Rattle.gf.proofs.products_are_remainders.Goals as goal

pub returns : goal.returns
returns c = mul-remainder
