use Rattle.linear.proofs.Dual.{units-dual}
use Rattle.linear.proofs.units_are_their_own_rows.Goals as goal

pub returns : goal.returns
returns c = units-dual
