use Rattle.linear.proofs.Pigeonhole.{some_left}
use Rattle.linear.proofs.some_number_is_left.Goals as goal

pub returns : goal.returns
returns c = some_left
