use Rattle.linear.proofs.Independence.{test-decides}
use Rattle.linear.proofs.row_decides_independence.Goals as goal

pub returns : goal.returns
returns c = test-decides
