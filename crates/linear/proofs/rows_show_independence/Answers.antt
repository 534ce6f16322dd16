use Rattle.linear.proofs.Independence.{inverse-independent}
use Rattle.linear.proofs.rows_show_independence.Goals as goal

pub returns : goal.returns
returns c = inverse-independent
