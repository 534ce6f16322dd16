use Rattle.linear.proofs.Choice.{forbids-none}
use Rattle.linear.proofs.unserved_row_forbids_none.Goals as goal

pub returns : goal.returns
returns c = forbids-none
