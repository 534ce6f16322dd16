use Rattle.linear.proofs.Choice.{forbids-at-most-one}
use Rattle.linear.proofs.served_row_forbids_at_most_one.Goals as goal

pub returns : goal.returns
returns c = forbids-at-most-one
