use Rattle.linear.proofs.Reading.{only-rows}
use Rattle.linear.proofs.no_other_rows_read.Goals as goal

pub returns : goal.returns
returns c = only-rows
