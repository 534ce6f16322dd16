use Rattle.linear.proofs.Reading.{rows-read}
use Rattle.linear.proofs.dual_rows_read.Goals as goal

pub returns : goal.returns
returns c = rows-read
