use Rattle.linear.proofs.Reading.{mixes-delivered}
use Rattle.linear.proofs.mixes_are_delivered.Goals as goal

pub returns : goal.returns
returns c = mixes-delivered
