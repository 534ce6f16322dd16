use Rattle.linear.proofs.Reading.{independent-read}
use Rattle.linear.proofs.independent_vectors_are_read.Goals as goal

pub returns : goal.returns
returns c = independent-read
