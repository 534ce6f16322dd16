use Rattle.linear.proofs.Independence.{one-vector-alone}
use Rattle.linear.proofs.one_vector_alone.Goals as goal

pub returns : goal.returns
returns c = one-vector-alone
