use Rattle.linear.proofs.Transport.{unmixed}
use Rattle.linear.proofs.message_is_unmixed.Goals as goal

pub returns : goal.returns
returns c = unmixed
