use Rattle.linear.proofs.Transport.{transport}
use Rattle.linear.proofs.mixes_are_carried_on.Goals as goal

pub returns : goal.returns
returns c = transport
