use Rattle.network_cuts.proofs.Across.{alike}
use Rattle.network_cuts.proofs.messages_look_alike.Goals as goal

pub returns : goal.returns
returns c = alike
