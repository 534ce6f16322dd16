use Rattle.relay_theory.proofs.Law.{begins}
use Rattle.relay_theory.proofs.source_sends_each_message.Goals as goal

pub returns : goal.returns
returns c = begins
