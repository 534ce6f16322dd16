use Rattle.relay_theory.proofs.Mapped.{alone-holds}
use Rattle.relay_theory.proofs.packets_may_come_as_lists.Goals as goal

pub returns : goal.returns
returns c = alone-holds
