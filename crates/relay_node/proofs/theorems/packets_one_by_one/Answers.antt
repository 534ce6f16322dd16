use Rattle.relay_node.proofs.Packets.{one-by-one}
use Rattle.relay_node.proofs.theorems.packets_one_by_one.Goals as goal

pub returns : goal.returns
returns c = one-by-one
