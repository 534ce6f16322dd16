use Rattle.relay_node.proofs.Relays.{relays, sources}
use Rattle.relay_node.proofs.theorems.nodes_relay.Goals as goal

pub returns : goal.returns
returns c = record { relays = relays; source = sources }
