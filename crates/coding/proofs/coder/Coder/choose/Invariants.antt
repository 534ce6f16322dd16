use Rattle.std.proofs.Common.{◌≡◌, map, length, take, vec_items}
use Rattle.network.specs.Network.{link_at}
use Rattle.network.specs.Values.{graph}
use Rattle.coding_theory.specs.Coding.{at_hand}
use Rattle.coding_steps.specs.Carriers.{carrier}
use Rattle.coding.specs.Aims.{aims_on}
use Rattle.coding.proofs.Linked.{Turn}
use Rattle.coding.proofs.coder.Coder.choose.Given as goal

abbrev pub invariant-loop-receiver : goal.invariant-loop-receiver
invariant-loop-receiver l = record {
  hands : map carrier (vec_items l.choice.hands) ≡ at_hand l.self.h (link_at (graph l.self.network.now).links (length (vec_items l.self.vectors))).from (take (length (vec_items l.self.vectors)) (graph l.self.network.now).links);
  turn : Turn (graph l.self.network.now) l.self.h (aims_on (vec_items l.self.receivers)) (length (vec_items l.self.vectors)) l.receiver-index (vec_items l.choice.coefficients) l.choice.vector (vec_items l.choice.rows);
}
