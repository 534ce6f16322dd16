-- What a node does with what comes in: Took, the node after it, by the answer of the definition. Assumes nothing.
use Rattle.std.specs.Prelude.{ℕ, List, Result}
use Rattle.network_cuts.specs.Scheme.{Packet}
use Rattle.relay_theory.specs.Relay.{Answer}
use Rattle.relay_memory.specs.Values.{Tells}
use Rattle.relay_node.specs.Values.{Alike}
use Rattle.relay_node.specs.declared.node.Node.{Node}
use Rattle.relay_memory.specs.declared.refusal.Refusal.{Refusal}

-- it tells of it, and the node sends and reads as before
abbrev pub Took : (before after : Node) → Answer (List Packet) → Type 0
Took before after a = ((o : Result ℕ Refusal) × Tells before.slots after.slots o a) × Alike before after
