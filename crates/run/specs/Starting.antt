-- The player of a net before the first message. Defines, in this order:
--   Ready     nodes that work by the plan, and at which nothing has come in
--   Filled    what is answered where nodes are asked for: those at the first places, or why there are none
--   Begins    a player that stands for the start of a run by the plan
--   Started   what is answered where a player is asked for: one that stands for the start of a run
-- Assumes nothing.
use Rattle.std.specs.Prelude.{◌≡◌, ℕ, ◌<◌, List, length, get_or, Ok, Err, vec_items, Result, Vec, slice_index_or}
use Rattle.std.specs.declared.alloc.Global.{Global}
use Rattle.network.specs.Network.{Multicast}
use Rattle.wire.specs.Plan.{Plan, served, unserved}
use Rattle.relay_theory.specs.Relay.{fresh}
use Rattle.run_theory.specs.Run.{start}
use Rattle.relay_node.specs.NodeErrors.{number}
use Rattle.relay_node.specs.Nodes.{At, refusal}
use Rattle.relay_memory.specs.Values.{state}
use Rattle.relay_node.specs.declared.node.Node.{Node}
use Rattle.relay_node.specs.declared.node_error.NodeError.{NodeError}
use Rattle.run.specs.Stands.{Stands}
use Rattle.run.specs.declared.player.Player.{Player}

-- nothing has come in anywhere
abbrev pub Ready : Multicast → Plan → List Node → Type 0
Ready m q nodes = (p : ℕ) (d : Node) → p < length nodes → At m q p (slice_index_or nodes p d) × (state (get_or nodes p d).slots ≡ fresh)

abbrev pub Filled : Multicast → Plan → ℕ → Result (Vec Node Global) NodeError → Type 0
Filled m q end (Ok v) = (length (vec_items v) ≡ end) × Ready m q (vec_items v)
Filled m q end (Err e) = (p : ℕ) × (p < end) × ((refusal m q p ≡ number e))

abbrev pub Begins : Multicast → Plan → Player → Type 0
Begins m (served cs rs) y = Stands m cs rs y start
Begins m (unserved p side) y = ⊥

abbrev pub Started : Multicast → Plan → Result Player NodeError → Type 0
Started m q (Ok y) = Begins m q y
Started m q (Err e) = refusal m q 0 ≡ number e
