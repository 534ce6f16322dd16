-- What a program at a place begins with. Defines, in this order:
--   refusal_of  why there is no node for a role at a place, by its number; 0 where there is one
--   AtWork      a node at the place of a net, at work by a plan that fits the net, at which nothing has come in; one that listens is at a receiver's place
-- Assumes nothing.
use Rattle.std.specs.Prelude.{◌≡◌, ℕ, true}
use Rattle.network.specs.Network.{Multicast}
use Rattle.wire.specs.Plan.{Plan, Fits}
use Rattle.relay_theory.specs.Relay.{fresh, is_in}
use Rattle.relay_memory.specs.Values.{state}
use Rattle.relay_node.specs.Nodes.{At, refusal, receiver_refusal}
use Rattle.relay_node.specs.declared.node.Node.{Node}
use Rattle.relay_console.specs.declared.role.Role.{Role}
use Rattle.relay_console.specs.declared.role.Role.TheVariants.{Relay, Receiver}

abbrev pub refusal_of : Role → Multicast → Plan → ℕ → ℕ
refusal_of Relay = refusal
refusal_of Receiver = receiver_refusal

pub record AtWork (role : Role) (d : Node) : Type 0 where
  pub net : Multicast
  pub plan : Plan
  pub place : ℕ
  pub fits : Fits net plan
  pub works : At net plan place d
  pub receiver : role ≡ Receiver → is_in place net.receivers ≡ true
  pub nothing : state d.slots ≡ fresh
