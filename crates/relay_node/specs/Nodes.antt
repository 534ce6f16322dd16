-- The node at a place of a net, at work by a plan. Defines, in this order:
--   width, entries     how many packets come in there at once, and over which links
--   Works              a node that sends and reads as the plan says
--   At                 the same of a whole plan: none does where receivers are not served
--   refusal            why there is no node at a place, by its number, the lowest that applies; 0 where there is one
--   receiver_refusal   the same of a receiver
--   Begun              what is answered where a node is asked for: one at which nothing has come in
-- Assumes nothing.
use Rattle.std.specs.Prelude.{◌≡◌, ℕ, true, cond, not, ◌&&◌, List, Ok, Err, vec_items, Result, ◌==◌, nat_lt}
use Rattle.network.specs.Network.{Multicast}
use Rattle.network_cuts.specs.Scheme.{Packet}
use Rattle.wire.specs.Plan.{Reader, Plan, served, unserved}
use Rattle.relay_theory.specs.Relay.{fresh, is_in, origin}
use Rattle.run_theory.specs.Run.{ins, outs}
use Rattle.delivery_theory.specs.Work.{working, reading}
use Rattle.relay_node.specs.NodeErrors.{number}
use Rattle.relay_memory.specs.Values.{state}
use Rattle.relay_node.specs.Values.{goes as goes_of, scheme, reading as reading_of}
use Rattle.relay_node.specs.declared.node.Node.{Node}
use Rattle.relay_node.specs.declared.node_error.NodeError.{NodeError}

-- the packets of a whole message come in at the source, elsewhere one packet over each link
abbrev pub width : Multicast → ℕ → ℕ
width m p = cond (p == 0) m.rate 1

abbrev pub entries : Multicast → ℕ → List ℕ
entries m p = cond (p == 0) origin (ins m.network p)

-- cs: the coefficients of all links; rs: the readers of all receivers
pub record Works (m : Multicast) (cs : List (List ℕ)) (rs : List Reader) (p : ℕ) (d : Node) : Type 0 where
  pub source : d.source ≡ (p == 0)
  pub wide : d.slots.width ≡ width m p
  pub comes : vec_items d.slots.ins ≡ entries m p
  pub goes : goes_of d ≡ outs m.network p
  -- over each link out of it what the plan's scheme makes of the packets at hand
  pub sends : (k : ℕ) → is_in k (outs m.network p) ≡ true → (bs : List Packet) → scheme d k bs ≡ working cs k bs
  -- what the receiver there reads; nothing where there is none
  pub reads : (bs : List Packet) → reading_of d bs ≡ reading m rs p bs

abbrev pub At : Multicast → Plan → ℕ → Node → Type 0
At m (served cs rs) p d = Works m cs rs p d
At m (unserved q side) p d = ⊥

abbrev pub refusal : Multicast → Plan → ℕ → ℕ
refusal m (served cs rs) p = cond (nat_lt p m.network.nodes) 0 2
refusal m (unserved q side) p = cond (nat_lt p m.network.nodes) 9 2

abbrev pub receiver_refusal : Multicast → Plan → ℕ → ℕ
receiver_refusal m q p = cond (nat_lt p m.network.nodes && not (is_in p m.receivers)) 9 (refusal m q p)

abbrev pub Begun : Multicast → Plan → ℕ → (refused : ℕ) → Result Node NodeError → Type 0
Begun m q p refused (Ok d) = (refused ≡ 0) × At m q p d × (state d.slots ≡ fresh)
Begun m q p refused (Err e) = refused ≡ number e
