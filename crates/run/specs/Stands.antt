-- What a player of a net stands for, by a plan with the coefficients cs and the readers rs. Defines, in this order:
--   busy     how many of some messages have a packet on a link that is not all 0
--   Fitted   the player has a node for each place of the net, which works by the plan
--   held     the packets of a round that a node has in memory
--   Stands   the player stands for a state of a run in which nothing is under way
--   Midway   the same while a message is played: its packets on the links before link k have arrived
-- Assumes nothing.
use Rattle.std.specs.Prelude.{◌≡◌, ℕ, ◌+◌, ◌<◌, ◌≤◌, true, cond, List, [], ◌∷◌, ◌++◌, length, get_or, vec_items, slice_index, slice_index_or}
use Rattle.std.specs.List.{flat_map}
use Rattle.network.specs.Network.{Network, Multicast}
use Rattle.network_cuts.specs.Scheme.{Packet, Scheme, carried, got}
use Rattle.wire.specs.Plan.{Reader}
use Rattle.relay_theory.specs.Relay.{any}
use Rattle.relay_theory.specs.Law.{begun}
use Rattle.relay_theory.specs.Mapped.{map_state, alone}
use Rattle.run_theory.specs.Run.{Config, ins}
use Rattle.play_theory.specs.Round.{Rests, Passed}
use Rattle.delivery_theory.specs.Work.{working, reading}
use Rattle.relay_memory.specs.Values.{state, over_in}
use Rattle.relay_node.specs.declared.node.Node.{Node}
use Rattle.relay_node.specs.Nodes.{Works}
use Rattle.run.specs.Zero.{zeros}
use Rattle.run.specs.declared.player.Player.{Player}

unfoldable pub busy : Network → Scheme → ℕ → List (List Packet) → ℕ
busy z f k [] = 0
busy z f k (msg ∷ msgs) = cond (zeros (slice_index_or (carried z f msg) k [])) 0 1 + busy z f k msgs

-- d: what stands past the end of the list
pub record Fitted (m : Multicast) (cs : List (List ℕ)) (rs : List Reader) (y : Player) : Type 0 where
  pub every : length (vec_items y.nodes) ≡ m.network.nodes
  pub works : (p : ℕ) (d : Node) → p < m.network.nodes → Works m cs rs p (slice_index_or (vec_items y.nodes) p d)
  pub lines : length (vec_items y.counts) ≡ length m.network.links

-- the packets of round r that the node at place p has in memory
abbrev pub held : Player → (r p : ℕ) → Node → List Packet
held y r p d = flat_map (λ b. b) (over_in (get_or (vec_items y.nodes) p d).slots r).came

pub record Stands (m : Multicast) (cs : List (List ℕ)) (rs : List Reader) (y : Player) (c : Config) : Type 0 where
  pub fitted : Fitted m cs rs y
  pub rests : Rests m.network (working cs) (reading m rs) c
  pub number : y.round ≡ length c.begun
  pub source : (d : Node) → state (get_or (vec_items y.nodes) 0 d).slots ≡ begun y.round
  pub states : (p : ℕ) (d : Node) → 0 < p → p < m.network.nodes → state (get_or (vec_items y.nodes) p d).slots ≡ map_state alone (c.states p)
  -- what came in for the last message is still in memory
  pub last : (p : ℕ) (d : Node) (msgs : List (List Packet)) (msg : List Packet) → 0 < p → p < m.network.nodes → any (ins m.network p) ≡ true
      → c.begun ≡ msgs ++ msg ∷ [] → held y (length msgs) p d ≡ got m.network (working cs) p msg
  pub counts : (k : ℕ) → k < length m.network.links → slice_index (vec_items y.counts) k ≡ busy m.network (working cs) k c.begun

-- c: the state in which the message began
pub record Midway (m : Multicast) (cs : List (List ℕ)) (rs : List Reader) (c : Config) (msg : List Packet) (k : ℕ) (y : Player) (now : Config) : Type 0 where
  pub fitted : Fitted m cs rs y
  pub rests : Rests m.network (working cs) (reading m rs) c
  pub passed : Passed m.network (working cs) (reading m rs) c msg k now
  pub number : y.round ≡ length c.begun
  pub source : (d : Node) → state (get_or (vec_items y.nodes) 0 d).slots ≡ begun (y.round + 1)
  pub message : (d : Node) → held y y.round 0 d ≡ msg
  pub states : (p : ℕ) (d : Node) → 0 < p → p < m.network.nodes → state (get_or (vec_items y.nodes) p d).slots ≡ map_state alone (now.states p)
  -- a node that has ended the round has its packets
  pub came : (p : ℕ) (d : Node) → 0 < p → p < m.network.nodes → y.round < (now.states p).round → held y y.round p d ≡ got m.network (working cs) p msg
  pub past : (j : ℕ) → j < k → j < length m.network.links → slice_index (vec_items y.counts) j ≡ busy m.network (working cs) j (c.begun ++ msg ∷ [])
  pub ahead : (j : ℕ) → k ≤ j → j < length m.network.links → slice_index (vec_items y.counts) j ≡ busy m.network (working cs) j c.begun
