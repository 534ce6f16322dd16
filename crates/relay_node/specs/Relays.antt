-- Nodes at work by a plan, in the words in which relays and whole runs are defined. Defines, in this order:
--   recent     the rounds that have just ended at a node
--   sending    the packets that it sends for them, by its own coefficients
--   putting    what the receiver there puts out for them, by its own rows
--   Relayed    what is told of a packet at a node, not the source: what a relay in state s makes of it
--   Relays     so it is of every node at work by a plan
--   Sources    at the source, to which messages come in order, the packets of each are sent at once
-- In `Relayed` a packet stands for itself; the memory of a node holds it as a list of one, as at the source it holds the packets of a message.
-- Assumes nothing.
use Rattle.std.specs.Prelude.{◌≡◌, ℕ, ◌+◌, ◌*◌, List, map, length, Ok, Err, Result, vec_items, ◌≢◌}
use Rattle.std.specs.List.{range_with_len, flat_map}
use Rattle.network.specs.Network.{Multicast}
use Rattle.network_cuts.specs.Scheme.{Packet}
use Rattle.wire.specs.Plan.{Reader}
use Rattle.relay_theory.specs.Relay.{Parcel, State, Over, Ended, refused, took, receive, send, sent, readings, at_source}
use Rattle.relay_theory.specs.Law.{begun}
use Rattle.relay_theory.specs.Mapped.{map_state, alone}
use Rattle.run_theory.specs.Run.{ins, outs}
use Rattle.delivery_theory.specs.Work.{working, reading}
use Rattle.relay_memory.specs.Memory.{cut}
use Rattle.relay_memory.specs.Refusals.{number}
use Rattle.relay_memory.specs.Values.{state, over_in, Tells}
use Rattle.relay_memory.specs.declared.refusal.Refusal.{Refusal}
use Rattle.relay_node.specs.Nodes.{Works}
use Rattle.relay_node.specs.Steps.{take_packet, take_message}
use Rattle.relay_node.specs.Values.{Alike, goes, scheme, reading as reading_of}
use Rattle.relay_node.specs.declared.node.Node.{Node}

-- from: the first of them; count: how many
abbrev pub recent : Node → (from count : ℕ) → List (Over (List Packet))
recent d from count = map (over_in d.slots) (range_with_len from count)

abbrev pub sending : Node → (from count : ℕ) → List (Parcel Packet)
sending d from count = sent (at_source (scheme d)) (goes d) (recent d from count)

abbrev pub putting : Node → (from count : ℕ) → List (List Packet)
putting d from count = readings (λ ms. reading_of d (flat_map (λ m. m) ms)) (recent d from count)

-- of the node at p, before and after; a round that ends is sent by the plan's scheme, and read as the plan says
abbrev pub Relayed : (m : Multicast) (cs : List (List ℕ)) (rs : List Reader) (p : ℕ) → State Packet → Parcel Packet → (before after : Node) → Result ℕ Refusal → Type 0
Relayed m cs rs p s x before after (Err f) = (receive (ins m.network p) s x ≡ refused (number f)) × (after.slots ≡ before.slots)
Relayed m cs rs p s x before after (Ok count) =
    (e : Ended Packet) × (receive (ins m.network p) s x ≡ took e) × (state after.slots ≡ map_state alone e.state)
    × (sending after before.slots.round count ≡ sent (working cs) (outs m.network p) e.rounds)
    × (putting after before.slots.round count ≡ readings (reading m rs p) e.rounds)

abbrev pub Relays : Type 0
Relays =
    (m : Multicast) (cs : List (List ℕ)) (rs : List Reader) (p : ℕ) → (p ≢ 0) → (before after : Node) → Works m cs rs p before → Alike before after
    → (s : State Packet) → state before.slots ≡ map_state alone s → (x : Parcel Packet) (o : Result ℕ Refusal)
    → Tells before.slots after.slots o (take_packet before.source (vec_items before.slots.ins) (state before.slots) x.link x.round x.content)
    → Relayed m cs rs p s x before after o

-- n messages have begun, and the next one comes in by its bytes
abbrev pub Sources : Type 0
Sources =
    (m : Multicast) (cs : List (List ℕ)) (rs : List Reader) (before after : Node) → Works m cs rs 0 before → Alike before after
    → (n : ℕ) → state before.slots ≡ begun n → (bytes : List ℕ) → length bytes ≡ m.rate * 1024 → (o : Result ℕ Refusal)
    → Tells before.slots after.slots o (take_message before.source before.slots.width (vec_items before.slots.ins) (state before.slots) n bytes)
    → (count : ℕ) × (o ≡ Ok count) × (state after.slots ≡ begun (n + 1))
    × (sending after before.slots.round count ≡ send (working cs) n (cut m.rate bytes) (outs m.network 0))
