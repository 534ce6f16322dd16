-- A node that is not the source, packet by packet: each packet stands for itself, and what is sent and read are sums of bytes. Defines, in this
-- order:
--   held, state       what the memory holds for a link and a round; the state that it is
--   over_in           a round that has just ended, and the packets of it that lie in the memory
--   ended_in          the state, and the rounds that have just ended
--   Told              what is told of a packet that comes in
--   mixed             the sum of packets, each times its coefficient
--   scheme, reading   what a node sends over each link out of it, and what a receiver reads
--   packet_in         a packet with its link and its round
--   OneByOne          all this is what the memory and the node do
-- Assumes nothing.
use Rattle.std.specs.Prelude.{◌≡◌, ℕ, ◌≤◌, ◌%◌, ◌+◌, false, cond, ◌&&◌, List, [], ◌∷◌, map, length, Some, None, Ok, Err, Option, Result, vec_items, nat_eq, nat_le, slice_index_or}
use Rattle.std.specs.List.{range_with_len, flat_map}
use Rattle.std.specs.Option.{option_eq}
use Rattle.gf_bytes.specs.Packet.{mix_at}
use Rattle.network_cuts.specs.Scheme.{Packet, Scheme}
use Rattle.relay_theory.specs.Relay.{Parcel, State, fresh, is_in, Over, Ended, Answer, refused, took, receive, at_source}
use Rattle.delivery_theory.specs.Work.{place}
use Rattle.relay_memory.specs.Memory.{part, cut, slot}
use Rattle.relay_memory.specs.Refusals.{number}
use Rattle.relay_memory.specs.Values.{Tells, parcel, state as state_of, over_in as over_in_of}
use Rattle.relay_memory.specs.declared.refusal.Refusal.{Refusal}
use Rattle.relay_memory.specs.declared.slots.Slots.{Slots}
use Rattle.relay_node.specs.Steps.{take_packet}
use Rattle.relay_node.specs.Values.{Alike, coefficients_of, scheme as scheme_of, reading as reading_of}
use Rattle.relay_node.specs.declared.node.Node.{Node}

-- the tag of a slot is the round of the packet in it; rounds before the one at work are over
unfoldable pub held : (ins : List ℕ) (round : ℕ) (tags : List (Option ℕ)) (packets : List Packet) → ℕ → ℕ → List Packet
held ins round tags packets k r =
    let s : ℕ = slot (length ins) r (place k ins) in
    cond (is_in k ins && (nat_le round r && option_eq nat_eq (slice_index_or tags s None) (Some r))) (slice_index_or packets s [] ∷ []) []

abbrev pub state : Slots → State Packet
state s = record { round = s.round; kept = held (vec_items s.ins) s.round (vec_items s.tags) (vec_items s.packets) }

abbrev pub over_in : Slots → ℕ → Over Packet
over_in s r = record { number = r; came = part (length (vec_items s.ins)) (r % 3) (vec_items s.packets) }

-- the rounds `from`, `from` + 1, .. have just ended, `count` of them
abbrev pub ended_in : Slots → (from count : ℕ) → Ended Packet
ended_in s from count = record { state = state s; rounds = map (over_in s) (range_with_len from count) }

-- a refusal leaves all as it was; else the rounds that ended begin with the one that was at work
abbrev pub Told : (before after : Slots) → Result ℕ Refusal → Answer Packet → Type 0
Told before after (Err f) a = (a ≡ refused (number f)) × (after ≡ before)
Told before after (Ok count) a = (count ≤ 3) × (after.round ≡ before.round + count) × (a ≡ took (ended_in after before.round count))

-- a packet has 1024 bytes
abbrev pub mixed : List ℕ → List Packet → Packet
mixed cs bs = map (mix_at cs bs) (range_with_len 0 1024)

abbrev pub scheme : Node → Scheme
scheme d k bs = mixed (coefficients_of k (vec_items d.outs)) bs

abbrev pub reading : Node → List Packet → List Packet
reading d bs = map (λ q. mixed q (map (λ i. slice_index_or bs i []) (vec_items d.current))) (map vec_items (vec_items d.rows))

abbrev pub packet_in : ℕ → ℕ → Packet → Parcel Packet
packet_in link round packet = record { link = link; round = round; content = packet }

pub record OneByOne : Type 0 where
  -- in a memory to which packets come one by one, at first and when one comes
  pub begins : (s : Slots) → s.width ≡ 1 → state_of s ≡ fresh → state s ≡ fresh
  pub keeps : (before after : Slots) → before.width ≡ 1 → after.width ≡ before.width → (link round : ℕ) (packet : Packet) → length packet ≡ 1024 → (r : Result ℕ Refusal)
      → Tells before after r (receive (vec_items before.ins) (state_of before) (parcel link round (cut before.width packet)))
      → Told before after r (receive (vec_items before.ins) (state before) (packet_in link round packet))
  -- at a node that is not the source
  pub takes : (before after : Node) → before.source ≡ false → Alike before after → (link round : ℕ) (packet : Packet) (r : Result ℕ Refusal)
      → Tells before.slots after.slots r (take_packet before.source (vec_items before.slots.ins) (state_of before.slots) link round packet)
      → Told before.slots after.slots r (receive (vec_items before.slots.ins) (state before.slots) (packet_in link round packet))
  pub sends : (d : Node) → d.source ≡ false → (k r : ℕ) → at_source (scheme_of d) k (over_in_of d.slots r).came ≡ scheme d k (over_in d.slots r).came
  pub reads : (d : Node) → d.source ≡ false → (r : ℕ) → reading_of d (flat_map (λ m. m) (over_in_of d.slots r).came) ≡ reading d (over_in d.slots r).came
