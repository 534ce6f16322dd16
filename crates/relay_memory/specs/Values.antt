-- What the program's values stand for. Defines, in this order:
--   parcel    packets that come in at once, with their link and round
--   state     the state that the memory of a node is
--   over_in   a round that has just ended, and what lies in the memory of it
--   ended_in  the state, and the rounds that have just ended
--   Tells     what is told of what comes in
-- Assumes nothing.
use Rattle.std.specs.Prelude.{◌≡◌, ℕ, ◌+◌, ◌≤◌, List, map, length, Ok, Err, Result, vec_items}
use Rattle.std.specs.List.{range_with_len}
use Rattle.network_cuts.specs.Scheme.{Packet}
use Rattle.relay_theory.specs.Relay.{Parcel, State, Over, Ended, Answer, refused, took}
use Rattle.relay_memory.specs.Refusals.{number}
use Rattle.relay_memory.specs.Memory.{held, row}
use Rattle.relay_memory.specs.declared.refusal.Refusal.{Refusal}
use Rattle.relay_memory.specs.declared.slots.Slots.{Slots}

abbrev pub parcel : ℕ → ℕ → List Packet → Parcel (List Packet)
parcel link round packets = record { link = link; round = round; content = packets }

abbrev pub state : Slots → State (List Packet)
state s = record { round = s.round; kept = held (vec_items s.ins) s.width s.round (vec_items s.tags) (vec_items s.packets) }

abbrev pub over_in : Slots → ℕ → Over (List Packet)
over_in s r = record { number = r; came = row (length (vec_items s.ins)) s.width r (vec_items s.packets) }

-- the rounds `from`, `from` + 1, .. have just ended, `count` of them
abbrev pub ended_in : Slots → (from count : ℕ) → Ended (List Packet)
ended_in s from count = record { state = state s; rounds = map (over_in s) (range_with_len from count) }

-- a refusal leaves all as it was; else so many rounds have ended, beginning with the one that was at work
abbrev pub Tells : (before after : Slots) → Result ℕ Refusal → Answer (List Packet) → Type 0
Tells before after (Err f) a = (a ≡ refused (number f)) × (after ≡ before)
Tells before after (Ok count) a = (count ≤ 3) × (after.round ≡ before.round + count) × (a ≡ took (ended_in after before.round count))
