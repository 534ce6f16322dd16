-- What comes of a packet, or of a message, at a node. Defines, in this order:
--   take_packet    a packet, over a link
--   take_message   a message, by its bytes
-- Where they are refused, by the lowest number that applies: 1 is a message that doesn't belong here, and the others are those of `receive`.
-- Assumes nothing.
use Rattle.std.specs.Prelude.{ℕ, ◌*◌, Bool, cond, ◌&&◌, List, [], ◌∷◌, length, ◌==◌}
use Rattle.network_cuts.specs.Scheme.{Packet}
use Rattle.relay_theory.specs.Relay.{State, Answer, refused, receive}
use Rattle.relay_memory.specs.Memory.{cut}
use Rattle.relay_memory.specs.Values.{parcel}

-- of the links that come in here; no packet comes in at the source
abbrev pub take_packet : (source : Bool) (ins : List ℕ) → State (List Packet) → (link round : ℕ) → Packet → Answer (List Packet)
take_packet source ins s link round packet = cond source (refused 6) (receive ins s (parcel link round (packet ∷ [])))

-- h packets make a message, and messages come in at the source alone
abbrev pub take_message : (source : Bool) (h : ℕ) (ins : List ℕ) → State (List Packet) → (round : ℕ) → List ℕ → Answer (List Packet)
take_message source h ins s round bytes = cond (source && length bytes == h * 1024) (receive ins s (parcel 0 round (cut h bytes))) (refused 1)
