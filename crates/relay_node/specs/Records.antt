-- Packets and messages in records of bytes, numbers with the high byte first. Defines, in this order:
--   long_bytes, long_at   the bytes of a number of four bytes; the number in the four bytes from a place on
--   packet_record         the bytes of a packet with its link and its round
--   message_record        the bytes of a message with its round
--   take_record           what comes of a record at a node
--   ReadBack              what is written is read back
-- Assumes nothing.
use Rattle.std.specs.Prelude.{◌≡◌, ℕ, ◌+◌, ◌*◌, ◌/◌, ◌%◌, Bool, cond, ◌&&◌, List, ◌∷◌, ◌++◌, length, drop, ◌==◌, nat_lt, slice_index}
use Rattle.std.specs.List.{flat_map, AllByRecursion}
use Rattle.octets.specs.Words.{word_bytes, word_at}
use Rattle.network_cuts.specs.Scheme.{Packet}
use Rattle.relay_theory.specs.Relay.{State, Answer, refused, receive}
use Rattle.relay_memory.specs.Values.{parcel}
use Rattle.relay_node.specs.Steps.{take_packet, take_message}

abbrev pub long_bytes : ℕ → List ℕ
long_bytes x = word_bytes (x / 65536) ++ word_bytes (x % 65536)

abbrev pub long_at : List ℕ → ℕ → ℕ
long_at bs i = 65536 * word_at bs i + word_at bs (i + 2)

-- 3, the link, the round, and 1024 bytes: 1031 in all
abbrev pub packet_record : (link round : ℕ) → Packet → List ℕ
packet_record link round packet = 3 ∷ word_bytes link ++ long_bytes round ++ packet

-- 4, the round, and 1024 bytes for each packet
abbrev pub message_record : (round : ℕ) → List Packet → List ℕ
message_record round packets = 4 ∷ long_bytes round ++ flat_map (λ p. p) packets

-- the packet, or the message, is what lies behind the head of the record
abbrev pub take_record : (source : Bool) (h : ℕ) (ins : List ℕ) → State (List Packet) → List ℕ → Answer (List Packet)
take_record source h ins s bs =
    cond (slice_index bs 0 == 3 && length bs == 1031) (take_packet source ins s (word_at bs 1) (long_at bs 3) (drop 7 bs))
    (cond (slice_index bs 0 == 4 && nat_lt 4 (length bs)) (take_message source h ins s (long_at bs 1) (drop 5 bs)) (refused 1))

pub record ReadBack : Type 0 where
  pub packets : (source : Bool) (h : ℕ) (ins : List ℕ) (s : State (List Packet)) (link round : ℕ) (packet : Packet) → length packet ≡ 1024
      → take_record source h ins s (packet_record link round packet) ≡ take_packet source ins s link round packet
  pub messages : (source : Bool) (h : ℕ) (ins : List ℕ) (s : State (List Packet)) (round : ℕ) (ps : List Packet) → AllByRecursion (λ p. length p ≡ 1024) ps
      → take_record source h ins s (message_record round ps) ≡ cond (source && length ps == h) (receive ins s (parcel 0 round ps)) (refused 1)
