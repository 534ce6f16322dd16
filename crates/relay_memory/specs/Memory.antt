-- What came in for three rounds, in one memory. Over each link `width` packets come in at once. Defines, in this order:
--   part    one of the parts of n elements that make up a list
--   cut     the packets whose bytes stand one after the other
--   slot    where what came in for a round over a link lies
--   held    what the memory holds for a link and a round, by the tags of its slots
--   row     all that lies where the arrivals of a round do, in the order of the links
-- Assumes nothing.
use Rattle.std.specs.Prelude.{ℕ, ◌+◌, ◌*◌, ◌%◌, cond, ◌&&◌, List, [], ◌∷◌, map, length, take, drop, Some, None, Option, nat_eq, nat_le, slice_index_or}
use Rattle.std.specs.List.{range_with_len}
use Rattle.std.specs.Option.{option_eq}
use Rattle.network_cuts.specs.Scheme.{Packet}
use Rattle.relay_theory.specs.Relay.{is_in}
use Rattle.delivery_theory.specs.Work.{place}

abbrev pub part : {A : Type 0} → (n j : ℕ) → List A → List A
part n j xs = take n (drop (j * n) xs)

-- a packet has 1024 bytes
abbrev pub cut : (count : ℕ) → List ℕ → List Packet
cut count bytes = map (λ j. part 1024 j bytes) (range_with_len 0 count)

-- of n links; i: the place of the link
abbrev pub slot : (n r i : ℕ) → ℕ
slot n r i = r % 3 * n + i

-- the tag of a slot is the round of what is in it; rounds before the one at work are over
unfoldable pub held : (ins : List ℕ) (width round : ℕ) (tags : List (Option ℕ)) (packets : List Packet) → ℕ → ℕ → List (List Packet)
held ins width round tags packets k r =
    let s : ℕ = slot (length ins) r (place k ins) in
    cond (is_in k ins && (nat_le round r && option_eq nat_eq (slice_index_or tags s None) (Some r))) (part width s packets ∷ []) []

abbrev pub row : (n width r : ℕ) → List Packet → List (List Packet)
row n width r packets = map (λ s. part width s packets) (range_with_len (r % 3 * n) n)
