-- The bytes of a plan, and how they are read. Defines, in this order:
--   link_bytes, reader_bytes     the bytes of a link's coefficients, and of a reader
--   flag_byte, side_bytes        the flags of eight nodes, and of all
--   plan_bytes                  the bytes of a plan
--   Read, Parser               what was read, and what is left; or the number of a fault, and where the item that has it begins and ends
--   and_then, item, each        one reader behind another; one item, judged; one for each element of a list
--   head_item, link_item, reader_item, cut_item    the items of a plan
--   served_items, body, items, end              the items in order, by the kind
--   read_plan                   the plan, or the lowest fault of the first item that has one
--   Local                      a fault does not depend on what lies behind its item
-- Assumes nothing.
use Rattle.std.specs.Prelude.{◌≡◌, ℕ, zero, suc, ◌+◌, ◌-◌, ◌*◌, ◌/◌, ◌%◌, ◌^◌, Bool, true, false, cond, not, ◌&&◌, ◌||◌, List, [], ◌∷◌, ◌++◌, map, length, take, drop, ◌==◌, nat_lt, slice_index, slice_index_or}
use Rattle.std.specs.List.{range_with_len, flat_map}
use Rattle.octets.specs.Words.{word_bytes, word_at}
use Rattle.network.specs.Network.{Link, Multicast, link_at}
use Rattle.wire.specs.Plan.{Reader, Plan, served, unserved, hands}

-- WRITING

-- how many coefficients, and the coefficients
abbrev pub link_bytes : List ℕ → List ℕ
link_bytes cs = word_bytes (length cs) ++ cs

-- the links, and the rows one after the other
abbrev pub reader_bytes : Reader → List ℕ
reader_bytes r = flat_map word_bytes r.links ++ flat_map (λ row. row) r.rows

abbrev pub bit : List Bool → ℕ → ℕ
bit side p = cond (slice_index_or side p false) 1 0

-- the flags of the eight nodes from p on, the first the lowest bit
unfoldable pub flag_byte : List Bool → ℕ → ℕ
flag_byte side p =
    bit side p + 2 * bit side (p + 1) + 4 * bit side (p + 2) + 8 * bit side (p + 3)
    + 16 * bit side (p + 4) + 32 * bit side (p + 5) + 64 * bit side (p + 6) + 128 * bit side (p + 7)

-- 32 bytes, of which the last has the flags of the first eight nodes
abbrev pub side_bytes : List Bool → List ℕ
side_bytes side = map (λ i. flag_byte side (8 * (31 - i))) (range_with_len 0 32)

-- 2, the kind, and what it holds
abbrev pub plan_bytes : Plan → List ℕ
plan_bytes (served cs rs) = 2 ∷ 1 ∷ flat_map link_bytes cs ++ flat_map reader_bytes rs
plan_bytes (unserved p side) = 2 ∷ 2 ∷ word_bytes p ++ side_bytes side

-- READING, ITEM BY ITEM

-- at: where the bytes that are left begin; an item lies from `at` to `stop` (not included)
pub data Read (A : Type 0) : Type 0 where
  got : A → (at : ℕ) (rest : List ℕ) → Read A
  fault : (number at stop : ℕ) → Read A

-- how bytes are read that begin at a place
abbrev pub Parser : Type 0 → Type 0
Parser A = (at : ℕ) (bs : List ℕ) → Read A

abbrev pub and_then : {A B : Type 0} → Read A → (A → Parser B) → Read B
and_then (got x at rest) go = go x at rest
and_then (fault number at stop) go = fault number at stop

-- an item of n bytes that stands for x, and whose lowest fault is `number`, 0 for none; one that is cut short has fault 1, the lowest of all
unfoldable pub item : {A : Type 0} → (n number : ℕ) → A → Parser A
item n number x at bs = cond (nat_lt (length bs) n) (fault 1 at (at + n)) (cond (number == 0) (got x (at + n) (drop n bs)) (fault number at (at + n)))

abbrev pub before : {A : Type 0} → A → Read (List A) → Read (List A)
before x r = and_then r (λ xs. got (x ∷ xs))

unfoldable pub each : {X A : Type 0} → (X → Parser A) → List X → Parser (List A)
each parse [] at bs = got [] at bs
each parse (x ∷ xs) at bs = and_then (parse x at bs) (λ a at₁ rest. before a (each parse xs at₁ rest))

-- the kind: 1 served, 2 cut
abbrev pub head_item : Parser ℕ
head_item at bs = item 2 (cond (slice_index bs 0 == 2 && (slice_index bs 1 == 1 || slice_index bs 1 == 2)) 0 1) (slice_index bs 1) at bs

-- a count, and as many coefficients; there must be as many as packets are at hand
abbrev pub link_item : (hand : ℕ) → Parser (List ℕ)
link_item hand at bs = let n : ℕ = word_at bs 0 in item (2 + n) (cond (n == hand) 0 9) (take n (drop 2 bs)) at bs

abbrev pub words_in : ℕ → List ℕ → List ℕ
words_in n bs = map (λ j. word_at bs (2 * j)) (range_with_len 0 n)

-- n rows of h bytes
unfoldable pub rows_in : (h n : ℕ) → List ℕ → List (List ℕ)
rows_in h zero bs = []
rows_in h (suc n) bs = take h bs ∷ rows_in h n (drop h bs)

unfoldable pub all_come : List Link → (p : ℕ) → List ℕ → Bool
all_come ls p [] = true
all_come ls p (k ∷ ks) = (nat_lt k (length ls) && (link_at ls k).to == p) && all_come ls p ks

-- a receiver at node p, h packets to a message
abbrev pub reader_item : List Link → (h p : ℕ) → Parser Reader
reader_item ls h p at bs =
    item (2 * h + h * h) (cond (all_come ls p (words_in h bs)) 0 9) (record { links = words_in h bs; rows = rows_in h h (drop (2 * h) bs) }) at bs

-- the flag of node p
abbrev pub flag_in : List ℕ → ℕ → Bool
flag_in bs p = slice_index bs (31 - p / 8) / 2 ^ (p % 8) % 2 == 1

abbrev pub side_in : List ℕ → List Bool
side_in bs = map (flag_in bs) (range_with_len 0 256)

-- a node from `nodes` on is flagged
unfoldable pub beyond : (nodes : ℕ) → List Bool → Bool
beyond nodes [] = false
beyond zero (b ∷ side) = b || beyond zero side
beyond (suc n) (b ∷ side) = beyond n side

unfoldable pub among : ℕ → List ℕ → Bool
among p [] = false
among p (q ∷ qs) = p == q || among p qs

abbrev pub cut_fault : Multicast → (p : ℕ) → List Bool → ℕ
cut_fault m p side = cond (nat_lt p m.network.nodes && not (beyond m.network.nodes side)) (cond (among p m.receivers) 0 9) 2

abbrev pub cut_item : Multicast → Parser Plan
cut_item m at bs = let side : List Bool = side_in (drop 2 bs) in item 34 (cut_fault m (word_at bs 0) side) (unserved (word_at bs 0) side) at bs

abbrev pub served_items : Multicast → Parser Plan
served_items m at bs =
    and_then (each link_item (hands m) at bs)
    (λ cs at₁ rest. and_then (each (reader_item m.network.links m.rate) m.receivers at₁ rest) (λ rs. got (served cs rs)))

abbrev pub body : Multicast → (kind : ℕ) → Parser Plan
body m kind at bs = cond (kind == 1) (served_items m at bs) (cut_item m at bs)

abbrev pub items : Multicast → Parser Plan
items m at bs = and_then (head_item at bs) (body m)

-- the end: no byte may be left over; the first that is one has the fault
abbrev pub end : Plan → Parser Plan
end p at [] = got p at []
end p at (b ∷ bs) = fault 1 at (at + 1)

unfoldable pub read_plan : Multicast → List ℕ → Read Plan
read_plan m bs = and_then (items m 0 bs) end

-- all bytes that agree with these up to the end of the item have the same fault
abbrev pub Local : Multicast → List ℕ → (number at stop : ℕ) → Type 0
Local m bs number at stop = (cs : List ℕ) → take stop cs ≡ take stop bs → read_plan m cs ≡ fault number at stop
