-- The bytes of a net, and how they are read. Defines, in this order:
--   bytes_of    the bytes of a net
--   net_in      the net whose bytes they would be, by the places of its parts
--   fault_in    the first item with a fault, and its lowest fault
--   read_net    the net, or that fault
--   Local       a fault does not depend on what lies behind its item
-- Assumes nothing.
use Rattle.std.specs.Prelude.{◌≡◌, ℕ, zero, suc, ◌+◌, ◌*◌, ◌≤◌, Bool, false, cond, not, ◌&&◌, ◌||◌, List, ◌∷◌, ◌++◌, map, length, take, ◌==◌, nat_le, nat_lt, slice_index}
use Rattle.std.specs.List.{range_with_len, flat_map}
use Rattle.network.specs.Network.{Link, Multicast}
use Rattle.octets.specs.Reading.{Reading, got, fault, fine, next, item}
use Rattle.octets.specs.Words.{word_bytes, word_at}

-- WRITING

abbrev pub link_bytes : Link → List ℕ
link_bytes l = word_bytes l.from ++ word_bytes l.to

-- 1, the number of nodes, the number of links
abbrev pub head_bytes : (nodes n : ℕ) → List ℕ
head_bytes nodes n = 1 ∷ word_bytes nodes ++ word_bytes n

abbrev pub bytes_of : Multicast → List ℕ
bytes_of m =
    head_bytes m.network.nodes (length m.network.links) ++ flat_map link_bytes m.network.links
    ++ (m.rate ∷ length m.receivers ∷ flat_map word_bytes m.receivers)

-- WHERE THE PARTS OF A NET STAND

abbrev pub nodes_in : List ℕ → ℕ
nodes_in bs = word_at bs 1

abbrev pub links_in : List ℕ → ℕ
links_in bs = word_at bs 3

abbrev pub from_in : List ℕ → ℕ → ℕ
from_in bs k = word_at bs (5 + 4 * k)

abbrev pub to_in : List ℕ → ℕ → ℕ
to_in bs k = word_at bs (7 + 4 * k)

abbrev pub link_in : List ℕ → ℕ → Link
link_in bs k = record { from = from_in bs k; to = to_in bs k }

-- behind n links stand the rate and the number of receivers, and behind these the receivers
abbrev pub rate_in : List ℕ → ℕ → ℕ
rate_in bs n = slice_index bs (5 + 4 * n)

abbrev pub receivers_in : List ℕ → ℕ → ℕ
receivers_in bs n = slice_index bs (6 + 4 * n)

abbrev pub receiver_in : List ℕ → ℕ → ℕ → ℕ
receiver_in bs n i = word_at bs (7 + 4 * n + 2 * i)

unfoldable pub net_in : List ℕ → Multicast
net_in bs =
    let n : ℕ = links_in bs in
    record {
      network = record { nodes = nodes_in bs; links = map (link_in bs) (range_with_len 0 n) };
      rate = rate_in bs n;
      receivers = map (receiver_in bs n) (range_with_len 0 (receivers_in bs n));
    }

-- FAULTS OF THE ITEMS, BY NUMBER; 0 FOR NONE

abbrev pub head_fault : (kind nodes n : ℕ) → ℕ
head_fault kind nodes n = cond (kind == 1) (cond (nat_le 1 nodes && nat_le nodes 256 && nat_le n 1024) 0 2) 1

-- p is one of f 0, .., f (k - 1)
unfoldable pub among : (ℕ → ℕ) → (k p : ℕ) → Bool
among f zero p = false
among f (suc k) p = among f k p || p == f k

-- a link with an end that is no node; one into the source, or from a node to itself; one into a node that was left by a link before it
abbrev pub link_fault : (nodes from to : ℕ) (left : Bool) → ℕ
link_fault nodes from to left = cond (nat_lt from nodes && nat_lt to nodes) (cond (to == 0 || from == to) 3 (cond left 4 0)) 2

-- one of the first p nodes, not the source, is left by a link, and none comes into it
unfoldable pub unfed : (left entered : ℕ → Bool) (p : ℕ) → Bool
unfed left entered zero = false
unfed left entered (suc p) = unfed left entered p || (not (p == 0) && (left p && not (entered p)))

abbrev pub count_fault : (rate n : ℕ) → ℕ
count_fault rate n = cond (nat_le 1 rate && nat_le rate 32 && nat_le 1 n && nat_le n 64) 0 2

-- a receiver at `place` behind one at `before`, which is 0 for the first; 0 is the source, so it is never above the one before
abbrev pub receiver_fault : (nodes before place : ℕ) → ℕ
receiver_fault nodes before place = cond (nat_lt place nodes) (cond (nat_lt before place) 0 5) 2

-- THE ITEMS IN ORDER

-- the first n links
unfoldable pub links : (len nodes : ℕ) (from to : ℕ → ℕ) (n : ℕ) → Reading (Unit {0})
links len nodes from to zero = fine
links len nodes from to (suc k) = next (links len nodes from to k) (item len (5 + 4 * k) (9 + 4 * k) (link_fault nodes (from k) (to k) (among from k (to k))))

-- the receiver before receiver i
abbrev pub previous : (ℕ → ℕ) → ℕ → ℕ
previous place zero = 0
previous place (suc i) = place i

-- the first n receivers, whose bytes begin at `start`
unfoldable pub receivers : (len start nodes : ℕ) (place : ℕ → ℕ) (n : ℕ) → Reading (Unit {0})
receivers len start nodes place zero = fine
receivers len start nodes place (suc i) =
    next (receivers len start nodes place i)
    (item len (start + 2 * i) (start + 2 * i + 2) (receiver_fault nodes (previous place i) (place i)))

abbrev pub head_item : List ℕ → Reading (Unit {0})
head_item bs = item (length bs) 0 5 (head_fault (slice_index bs 0) (nodes_in bs) (links_in bs))

abbrev pub link_items : List ℕ → Reading (Unit {0})
link_items bs = links (length bs) (nodes_in bs) (from_in bs) (to_in bs) (links_in bs)

abbrev pub links_end : List ℕ → Reading (Unit {0})
links_end bs = let n : ℕ = links_in bs in item (length bs) (5 + 4 * n) (5 + 4 * n) (cond (unfed (among (from_in bs) n) (among (to_in bs) n) (nodes_in bs)) 10 0)

abbrev pub counts_item : List ℕ → Reading (Unit {0})
counts_item bs = let n : ℕ = links_in bs in item (length bs) (5 + 4 * n) (7 + 4 * n) (count_fault (rate_in bs n) (receivers_in bs n))

abbrev pub receiver_items : List ℕ → Reading (Unit {0})
receiver_items bs = let n : ℕ = links_in bs in receivers (length bs) (7 + 4 * n) (nodes_in bs) (receiver_in bs n) (receivers_in bs n)

abbrev pub end_item : List ℕ → Reading (Unit {0})
end_item bs =
    let end : ℕ = 7 + 4 * links_in bs + 2 * receivers_in bs (links_in bs) in
    item (length bs) end end (cond (nat_lt end (length bs)) 1 0)

unfoldable pub fault_in : List ℕ → Reading (Unit {0})
fault_in bs = next (head_item bs) (next (link_items bs) (next (links_end bs) (next (counts_item bs) (next (receiver_items bs) (end_item bs)))))

abbrev pub read_net : List ℕ → Reading Multicast
read_net bs = next (fault_in bs) (got (net_in bs))

-- the item that begins at byte b has an end e, and all bytes that agree up to there have the same fault
abbrev pub Local : List ℕ → (number b : ℕ) → Type 0
Local bs number b = (e : ℕ) × (b ≤ e) × (e ≤ b + 5) × ((cs : List ℕ) → take e cs ≡ take e bs → read_net cs ≡ fault number b)
