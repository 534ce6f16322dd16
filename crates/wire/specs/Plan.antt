-- Plans, and which of them fit a net. Defines, in this order:
--   Reader, Plan     what a receiver reads by; coefficients and readers, or a receiver with its cut
--   feeding, hands   how many links come into a node; how many packets are at hand for each link
--   Comes            a link comes into a node
--   Matched          two lists agree element by element
--   Fits             a plan that has as many coefficients and rows as the net asks for, and names links and nodes that are there
-- Whether a plan that fits serves its receivers is another matter.
-- Assumes nothing.
use Rattle.std.specs.Prelude.{◌≡◌, ℕ, ◌+◌, ◌<◌, Bool, true, false, cond, List, [], ◌∷◌, map, length, ◌==◌, slice_index, slice_index_or}
use Rattle.std.specs.List.{AllByRecursion}
use Rattle.network.specs.Network.{Link, Multicast, link_at}

-- the packets on the links, in this order, are mixed by row k to packet k of the message
pub record Reader : Type 0 where
  pub links : List ℕ
  pub rows : List (List ℕ)

-- the coefficients of each link, and a reader for each receiver; or a receiver, and a set of nodes by a flag for each of 256
pub data Plan : Type 0 where
  served : (coefficients : List (List ℕ)) (readers : List Reader) → Plan
  unserved : (receiver : ℕ) (side : List Bool) → Plan

unfoldable pub feeding : ℕ → List Link → ℕ
feeding p [] = 0
feeding p (l ∷ ls) = cond (p == l.to) 1 0 + feeding p ls

-- at the source the message is at hand, elsewhere a packet from each link that comes in
abbrev pub hand_at : Multicast → ℕ → ℕ
hand_at m p = cond (p == 0) m.rate (feeding p m.network.links)

abbrev pub hands : Multicast → List ℕ
hands m = map (λ l. hand_at m l.from) m.network.links

abbrev pub Comes : List Link → (p k : ℕ) → Type 0
Comes ls p k = (k < length ls) × ((link_at ls k).to ≡ p)

abbrev pub Matched : {A B : Type 0} → (A → B → Type 0) → List A → List B → Type 0
Matched R [] [] = Unit {0}
Matched R [] (y ∷ ys) = ⊥
Matched R (x ∷ xs) [] = ⊥
Matched R (x ∷ xs) (y ∷ ys) = R x y × Matched R xs ys

-- of a receiver at node p, h packets to a message
pub record Suits (ls : List Link) (h p : ℕ) (r : Reader) : Type 0 where
  pub many : length r.links ≡ h
  pub lead : AllByRecursion (Comes ls p) r.links
  pub square : length r.rows ≡ h
  pub long : AllByRecursion (λ row. length row ≡ h) r.rows

abbrev pub Fits : Multicast → Plan → Type 0
Fits m (served cs rs) = (map length cs ≡ hands m) × Matched (Suits m.network.links m.rate) m.receivers rs
Fits m (unserved p side) =
    ((i : ℕ) × (i < length m.receivers) × (slice_index m.receivers i ≡ p)) × (length side ≡ 256)
    × ((q : ℕ) → slice_index_or side q false ≡ true → q < m.network.nodes)
