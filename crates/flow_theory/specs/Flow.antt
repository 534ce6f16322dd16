-- Paths that share no link, or a cut: how they are found. Defines, in this order:
--   is_used                        whether a link is used
--   listed, out_of, into_of         the links out of a node, and into it, by rising number
--   flagged, steps, over          the steps that can be taken from a node: along an unused link, back along a used one
--   Way, start, is_reached, links_to    nodes that are reached, with the links that led there
--   add, go_on, onward, search, reached    the search, breadth first
--   turn, turn_all                 the augmentation
--   used_count, lowest, follow, parted    the paths that used links make up
--   Found, augment, paths_or_cut    the whole
-- Assumes nothing.
use Rattle.std.specs.Prelude.{ℕ, zero, suc, ◌+◌, Bool, true, false, cond, not, ◌&&◌, ◌||◌, List, [], ◌∷◌, ◌++◌, length, replicate, ◌==◌, nat_lt, slice_index_or, slice_set}
use Rattle.std.specs.Bool.{beq}
use Rattle.network.specs.Network.{Link, Network, link_at}

-- each link is used or not; they are all flags, by number
abbrev pub is_used : List Bool → ℕ → Bool
is_used us k = slice_index_or us k false

-- the numbers k below n for which `end k` is q, rising
unfoldable pub listed : (ℕ → ℕ) → (q n : ℕ) → List ℕ
listed end q zero = []
listed end q (suc n) = cond (q == end n) (listed end q n ++ (n ∷ [])) (listed end q n)

abbrev pub out_of : List Link → ℕ → List ℕ
out_of ls q = listed (λ k. (link_at ls k).from) q (length ls)

abbrev pub into_of : List Link → ℕ → List ℕ
into_of ls q = listed (λ k. (link_at ls k).to) q (length ls)

-- those of some links that are used, or that are not
unfoldable pub flagged : List Bool → Bool → List ℕ → List ℕ
flagged us u [] = []
flagged us u (k ∷ ks) = cond (beq (is_used us k) u) (k ∷ flagged us u ks) (flagged us u ks)

-- the steps from a node, first to last
abbrev pub steps : List Link → List Bool → ℕ → List ℕ
steps ls us q = flagged us false (out_of ls q) ++ flagged us true (into_of ls q)

-- where a step over a link leads
abbrev pub over : List Link → List Bool → ℕ → ℕ
over ls us k = cond (is_used us k) (link_at ls k).from (link_at ls k).to

-- THE SEARCH

-- a node that was reached, and the links that led there from the source, the last one first
pub record Way : Type 0 where
  pub node : ℕ
  pub links : List ℕ

abbrev pub start : Way
start = record { node = 0; links = [] }

unfoldable pub is_reached : ℕ → List Way → Bool
is_reached q [] = false
is_reached q (w ∷ ws) = q == w.node || is_reached q ws

unfoldable pub links_to : ℕ → List Way → List ℕ
links_to q [] = []
links_to q (w ∷ ws) = cond (q == w.node) w.links (links_to q ws)

-- a node is reached once; it goes to the end of the queue
unfoldable pub add : Way → List Way → List Way
add w ws = cond (is_reached w.node ws) ws (ws ++ (w ∷ []))

-- over some links, one after the other; `lead k`: where link k leads
unfoldable pub go_on : (ℕ → ℕ) → Way → List ℕ → List Way → List Way
go_on lead w [] ws = ws
go_on lead w (k ∷ ks) ws = go_on lead w ks (add (record { node = lead k; links = k ∷ w.links }) ws)

abbrev pub onward : List Link → List Bool → Way → List Way → List Way
onward ls us w ws = go_on (over ls us) w (steps ls us w.node) ws

-- ws: the nodes in the order reached; those from place i on are the queue. No more than n turns, one for each node
unfoldable pub search : List Link → List Bool → (n i : ℕ) → List Way → List Way
search ls us zero i ws = ws
search ls us (suc n) i ws = let more : List Way = search ls us n (suc i) (onward ls us (slice_index_or ws i start) ws) in cond (nat_lt i (length ws)) more ws

abbrev pub reached : Network → List Bool → List Way
reached z us = search z.links us z.nodes 0 (start ∷ [])

-- THE AUGMENTATION

-- a link that was not used becomes used, and the other way round
abbrev pub turn : ℕ → List Bool → List Bool
turn k us = slice_set us k (not (is_used us k))

unfoldable pub turn_all : List ℕ → List Bool → List Bool
turn_all [] us = us
turn_all (k ∷ ks) us = turn_all ks (turn k us)

-- THE PATHS THAT USED LINKS MAKE UP

abbrev pub used_count : List Bool → ℕ
used_count [] = 0
used_count (u ∷ us) = cond u 1 0 + used_count us

-- the lowest number of a used link out of a node; where there is none, a number that no link has
abbrev pub lowest : List Link → List Bool → ℕ → ℕ
lowest ls us q = slice_index_or (flagged us true (out_of ls q)) 0 (length ls)

-- a path from a node q to the receiver p along used links not yet taken; no more than n of them
unfoldable pub follow : List Link → (p n q : ℕ) → List Bool → List ℕ
follow ls p zero q us = []
follow ls p (suc n) q us =
    let k : ℕ = lowest ls us q in
    let rest : List ℕ = follow ls p n (link_at ls k).to (turn k us) in
    cond (not (q == p) && nat_lt k (length ls)) (k ∷ rest) []

-- m paths from the source
unfoldable pub parted : List Link → (p m : ℕ) → List Bool → List (List ℕ)
parted ls p zero us = []
parted ls p (suc m) us =
    let path : List ℕ = follow ls p (used_count us) 0 us in
    path ∷ parted ls p m (turn_all path us)

-- THE WHOLE

pub data Found : Type 0 where
  paths : List (List ℕ) → Found
  cut : (ℕ → Bool) → Found

-- m: how many paths are still to be found
unfoldable pub augment : Network → (h p m : ℕ) → List Bool → Found
augment z h p zero us = paths (parted z.links p h us)
augment z h p (suc m) us =
    let ws : List Way = reached z us in
    let more : Found = augment z h p m (turn_all (links_to p ws) us) in
    cond (is_reached p ws) more (cut (λ q. is_reached q ws))

-- h paths to the receiver p, or a cut
abbrev pub paths_or_cut : Network → (h p : ℕ) → Found
paths_or_cut z h p = augment z h p h (replicate (length z.links) false)
