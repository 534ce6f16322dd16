-- What the queue of the search stands for. Defines, in this order:
--   reached_at         the node at a place, as it was reached
--   ways_on, ways_of   the ways that the queue stands for
--   Marked             that the nodes reached are marked
--   Linked, Queued     that each node was reached from one before it; with it, the marks
--   Bounded            that all nodes reached are below a bound
--   Sought             that the search went far enough
-- Assumes nothing.
use Rattle.std.specs.Prelude.{◌≡◌, ℕ, ◌<◌, Bool, false, List, [], ◌∷◌, ◌++◌, length, get_or, slice_index_or}
use Rattle.network.specs.Network.{Network}
use Rattle.flow_theory.specs.Flow.{Way, start, is_reached, links_to, reached}
use Rattle.flow_search.specs.declared.reached.Reached.{Reached}

abbrev pub reached_at : List Reached → ℕ → Reached
reached_at rs j = slice_index_or rs j (record { node = 0; link = 0; place = 0 })

-- each goes on from the way at its place
unfoldable pub ways_on : List Way → List Reached → List Way
ways_on ws [] = ws
ways_on ws (r ∷ rs) = ways_on (ws ++ (record { node = r.node; links = r.link ∷ (get_or ws r.place start).links } ∷ [])) rs

-- the first is the node that the search begins at
unfoldable pub ways_of : List Reached → List Way
ways_of [] = []
ways_of (r ∷ rs) = ways_on (record { node = r.node; links = [] } ∷ []) rs

-- a mark for each node that is reached
abbrev pub Marked : List Bool → List Way → Type 0
Marked marks ws = (q : ℕ) → q < length marks → slice_index_or marks q false ≡ is_reached q ws

-- n: how many links there are
abbrev pub Linked : (n : ℕ) → List Reached → Type 0
Linked n rs = (j : ℕ) → 0 < j → j < length rs → ((reached_at rs j).place < j) × ((reached_at rs j).link < n)

pub record Queued (n : ℕ) (rs : List Reached) (marks : List Bool) : Type 0 where
  pub linked : Linked n rs
  pub marked : Marked marks (ways_of rs)

abbrev pub Bounded : ℕ → List Way → Type 0
Bounded n ws = (j : ℕ) → j < length ws → (get_or ws j start).node < n

-- so far as a path to p is concerned, the ways are those of the whole search; they are all of them if p is not reached
pub record Sought (z : Network) (us : List Bool) (p : ℕ) (ws : List Way) : Type 0 where
  pub found : is_reached p ws ≡ is_reached p (reached z us)
  pub links : links_to p ws ≡ links_to p (reached z us)
  pub whole : is_reached p ws ≡ false → ws ≡ reached z us
