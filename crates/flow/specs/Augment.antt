-- What the augmentation's values stand for. Defines, in this order:
--   StandsAt    that a place of the queue is where a node was reached
--   Marks       that flags stand for a set of nodes
--   Grown       what is left, and what was answered, after paths were sought one by one
-- Assumes nothing.
use Rattle.std.specs.Prelude.{◌≡◌, ℕ, ◌<◌, Bool, true, false, List, length, get_or, Some, None, Option, slice_index_or}
use Rattle.network.specs.Network.{Network}
use Rattle.flow_theory.specs.Flow.{start, is_reached, links_to, parted, paths, cut, augment}
use Rattle.flow_search.specs.Queue.{ways_of}
use Rattle.flow_search.specs.declared.reached.Reached.{Reached}

pub record StandsAt (rs : List Reached) (q i : ℕ) : Type 0 where
  pub within : i < length rs
  pub found : is_reached q (ways_of rs) ≡ true
  pub links : links_to q (ways_of rs) ≡ (get_or (ways_of rs) i start).links

abbrev pub Marks : List Bool → (ℕ → Bool) → Type 0
Marks flags side = (q : ℕ) → side q ≡ slice_index_or flags q false

-- us, us': the used links before and after; no flags: h paths are used; else they are the cut
abbrev pub Grown : Network → (h p : ℕ) → (us us' : List Bool) → Option (List Bool) → Type 0
Grown z h p us us' None = augment z h p h us ≡ paths (parted z.links p h us')
Grown z h p us us' (Some flags) = (side : ℕ → Bool) × (augment z h p h us ≡ cut side) × Marks flags side
