-- The walks along which a path is sought, and their order. Defines, in this order:
--   Goes, Walk     one step, and a walk from the source, in the net with its used links
--   Sooner         which of two steps from a node comes first
--   Before         which of two walks of the same length comes first
--   Ahead, First   the first of the shortest walks to a node
-- Assumes nothing.
use Rattle.std.specs.Prelude.{◌≡◌, ℕ, ◌<◌, Bool, true, false, ◌⊎◌, List, [], ◌∷◌, length}
use Rattle.network.specs.Network.{Link, link_at}
use Rattle.flow_theory.specs.Flow.{is_used}

-- one can go over a link from q to r: along it if it is not used, back if it is
abbrev pub Goes : List Link → List Bool → (k q r : ℕ) → Type 0
Goes ls us k q r = (k < length ls) × (((is_used us k ≡ false) × ((link_at ls k).from ≡ q) × ((link_at ls k).to ≡ r)) ⊎ ((is_used us k ≡ true) × ((link_at ls k).to ≡ q) × ((link_at ls k).from ≡ r)))

-- a walk from the source to r over such links, the last one first
abbrev pub Walk : List Link → List Bool → List ℕ → ℕ → Type 0
Walk ls us [] r = r ≡ 0
Walk ls us (k ∷ ks) r = (q : ℕ) × Goes ls us k q r × Walk ls us ks q

-- unused links come before used ones, and then lower numbers before higher ones
abbrev pub Sooner : List Bool → (j k : ℕ) → Type 0
Sooner us j k = ((is_used us j ≡ false) × (is_used us k ≡ true)) ⊎ ((is_used us j ≡ is_used us k) × (j < k))

-- Walks of the same length are compared step by step from the source. As the last step stands first in the list,
-- one comes before the other if it does so without the last steps, or if there they are the same and its last step is sooner.
abbrev pub Before : List Bool → (js ks : List ℕ) → Type 0
Before us [] ks = ⊥
Before us (j ∷ js) [] = ⊥
Before us (j ∷ js) (k ∷ ks) = Before us js ks ⊎ ((js ≡ ks) × Sooner us j k)

-- shorter, or as long and before
abbrev pub Ahead : List Bool → (js ks : List ℕ) → Type 0
Ahead us js ks = (length js < length ks) ⊎ ((length js ≡ length ks) × Before us js ks)

-- the first of the shortest walks to q: every other is longer, or as long and behind it
pub record First (ls : List Link) (us : List Bool) (ks : List ℕ) (q : ℕ) : Type 0 where
  pub walk : Walk ls us ks q
  pub least : (js : List ℕ) → Walk ls us js q → (ks ≡ js) ⊎ Ahead us ks js
