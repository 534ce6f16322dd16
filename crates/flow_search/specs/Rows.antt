-- The links of a network listed by their ends. Defines:
--   Lists   that there is a list for each node, of the links that have it as an end, by rising number
-- Assumes nothing.
use Rattle.std.specs.Prelude.{◌≡◌, ℕ, ◌<◌, List, [], length, slice_index_or}
use Rattle.flow_theory.specs.Flow.{listed}

-- `end k`: the node that is the end in question of link k, for k below n
pub record Lists (end : ℕ → ℕ) (nodes n : ℕ) (rows : List (List ℕ)) : Type 0 where
  pub long : length rows ≡ nodes
  pub row : (q : ℕ) → q < nodes → slice_index_or rows q [] ≡ listed end q n
