-- Paths to the receivers, as they are given. Defines, in this order:
--   is_on e w        link e is on the path w
--   IsPath ls n p w  w is a path from node n to node p: links that lead there, as the search for paths finds them
--   Aim              a receiver's node, and paths to it
--   Given ls h a     these are h paths from the source, which share no link
-- Assumes nothing.
use Rattle.std.specs.Prelude.{◌≡◌, ℕ, ◌<◌, Bool, true, false, ◌||◌, List, [], ◌∷◌, length, ◌==◌}
use Rattle.linear.specs.Vectors.{row}
use Rattle.network.specs.Network.{Link}
pub use Rattle.flow_theory.specs.Promise.{Leads as IsPath}

-- a path is given by the numbers of its links, in order
unfoldable pub is_on : ℕ → List ℕ → Bool
is_on e [] = false
is_on e (x ∷ xs) = e == x || is_on e xs

pub record Aim : Type 0 where
  pub node : ℕ
  pub paths : List (List ℕ)

pub record Given (ls : List Link) (h : ℕ) (a : Aim) : Type 0 where
  pub many : length a.paths ≡ h
  pub lead : (j : ℕ) → j < h → IsPath ls 0 a.node (row a.paths j)
  pub apart : (i j e : ℕ) → i < h → j < h → is_on e (row a.paths i) ≡ true → is_on e (row a.paths j) ≡ true → i ≡ j
