-- Cuts. Defines, in this order:
--   out   how many links lead out of a set of nodes
--   Cut   a set with the source and without the receiver, out of which fewer than h links lead
-- Assumes nothing.
use Rattle.std.specs.Prelude.{◌≡◌, ℕ, ◌+◌, ◌<◌, Bool, true, false, cond, not, ◌&&◌, List, [], ◌∷◌}
use Rattle.network.specs.Network.{Link, Network}

unfoldable pub out : (ℕ → Bool) → List Link → ℕ
out side [] = 0
out side (l ∷ ls) = cond (side l.from && not (side l.to)) 1 0 + out side ls

pub record Cut (z : Network) (h p : ℕ) : Type 0 where
  pub side : ℕ → Bool
  pub source : side 0 ≡ true
  pub receiver : side p ≡ false
  pub few : out side z.links < h
