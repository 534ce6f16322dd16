-- A set of nodes by a flag for each. Defines, in this order:
--   within  whether a node is in the set
--   leaves  whether a link leads out of the set
-- Assumes nothing.
use Rattle.std.specs.Prelude.{ℕ, Bool, false, not, ◌&&◌, List, slice_index_or}
use Rattle.network.specs.Network.{Link}

abbrev pub within : List Bool → ℕ → Bool
within side q = slice_index_or side q false

abbrev pub leaves : List Bool → Link → Bool
leaves side l = within side l.from && not (within side l.to)
