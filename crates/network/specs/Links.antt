-- The links of a value of the program. Defines, in this order:
--   link_of, links_of   the link, and the links, that a value stands for
--   begin_of, end_of    the nodes at which link k of a list begins and ends; 0 past its end
-- Assumes nothing.
use Rattle.std.specs.Prelude.{ℕ, List, map, slice_index_or}
use Rattle.network.specs.Network.{Link}
use Rattle.network.specs.declared.net.Link.{Link as Joined}

abbrev pub link_of : Joined → Link
link_of l = record { from = l.from; to = l.to }

abbrev pub links_of : List Joined → List Link
links_of ls = map link_of ls

abbrev pub begin_of : List Joined → ℕ → ℕ
begin_of ls k = (slice_index_or ls k (record { from = 0; to = 0 })).from

abbrev pub end_of : List Joined → ℕ → ℕ
end_of ls k = (slice_index_or ls k (record { from = 0; to = 0 })).to
