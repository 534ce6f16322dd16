-- What a receiver of the code is left with. Defines:
--   Leaves   its links in the order of the paths, and its dual rows with rows and columns exchanged
-- Assumes nothing.
use Rattle.std.specs.Prelude.{◌≡◌, map, length, vec_items}
use Rattle.std.specs.List.{filter_map}
use Rattle.linear.specs.Vectors.{row}
use Rattle.linear.specs.Reading.{transpose}
use Rattle.coding_steps.specs.Carriers.{number_of}
use Rattle.coding_steps.specs.Rows.{bytes_of}
use Rattle.wire.specs.declared.plan.Decoder.{Decoder}
use Rattle.coding.specs.declared.receiver.Receiver.{Receiver as Pending}

pub record Leaves (p : Pending) (d : Decoder) : Type 0 where
  pub links : vec_items d.links ≡ filter_map number_of (vec_items p.current)
  pub rows : map vec_items (vec_items d.rows) ≡ transpose (length (vec_items p.rows)) (row (bytes_of (vec_items p.rows)))
