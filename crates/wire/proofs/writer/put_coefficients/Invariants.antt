use Rattle.std.proofs.Common.{◌≡◌, ◌++◌, map, take, vec_items}
use Rattle.std.specs.List.{flat_map}
use Rattle.wire.specs.Format.{link_bytes}
use Rattle.wire.proofs.writer.put_coefficients.Given as goal

abbrev pub invariant-loop-row : goal.invariant-loop-row
invariant-loop-row l = vec_items l.out ≡ vec_items l.initial.out ++ flat_map link_bytes (map vec_items (take l.row-index l.rows))
