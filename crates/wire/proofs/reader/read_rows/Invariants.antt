use Rattle.std.proofs.Common.{◌≡◌, map, vec_items}
use Rattle.std.specs.Slice.Iter.{chunks_exact_rest, chunks_exact_size}
use Rattle.wire.specs.Format.{rows_in}
use Rattle.wire.proofs.Reading.{Left}
use Rattle.wire.proofs.reader.read_rows.Given as goal

abbrev pub invariant-loop-row : goal.invariant-loop-row
invariant-loop-row l =
    (chunks_exact_size l.row-iterator ≡ l.h) × Left l.h (map vec_items (vec_items l.rows)) (rows_in l.h l.h l.bytes) (chunks_exact_rest l.row-iterator)
