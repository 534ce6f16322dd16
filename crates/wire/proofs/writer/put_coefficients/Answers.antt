use Rattle.std.proofs.Common.{◌<◌, map, length, vec_items, sym, subst, arith}
use Rattle.std.proofs.ByRecursion.{All-get_or}
use Rattle.std.proofs.lemmas.List.{get_or-map, length-map}
use Rattle.wire.proofs.writer.put_coefficients.Goals as goal

pub overflow_cast-len : goal.overflow_cast-len
overflow_cast-len c =
    let row = c.row-item.result in
    let short : length (vec_items row) < 65536 =
    subst (λ x. length (vec_items x) < 65536) (sym c.row-item.is)
    (subst (λ l. length l < 65536) (get_or-map vec_items c.args.rows.now c.loop-row.row-index row (vec_items row) c.loop-row-test.true)
    (All-get_or (λ l. length l < 65536) (map vec_items c.args.rows.now) c.loop-row.row-index (vec_items row) (omega (arith, c.loop-row-test.true, length-map c.args.rows.now vec_items)) c.requires)) in
    omega (arith, c.len.ensures, row.ok.0, short)
