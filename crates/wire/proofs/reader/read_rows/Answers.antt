use Rattle.std.proofs.Common.{◌≡◌, ℕ, ◌*◌, List, [], ◌∷◌, ◌++◌, take, map, vec_items, sym, ap, ◌∙◌, subst, arith}
use Rattle.std.proofs.lemmas.List.{map_push}
use Rattle.std.specs.Slice.Iter.{chunks_exact_rest, chunks_exact_size}
use Rattle.wire.specs.Format.{rows_in}
use Rattle.wire.proofs.Reading.{Left, rows-begin, rows-next, rows-end}
use Rattle.wire.proofs.reader.read_rows.Goals as goal

pub loop-row-init : goal.loop-row-init
loop-row-init c =
    let h : ℕ = c.args.h in
    let bs : List ℕ = c.args.bytes.now in
    let chunks = c.chunks_exact-row-items.ensures in
    let into = c.into_iter-row-iterator.ensures.into_iter_gives in
    let rest : chunks_exact_rest c.into_iter-row-iterator.result ≡ take (h * h) bs = ap chunks_exact_rest into ∙ chunks.rest in
    let none : map vec_items (vec_items c.in_ok-rows.rows) ≡ [] = ap (map vec_items) c.in_ok-rows.ensures.items in (
      ap chunks_exact_size into ∙ chunks.size,
      subst (λ r. Left h (map vec_items (vec_items c.in_ok-rows.rows)) (rows_in h h bs) r) (sym rest)
          (subst (λ d. Left h d (rows_in h h bs) (take (h * h) bs)) (sym none) (rows-begin h bs c.requires.long)),
    )

pub loop-row-preserved : goal.loop-row-preserved
loop-row-preserved c =
    let h : ℕ = c.args.h in
    let so-far = c.loop-row.invariant in
    let step = c.in-Some.ensures.steps in
    let done : List (List ℕ) = map vec_items (vec_items c.loop-row.rows) in
    let row : List ℕ = c.in-Some.row.now in
    let rows : map vec_items (vec_items c.push.new.self) ≡ done ++ row ∷ [] =
    ap (map vec_items) c.in_ok-push.ensures.items ∙ map_push vec_items (vec_items c.loop-row.rows) c.in_ok-from_slice.field-0 ∙ ap (λ y. done ++ y ∷ []) c.in_ok-from_slice.ensures.items in (
      step.0 ∙ so-far.0,
      subst (λ d. Left h d (rows_in h h c.args.bytes.now) (chunks_exact_rest c.next.new.self)) (sym rows)
          (rows-next h done (rows_in h h c.args.bytes.now) (chunks_exact_rest c.loop-row.row-iterator) row (chunks_exact_rest c.next.new.self) c.requires.some so-far.1 step.1.0 (step.1.1 ∙ so-far.0)),
    )

pub returns : goal.returns
returns c =
    let so-far = c.loop-row.invariant in
    rows-end c.args.h _ (rows_in c.args.h c.args.h c.args.bytes.now) (chunks_exact_rest c.loop-row.row-iterator) so-far.1 (omega (arith, c.in-None.ensures.steps.1.0, so-far.0))
