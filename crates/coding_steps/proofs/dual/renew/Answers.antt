use Rattle.std.proofs.Common.{◌≡◌, ◌<◌, length, get_or, ap, ◌∙◌, arith}
use Rattle.std.proofs.lemmas.List.{get_or_default}
use Rattle.gf.proofs.Fields.{byte_field}
use Rattle.linear.specs.Vectors.{row, dot}
use Rattle.linear.specs.Dual.{inverse, renew}
use Rattle.coding_steps.specs.Rows.{bytes_of}
use Rattle.coding_steps.proofs.Renewal.{inverse-is, front-more, dot-is, row-counted, here, there}
use Rattle.coding_steps.proofs.dual.renew.Goals.{then-i-j, else-i-j}
use Rattle.coding_steps.proofs.dual.renew.Goals as goal

pub inverse-by-requires : goal.inverse-by-requires
inverse-by-requires c =
    let e = c.dot.ensures ∙ dot-is c.args.j c.args.v c.args.rows.now c.requires.counted.0 c.requires.place c.requires.counted.1 c.args.j c.index-rows-j.result c.requires.place c.index-rows-j.is in
    omega (arith, c.requires.served)

pub loop-i-preserved : goal.loop-i-preserved
loop-i-preserved c =
    let j = c.args.j in
    let v = c.args.v in
    let rows = c.args.rows.now in
    let h = length rows in
    let i = c.loop-i.i in
    let new = c.scaled-new.result in
    let lj : j < h = c.requires.place in
    let counted = c.requires.counted.0 in
    let cv = c.requires.counted.1 in
    let product = dot-is j v rows counted lj cv in
    let first = c.dot.ensures ∙ product j c.index-rows-j.result lj c.index-rows-j.is in
    let by : c.inverse-by.result ≡ inverse byte_field (dot byte_field h (row (bytes_of rows) j) v.bytes) =
    inverse-is c.dot.result c.inverse-by.result (omega (arith, c.requires.served)) c.dot.type_inv c.inverse-by.type_inv c.inverse-by.ensures ∙ ap (inverse byte_field) first in
    let many : new.count ≡ h = c.scaled-new.ensures.count ∙ row-counted j v rows counted lj cv j c.index-rows-j-2.result lj c.index-rows-j-2.is in
    elim c.if-i-j.branch [
      | then-i-j w ↦
          rw w.row-is
          (front-more h (renew byte_field h j v.bytes (bytes_of rows)) rows i c.loop-i.rows new c.loop-i.invariant (omega arith) many
          (λ k lk. here j v rows counted lj cv c.inverse-by.result new c.index-rows-j-2.result c.index-rows-j-2.is by c.scaled-new.ensures.bytes i k (omega arith) w.if-i-j.true lk))
      | else-i-j w ↦
          let x = get_or c.loop-i.rows i c.index-rows-i.result in
          let is : x ≡ get_or rows i x = c.loop-i.invariant.rest i c.index-rows-i.result (omega arith) ∙ get_or_default rows i c.index-rows-i.result x (omega arith) in
          rw w.row-is
          (front-more h (renew byte_field h j v.bytes (bytes_of rows)) rows i c.loop-i.rows w.plus.result c.loop-i.invariant (omega arith)
          (omega (arith, w.plus.ensures.count, w.scaled.ensures.count, row-counted j v rows counted lj cv i x (omega arith) is))
          (λ k lk. there j v rows counted lj cv c.inverse-by.result new c.index-rows-j-2.result c.index-rows-j-2.is by c.scaled-new.ensures.bytes i w.dot-else-i-j.result w.scaled.result x w.plus.result
          (omega arith) w.if-i-j.false is w.dot-else-i-j.ensures w.scaled.ensures.bytes w.plus.ensures.bytes k lk))
    ]

pub returns : goal.returns
returns c = record { counted = λ i l. c.loop-i.invariant.counts i (omega arith); renewed = λ i k li lk. c.loop-i.invariant.same i k (omega arith) lk }
