use Rattle.std.proofs.Common.{◌≡◌, ℕ, suc, [], ◌∷◌, ◌++◌, min, length, get_or, take, sym, ap, ap₂, ◌∙◌, add-one, arith}
use lib.Bits.{bit_xor}
use lib.ListN.{length-append}
use Rattle.std.proofs.lemmas.List.{get_or-take, length-take}
use Rattle.std.proofs.lemmas.Slice.Zip.{zip_turn, zip_end}
use Rattle.gf_bytes.specs.Byte.{times}
use Rattle.gf_bytes.specs.Vector.{dot_of}
use Rattle.gf_bytes.proofs.vector.Vector.dot.Goals as goal

pub loop-a-preserved : goal.loop-a-preserved
loop-a-preserved c =
    let x = c.args.self in
    let y = c.args.other in
    let turn = zip_turn (take x.count x.bytes) (take y.count y.bytes) c.loop-a.yielded c.into_iter-a-iterator.result c.loop-a.a-iterator c.next.new.self c.next.result (cc) (cc)
    c.loop-a.yielded_by (c.in-Some.a, c.in-Some.b) c.in-Some.is c.next.ensures.steps in
    let n : ℕ = length c.loop-a.yielded in
    let more : length (c.loop-a.yielded ++ (c.in-Some.a, c.in-Some.b) ∷ []) ≡ suc n = length-append c.loop-a.yielded ((c.in-Some.a, c.in-Some.b) ∷ []) ∙ add-one n in
    let first : c.in-Some.a.now ≡ get_or x.bytes n 0 = turn.2 0 ∙ get_or-take x.count x.bytes n 0 (omega (arith, turn.0, length-take x.count x.bytes)) in
    let second : c.in-Some.b.now ≡ get_or y.bytes n 0 = turn.3 0 ∙ get_or-take y.count y.bytes n 0 (omega (arith, turn.1, length-take y.count y.bytes)) in
    ap₂ bit_xor c.loop-a.invariant (c.mul-total.ensures ∙ ap₂ times first second) ∙ ap (λ m. dot_of m x.bytes y.bytes) (sym more)

pub returns : goal.returns
returns c =
    let x = c.args.self in
    let y = c.args.other in
    let all = zip_end (take x.count x.bytes) (take y.count y.bytes) c.loop-a.yielded c.into_iter-a-iterator.result c.loop-a.a-iterator c.next.new.self c.next.result (cc) (cc)
    c.loop-a.yielded_by c.in-None.is c.next.ensures.steps in
    c.loop-a.invariant ∙ ap (λ n. dot_of n x.bytes y.bytes) (all ∙ ap₂ min (ap length (sym c.coefficients.ensures.value) ∙ c.coefficients.ensures.count) (ap length (sym c.coefficients-2.ensures.value) ∙ c.coefficients-2.ensures.count))
