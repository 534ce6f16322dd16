use Rattle.std.proofs.Common.{◌≡◌, ℕ, suc, [], ◌∷◌, ◌++◌, length, get_or, sym, ap, ap₂, ◌∙◌, add-one}
use lib.Bits.{bit_xor}
use lib.ListN.{get_or-replicate, length-replicate, length-append}
use Rattle.gf.specs.Sum.{sum}
use Rattle.std.proofs.lemmas.Slice.Zip.{zip_turn, zip_end}
use Rattle.gf_bytes.specs.Byte.{times}
use Rattle.gf_bytes.specs.Packet.{multiple_at}
use Rattle.gf_bytes.proofs.packet.mix.Goals as goal

pub loop-factor-init : goal.loop-factor-init
loop-factor-init c = (λ k h. get_or-replicate 1024 k 0 0 h, length-replicate {A = ℕ} 1024 0)

pub loop-factor-preserved : goal.loop-factor-preserved
loop-factor-preserved c =
    let turn = zip_turn c.args.factors.now c.args.packets.now c.loop-factor.yielded c.into_iter-factor-iterator.result c.loop-factor.factor-iterator c.next.new.self c.next.result (cc) (cc)
    c.loop-factor.yielded_by (c.in-Some.factor, c.in-Some.packet) c.in-Some.is c.next.ensures.steps in
    let n : ℕ = length c.loop-factor.yielded in
    let more : length (c.loop-factor.yielded ++ (c.in-Some.factor, c.in-Some.packet) ∷ []) ≡ suc n =
    length-append c.loop-factor.yielded ((c.in-Some.factor, c.in-Some.packet) ∷ []) ∙ add-one n in (
      λ k h.
          let multiple = multiple_at c.args.factors.now c.args.packets.now k in
          c.add_multiple.ensures k h
          ∙ ap₂ bit_xor (c.loop-factor.invariant.0 k h) (ap₂ (λ x p. times x (get_or p k 0)) (turn.2 0) (turn.3 []))
          ∙ ap (λ m. sum m multiple) (sym more),
      c.add_multiple.array_long,
    )

pub returns : goal.returns
returns c = λ k h.
    let all = zip_end c.args.factors.now c.args.packets.now c.loop-factor.yielded c.into_iter-factor-iterator.result c.loop-factor.factor-iterator c.next.new.self c.next.result (cc) (cc)
    c.loop-factor.yielded_by c.in-None.is c.next.ensures.steps in
    c.loop-factor.invariant.0 k h ∙ ap (λ n. sum n (multiple_at c.args.factors.now c.args.packets.now k)) all
