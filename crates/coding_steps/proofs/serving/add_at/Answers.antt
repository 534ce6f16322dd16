use Rattle.std.proofs.Common.{ap, ◌∙◌, arith, rules}
use lib.Bits.{bit_xor}
use Rattle.coding_steps.specs.declared.carrier.Carrier.TheVariants.{Message}
use Rattle.coding_steps.proofs.Extension.{added_at, done-set, done-same, added-here, added-there, added-all}
use Rattle.coding_steps.proofs.serving.add_at.Goals.{then-eq, else-eq}
use Rattle.coding_steps.proofs.serving.add_at.Goals as goal

pub loop-k-preserved : goal.loop-k-preserved
loop-k-preserved c =
    let cs = c.args.coefficients.now in
    let hands = c.args.hands.now in
    let f = added_at cs hands c.args.packet c.args.t in
    let k = c.loop-k.k in
    elim c.if-eq.branch [
      | then-eq w ↦
          rw w.coefficients-is
          (done-set f k cs c.loop-k.coefficients c.loop-k.invariant _ (omega (arith, c.requires))
          (ap (λ x. bit_xor x c.args.t) (c.loop-k.invariant.rest k (omega arith)) ∙ added-here cs hands c.args.packet c.args.t k (Message 0) c.loop-k-test.true (omega arith) (search rules)))
      | else-eq w ↦
          rw w.coefficients-is
          (done-same f k cs c.loop-k.coefficients c.loop-k.invariant (added-there cs hands c.args.packet c.args.t k (Message 0) c.loop-k-test.true (search rules)))
    ]

pub returns : goal.returns
returns c =
    added-all c.args.coefficients.now c.args.hands.now c.args.packet c.args.t c.loop-k.coefficients c.loop-k.k c.requires c.loop-k-test.false c.loop-k.invariant
