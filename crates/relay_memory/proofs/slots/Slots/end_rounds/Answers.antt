use Rattle.std.proofs.Common.{◌≡◌, sym, ◌∙◌, arith}
use Rattle.relay_memory.proofs.Ends.{ending-none, ending-more, ending-idle, ending-third}
use Rattle.relay_memory.proofs.slots.Slots.end_rounds.Goals as goal

pub loop-count-init : goal.loop-count-init
loop-count-init c = ending-none c.args.self.now

pub loop-count-preserved : goal.loop-count-preserved
loop-count-preserved c =
    let k = c.next.ensures.kept in
    ending-more c.args.self.now c.loop-count.self c.loop-count.count c.loop-count.invariant c.next.new.self c.loop-count-test.true
    (sym c.is_over.ensures ∙ c.if-not-is_over.false) c.next.ensures.state k.0 k.1 k.2 k.3

pub returns-then-not-is_over : goal.returns-then-not-is_over
returns-then-not-is_over c =
    let e = c.loop-count.invariant in
    record { ends = ending-idle c.args.self.now c.loop-count.self c.loop-count.count e (sym c.is_over.ensures ∙ c.if-not-is_over.true); count = (e.few, e.round); same = (e.ins, e.width) }

pub returns : goal.returns
returns c =
    let e = c.loop-count.invariant in
    let all : c.loop-count.count ≡ 3 = omega arith in
    record { ends = rw all at (ending-third c.args.self.now c.loop-count.self c.loop-count.count e c.loop-count-test.false); count = (omega arith, omega (arith, e.round)); same = (e.ins, e.width) }
