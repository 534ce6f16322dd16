use Rattle.std.proofs.Common.{Some, sym, refl, ap, ◌∙◌, arith}
use Rattle.relay_theory.specs.Relay.{is_in}
use Rattle.relay_memory.proofs.Memory.{held-is}
use Rattle.relay_memory.proofs.Steps.{tag_is, tag-not}
use Rattle.relay_memory.proofs.Answered.{at-link, foreign, over, early, twice, taken}
use Rattle.relay_memory.proofs.slots.Slots.take.Goals as goal

pub returns-in_default-clause-answer : goal.returns-in_default-clause-answer
returns-in_default-clause-answer c = (foreign c.args.self.now c.args.link c.args.round _ (ap (is_in c.args.link) (sym c.deref.ensures.value) ∙ c.in_default.ensures), refl)

pub returns-then-number-self-clause-answer : goal.returns-then-number-self-clause-answer
returns-then-number-self-clause-answer c =
    let s = c.args.self.now in
    let at = at-link s _ c.deref.ensures.value c.args.link c.in-Some.i c.in-Some.ensures in (over s c.args.link c.args.round _ c.in-Some.i at.0 at.1 (omega arith), refl)

pub returns-then-number-self-2-clause-answer : goal.returns-then-number-self-2-clause-answer
returns-then-number-self-2-clause-answer c =
    let s = c.args.self.now in
    let at = at-link s _ c.deref.ensures.value c.args.link c.in-Some.i c.in-Some.ensures in (early s c.args.link c.args.round _ c.in-Some.i at.0 at.1 (omega arith), refl)

pub returns-then-eq-clause-answer : goal.returns-then-eq-clause-answer
returns-then-eq-clause-answer c =
    let s = c.args.self.now in
    let at = at-link s _ c.deref.ensures.value c.args.link c.in-Some.i c.in-Some.ensures in (twice s c.args.link c.args.round _ c.in-Some.i at.0 at.1 (omega arith) (tag_is s _ c.len.ensures c.args.round c.in-Some.i _ at.0 c.index.ensures ∙ held-is _ _ (sym c.eq.ensures ∙ c.if-eq.true) ∙ ap Some c.from-number.ensures), refl)

pub keep-requires : goal.keep-requires
keep-requires c =
    let s = c.args.self.now in
    let at = at-link s _ c.deref.ensures.value c.args.link c.in-Some.i c.in-Some.ensures in
    record { link = at.0; window = (omega arith, omega arith); free = tag-not s _ c.len.ensures c.args.round _ c.in-Some.i _ c.from-number.ensures at.0 c.index.ensures (sym c.eq.ensures ∙ c.if-eq.false); long = c.requires }

pub returns-clause-answer : goal.returns-clause-answer
returns-clause-answer c =
    let s = c.args.self.now in
    let at = at-link s _ c.deref.ensures.value c.args.link c.in-Some.i c.in-Some.ensures in
    let k = c.keep.ensures in
    let e = c.end_rounds.ensures in (
      e.count.0,
      omega (arith, e.count.1, k.same.2),
      taken s c.args.link c.args.round _ c.in-Some.i at.0 at.1 (omega arith) (omega arith)
          (tag-not s _ c.len.ensures c.args.round _ c.in-Some.i _ c.from-number.ensures at.0 c.index.ensures (sym c.eq.ensures ∙ c.if-eq.false))
          c.keep.new.self c.end_rounds.new.self _ k.state k.same.0 k.same.2 e.ends,
    )
