use Rattle.std.proofs.Common.{true, sym, ◌∙◌}
use Rattle.std.proofs.lemmas.List.{at_drop_all}
use Rattle.flow_theory.specs.Flow.{flagged}
use Rattle.flow.proofs.Followed.{unused-next, used-first}
use Rattle.flow.proofs.decomposition.first_used.Goals as goal

pub returns-then-used-link : goal.returns-then-used-link
returns-then-used-link c = (_, sym c.loop-link.invariant ∙ used-first c.args.used.now c.args.row.now c.loop-link.link-index c.loop-link-test.true c.if-used-link.true)

pub loop-link-preserved : goal.loop-link-preserved
loop-link-preserved c = unused-next c.args.used.now c.args.row.now c.loop-link.link-index c.loop-link-test.true c.if-used-link.false ∙ c.loop-link.invariant

pub returns : goal.returns
unfolding flagged
returns c = sym c.loop-link.invariant ∙ at_drop_all (flagged c.args.used.now true) c.args.row.now c.loop-link.link-index c.loop-link-test.false
