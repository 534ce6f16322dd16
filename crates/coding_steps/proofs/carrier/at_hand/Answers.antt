use Rattle.std.proofs.Common.{sym, ◌∙◌}
use Rattle.std.proofs.lemmas.Bool.{cond-true, cond-false, eq-eqb, ne_eqb}
use Rattle.std.proofs.lemmas.Result.{IfOk-weaker}
use Rattle.coding_steps.proofs.carrier.at_hand.Goals as goal

pub returns-then-node-eq0 : goal.returns-then-node-eq0
returns-then-node-eq0 c =
    IfOk-weaker c.messages.result _ _ (λ v e. e ∙ sym (cond-true _ _ _ (eq-eqb c.args.node 0 c.if-node-eq0.true))) c.messages.ensures

pub returns-else-node-eq0 : goal.returns-else-node-eq0
returns-else-node-eq0 c =
    IfOk-weaker c.links_into.result _ _ (λ v e. e ∙ sym (cond-false _ _ _ (ne_eqb c.args.node 0 c.if-node-eq0.false))) c.links_into.ensures
