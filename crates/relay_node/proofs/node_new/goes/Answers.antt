use Rattle.std.proofs.Common.{[], map, vec_items, refl, sym, ap, ◌∙◌}
use Rattle.std.proofs.lemmas.List.{take_all, get_or-map}
use Rattle.relay_node.specs.Assembly.{picked}
use Rattle.relay_node.proofs.Assembly.{copied, goes-more}
use Rattle.relay_node.proofs.node_new.goes.Goals as goal

pub loop-link-preserved : goal.loop-link-preserved
loop-link-preserved c =
    let m = goes-more (map vec_items c.args.coefficients.now) c.args.links.now c.loop-link.link-index (vec_items c.loop-link.outs) (vec_items c.push.new.self) _ c.loop-link-test.true c.in_ok-push.ensures.items in
    let row = c.index-coefficients-link.result in (
      m.0 refl c.loop-link.invariant.0,
      m.1 (copied _ _ c.in_ok-coefficients.ensures.cases.0 ∙ ap vec_items c.index-coefficients-link.is ∙ sym (get_or-map vec_items c.args.coefficients.now _ row [] (c.requires c.loop-link.link-index c.loop-link-test.true))) c.loop-link.invariant.1,
    )

pub returns-clause-links : goal.returns-clause-links
returns-clause-links c = c.loop-link.invariant.0 ∙ take_all c.loop-link.link-index c.args.links.now c.loop-link-test.false

pub returns-clause-coefficients : goal.returns-clause-coefficients
returns-clause-coefficients c = c.loop-link.invariant.1 ∙ ap (picked (map vec_items c.args.coefficients.now)) (take_all c.loop-link.link-index c.args.links.now c.loop-link-test.false)
