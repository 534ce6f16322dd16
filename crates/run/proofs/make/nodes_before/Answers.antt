use Rattle.std.proofs.Common.{vec_items, arith}
use Rattle.network.specs.Values.{value}
use Rattle.wire.specs.Values.{plan}
use Rattle.run.proofs.Start.{ready-push}
use Rattle.run.proofs.make.nodes_before.Goals as goal

pub loop-p-preserved : goal.loop-p-preserved
loop-p-preserved c =
    let new = c.in_ok-new.ensures in
    let pushed = c.in_ok-push.ensures in (
      omega (arith, pushed.len, c.loop-p.invariant.0),
      ready-push (value c.args.fitted.now.net.now) (plan c.args.fitted.now.plan.now) (vec_items c.loop-p.nodes) (vec_items c.push.new.self) c.in_ok-new.field-0 c.loop-p.p (omega (arith, c.loop-p.nodes.ok.0, c.loop-p.invariant.0)) pushed.items c.loop-p.invariant.1 (new.1, new.2),
    )

pub returns : goal.returns
returns c = (omega (arith, c.loop-p.nodes.ok.0, c.loop-p.invariant.0), c.loop-p.invariant.1)
