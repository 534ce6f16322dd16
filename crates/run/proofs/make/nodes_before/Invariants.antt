use Rattle.std.proofs.Common.{◌≡◌, vec_items, vec_len}
use Rattle.network.specs.Values.{value}
use Rattle.wire.specs.Values.{plan}
use Rattle.run.specs.Starting.{Ready}
use Rattle.run.proofs.make.nodes_before.Given as goal

abbrev pub invariant-loop-p : goal.invariant-loop-p
invariant-loop-p l = (vec_len l.nodes ≡ l.p) × Ready (value l.fitted.net.now) (plan l.fitted.plan.now) (vec_items l.nodes)
