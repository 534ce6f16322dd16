use Rattle.gf_bytes.proofs.Done.{Done}
use Rattle.coding_steps.proofs.Extension.{added_at}
use Rattle.coding_steps.proofs.serving.add_at.Given as goal

abbrev pub invariant-loop-k : goal.invariant-loop-k
invariant-loop-k l = Done (added_at l.initial.coefficients l.hands l.packet l.t) l.k l.initial.coefficients l.coefficients
