use Rattle.std.proofs.Common.{◌≡◌, true, drop}
use Rattle.flow_theory.specs.Flow.{flagged}
use Rattle.flow.proofs.decomposition.first_used.Given as goal

abbrev pub invariant-loop-link : goal.invariant-loop-link
invariant-loop-link l = flagged l.used true (drop l.link-index l.row) ≡ flagged l.used true l.row
