use Rattle.run_theory.proofs.Rest.{few-arrivals, each-arrived}
use Rattle.run_theory.proofs.arrivals_end.Goals as goal

pub returns : goal.returns
returns c = record { few = few-arrivals; each = each-arrived }
