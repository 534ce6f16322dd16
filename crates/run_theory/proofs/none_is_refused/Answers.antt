use Rattle.run_theory.proofs.Runs.{can-arrive, none-refused}
use Rattle.run_theory.proofs.Rest.{once-only}
use Rattle.run_theory.proofs.none_is_refused.Goals as goal

pub returns : goal.returns
returns c = record { arrive = can-arrive; none = none-refused; once = once-only }
