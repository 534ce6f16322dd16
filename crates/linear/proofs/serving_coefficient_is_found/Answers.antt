use Rattle.linear.proofs.Choice.{t-found}
use Rattle.linear.proofs.serving_coefficient_is_found.Goals as goal

pub returns : goal.returns
returns c = t-found
