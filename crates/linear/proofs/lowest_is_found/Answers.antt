use Rattle.linear.proofs.Lowest.{lowest-found}
use Rattle.linear.proofs.lowest_is_found.Goals as goal

pub returns : goal.returns
returns c = lowest-found
