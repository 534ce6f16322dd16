use Rattle.linear.proofs.Lists.{mixes}
use Rattle.linear.proofs.mixes_place_by_place.Goals as goal

pub returns : goal.returns
returns c = mixes
