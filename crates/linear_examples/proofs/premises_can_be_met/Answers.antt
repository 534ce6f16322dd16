use Rattle.linear_examples.proofs.Instances.{met}
use Rattle.linear_examples.proofs.premises_can_be_met.Goals as goal

pub returns : goal.returns
returns c = met
