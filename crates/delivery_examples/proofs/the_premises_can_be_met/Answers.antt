use Rattle.delivery_examples.proofs.Instance.{met}
use Rattle.delivery_examples.proofs.the_premises_can_be_met.Goals as goal

pub returns : goal.returns
returns c = met
