use Rattle.network_cuts_examples.proofs.Instance.{met}
use Rattle.network_cuts_examples.proofs.premises_can_be_met.Goals as goal

pub returns : goal.returns
returns c = met
