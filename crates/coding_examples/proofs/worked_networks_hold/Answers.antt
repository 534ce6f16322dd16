use Rattle.coding_examples.proofs.Worked.{all-work}
use Rattle.coding_examples.proofs.worked_networks_hold.Goals as goal

pub returns : goal.returns
returns c = all-work
