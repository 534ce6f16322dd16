use Rattle.worked_examples.proofs.Rows.{all_hold}
use Rattle.worked_examples.proofs.worked_examples_hold.Goals as goal

pub returns : goal.returns
returns c = all_hold
