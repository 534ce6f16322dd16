use Rattle.coding_theory.proofs.Served.{all-at-once}
use Rattle.coding_theory.proofs.all_receivers_are_served.Goals as goal

pub returns : goal.returns
returns c = all-at-once
