use Rattle.flow_theory.proofs.Stands.{first_found}
use Rattle.flow_theory.proofs.Order.{only_one}
use Rattle.flow_theory.proofs.search_finds_the_first.Goals as goal

pub returns : goal.returns
returns c = record { found = first_found; only = only_one }
