use Rattle.relay_node.proofs.Heads.{read_back}
use Rattle.relay_node.proofs.theorems.records_are_read_back.Goals as goal

pub returns : goal.returns
returns c = read_back
