use Rattle.relay_node.proofs.Mixes.{all-came}
use Rattle.relay_node.proofs.node.Node.came.Goals as goal

pub returns-clause-packets : goal.returns-clause-packets
returns-clause-packets c = all-came c.args.self.now _ c.len.ensures c.args.round _ c.deref.ensures.value
