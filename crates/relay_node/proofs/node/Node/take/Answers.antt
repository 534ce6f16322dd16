use Rattle.relay_node.proofs.Answered.{told-packet}
use Rattle.relay_node.proofs.node.Node.take.Goals as goal

pub returns-clause-answer : goal.returns-clause-answer
returns-clause-answer c = told-packet c.args.self.now c.args.link c.args.round c.args.packet.now c.told-packet c.if-self.false _ _ c.put.ensures.answer
