use Rattle.relay_node.proofs.Assembled.{ins-rise, ins-few}
use Rattle.relay_node.proofs.node_new.memory.Goals as goal

pub new-requires-2-clause-rising : goal.new-requires-2-clause-rising
new-requires-2-clause-rising c = ins-rise c.args.net.now c.args.place c.args.ins c.requires

pub new-requires-2-clause-few : goal.new-requires-2-clause-few
new-requires-2-clause-few c = ins-few c.args.net.now c.args.place c.args.ins c.requires
