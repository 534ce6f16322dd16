use Rattle.relay_node.proofs.Assembled.{no-receiver, listed, receiver-there, place-missing}
use Rattle.relay_node.proofs.node.Node.receiver.Goals as goal
use Rattle.relay_node.proofs.node.Node.receiver.Goals.{else-place-net-via-then-place-net+else-not-contains, else-place-net-via-else-place-net}

pub returns-then-not-contains : goal.returns-then-not-contains
returns-then-not-contains c = no-receiver c.args.fitted.now.net.now _ c.args.place c.deref.result.now c.contains.result c.if-place-net.true c.if-not-contains.true c.contains.ensures.cases c.deref.ensures.value

pub returns : goal.returns
returns c =
    elim c.else-place-net.branch [
      | else-place-net-via-then-place-net+else-not-contains w ↦ receiver-there c.args.fitted.now.net.now _ c.args.place c.new.result (listed c.args.place w.deref.result.now _ w.contains.result w.if-not-contains.false w.contains.ensures.cases w.deref.ensures.value) c.new.ensures
      | else-place-net-via-else-place-net w ↦ place-missing c.args.fitted.now.net.now _ c.args.place c.new.result w.if-place-net.false c.new.ensures
    ]
