use Rattle.std.proofs.Common.{vec_items, refl}
use Rattle.relay_memory.specs.Values.{state}
use Rattle.relay_node.specs.Steps.{take_message}
use Rattle.run.proofs.Open.{opened}
use Rattle.run.proofs.Taking.{took-at}
use Rattle.run.proofs.player.Player.open.Goals as goal

pub returns-clause-opens : goal.returns-clause-opens
returns-clause-opens c =
    λ m ok cs rs s w long.
    let n = c.index_mut.result.now in (
      _,
      opened m ok cs rs s c.args.self.now _ w c.args.bytes.now long n refl refl c.take_message.new.self refl
          (took-at n _ _ (λ d. take_message d.source d.slots.width (vec_items d.slots.ins) (state d.slots) c.args.self.now.round c.args.bytes.now) c.index_mut.ensures.value ((c.take_message.result, c.take_message.ensures.answer), c.take_message.ensures.code)),
    )
