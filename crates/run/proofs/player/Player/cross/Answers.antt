use Rattle.std.proofs.Common.{length, vec_items, sym, refl, ap, ◌∙◌, arith}
use Rattle.std.proofs.lemmas.List.{length-set, with_items_is}
use Rattle.network.proofs.Sound.{begins-at, ends-at}
use Rattle.relay_memory.specs.Values.{state}
use Rattle.relay_node.specs.Steps.{take_packet}
use Rattle.run.proofs.Cross.{begins-within, ends-within, sends-at, crossed}
use Rattle.run.proofs.Taking.{took-at}
use Rattle.run.proofs.player.Player.cross.Goals as goal

pub index-requires : goal.index-requires
index-requires c =
    let y = c.args.self.now in omega (arith, begins-within y.net.now c.args.k c.index-link.result.now c.requires.link c.index-link.ensures, y.placed)

pub index_mut-requires : goal.index_mut-requires
index_mut-requires c =
    let y = c.args.self.now in omega (arith, ends-within y.net.now c.args.k c.index-link.result.now c.requires.link c.index-link.ensures, y.placed)

pub returns-clause-crosses : goal.returns-clause-crosses
returns-clause-crosses c =
    let y = c.args.self.now in
    let net = y.net.now in
    let k = c.args.k in
    let x = c.index-link.result.now in
    let packet = c.packet_over-packet.result in
    let n = c.index_mut.result.now in
    crossed net k y _ packet x.from x.to c.requires.link (begins-at net.network k x c.requires.link c.index-link.ensures) (ends-at net.network k x c.requires.link c.index-link.ensures)
    c.requires.early refl
    (sends-at y k packet x.from c.index.result.now (omega (arith, begins-within net k x c.requires.link c.index-link.ensures, y.placed)) c.index.ensures c.packet_over-packet.ensures)
    (n, c.take.new.self, refl, took-at n _ _ (λ d. take_packet d.source (vec_items d.slots.ins) (state d.slots) k y.round packet) c.index_mut.ensures.value ((c.take.result, c.take.ensures.answer), c.take.ensures.code))
    (λ h.
    let e = (rw c.deref_mut.ensures.value at c.count.ensures) h in
    with_items_is y.counts c.count.new.counts (ap length e ∙ length-set (vec_items y.counts) k _ ∙ sym y.counts.ok.0) ∙ e)
