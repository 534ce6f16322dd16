use Rattle.std.proofs.Common.{◌≡◌, ℕ, [], length, get_or, vec_items, ap, ◌∙◌, ap₂, add-one, arith}
use lib.Bits.{bit_xor}
use lib.ListN.{get_or-replicate, length-replicate}
use Rattle.gf.specs.Sum.{sum}
use Rattle.gf_bytes.specs.Packet.{multiple_at}
use Rattle.relay_node.specs.Values.{reading}
use Rattle.relay_node.proofs.Mixes.{chosen, multiple-is, read_is}
use Rattle.relay_node.proofs.node.Node.read.Goals as goal

pub loop-i-init : goal.loop-i-init
loop-i-init c = (λ k h. get_or-replicate 1024 k 0 0 h, length-replicate {A = ℕ} 1024 0)

pub loop-i-preserved : goal.loop-i-preserved
loop-i-preserved c = (
  λ k h.
      let d = c.args.self.now in
      let i = c.loop-i.i in
      rw add-one (c.add_multiple.ensures k h ∙ ap₂ bit_xor (c.loop-i.invariant.0 k h)
      (multiple-is d c.args.j c.requires c.index-row.result.now c.index-row.ensures c.came-came.result.now i _ _ k
      (omega (arith, c.deref-at-items.ensures.len, d.current.ok.0)) (ap (λ l. get_or l i 0) c.deref-at-items.ensures.value) (cc))),
  c.add_multiple.array_long,
)

pub returns : goal.returns
returns c =
    let d = c.args.self.now in
    let all : c.loop-i.i ≡ length (vec_items d.current) = omega (arith, c.deref-at-items.ensures.len, d.current.ok.0) in
    read_is d c.args.j c.requires c.index-row.result.now c.index-row.ensures c.came-came.result.now c.loop-i.sum c.loop-i.invariant.1
    (λ k h. c.loop-i.invariant.0 k h ∙ ap (λ y. sum y (multiple_at (vec_items c.index-row.result.now) (chosen (vec_items d.current) c.came-came.result.now) k)) all)
    ∙ ap (λ ps. get_or (reading d ps) c.args.j []) c.came-came.ensures.packets
