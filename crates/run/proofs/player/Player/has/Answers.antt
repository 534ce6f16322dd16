use Rattle.std.proofs.Common.{true, false, sym, ◌∙◌, arith, below_more}
use Rattle.run.proofs.Read.{differ, chunk_at, receiver-within, heard_all, heard-other, heard-not}
use Rattle.run.proofs.player.Player.has.Goals as goal

pub index-node-requires : goal.index-node-requires
index-node-requires c = omega (arith, c.args.self.now.placed, receiver-within c.args.self.now.net.now c.args.i c.index.result.now c.requires.receiver c.index.ensures)

pub returns-then-len-self : goal.returns-then-len-self
returns-then-len-self c =
    let h = heard-other c.args.self.now.net.now c.args.self.now c.args.i c.index.result.now c.args.bytes.now c.index-node.result.now c.requires.receiver c.index.ensures c.args.self.now.placed c.index-node.ensures c.requires.played (λ j. omega (arith, c.type_inv.bytes j))
    (λ e. c.if-len-self.true (omega (arith, c.len.ensures))) in
    record { hears = h.0; all = h.1 }

pub returns-then-ne : goal.returns-then-ne
returns-then-ne c =
    let h = heard-not c.args.self.now.net.now c.args.self.now c.args.i c.index.result.now c.args.bytes.now c.index-node.result.now c.requires.receiver c.index.ensures c.args.self.now.placed c.index-node.ensures c.requires.played (λ j. omega (arith, c.type_inv.bytes j))
    c.loop-j.j (omega arith) (λ e. differ _ _ true (sym c.if-ne.true ∙ c.ne.ensures) (c.read.ensures ∙ e ∙ sym (chunk_at c.args.bytes.now _ _ c.as_chunks.ensures.front c.loop-j.j c.loop-j-test.true))) in
    record { hears = h.0; all = h.1 }

pub loop-j-preserved : goal.loop-j-preserved
loop-j-preserved c = below_more _ _ c.loop-j.invariant (sym c.read.ensures ∙ differ _ _ false (sym c.if-ne.false ∙ c.ne.ensures) ∙ chunk_at c.args.bytes.now _ _ c.as_chunks.ensures.front c.loop-j.j c.loop-j-test.true)

pub returns : goal.returns
returns c =
    let h = heard_all c.args.self.now.net.now c.args.self.now c.args.i c.index.result.now c.args.bytes.now c.index-node.result.now c.requires.receiver c.index.ensures c.args.self.now.placed c.index-node.ensures c.requires.played (λ j. omega (arith, c.type_inv.bytes j))
    (omega (arith, c.len.ensures, c.if-len-self.false)) (λ k l. c.loop-j.invariant k (omega arith)) in
    record { hears = h.0; all = h.1 }
