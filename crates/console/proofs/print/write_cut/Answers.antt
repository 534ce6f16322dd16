use Rattle.std.proofs.Common.{◌∷◌, [], codes, ◌≤◌, List, ℕ, ◌++◌, length, get_or, take, sym, ap, ◌∙◌, subst, append-nil, append_assoc, arith}
use Rattle.std.proofs.lemmas.List.{take_all}
use Rattle.std.specs.Io.KnownBytes.{Appends}
use Rattle.std.proofs.KnownBytes.{Appends-trans}
use Rattle.std.specs.Fmt.{decimal}
use Rattle.network.specs.Network.{link_at}
use Rattle.network.specs.Links.{link_of}
use Rattle.network.specs.Values.{graph}
use Rattle.network.proofs.Sound.{links-long, link_is}
use Rattle.console.specs.Text.{line_out, lines_out, cut_head}
use Rattle.console.proofs.Text.{regroup, lines-take}
use Rattle.console.proofs.print.write_cut.Goals as goal

pub loop-k-init : goal.loop-k-init
unfolding lines_out
loop-k-init g c =
    let count = c.count_out-count.ensures in
    let was = g.W.Write.contents c.args.out.now in
    let held = g.W.Write.contents c.writeln.new.self in
    rw (append-nil, ← count)
    (subst (λ q. Appends was held (codes "listener " ++ q)) (regroup (decimal c.args.listener) (codes ": cut, ") (decimal c.count_out-count.result) (codes " lines lead out") (10 ∷ []))
    c.in_ok-writeln.ensures.bytes)

pub loop-k-preserved : goal.loop-k-preserved
loop-k-preserved g c =
    let z = c.args.network.now in
    let side = c.args.side.now in
    let ls = (graph z).links in
    let k = c.loop-k.k in
    let head : List ℕ = cut_head side c.args.listener ls in
    let was = g.W.Write.contents c.args.out.now in
    let held = g.W.Write.contents c.write_if_out.new.out in
    let more = lines-take side ls k (omega (arith, links-long z, c.loop-k-test.true, c.deref-link-items.ensures.len)) in
    let here = ap (λ xs. link_of (get_or xs k (record { from = 0; to = 0 }))) c.deref-link-items.ensures.value ∙ sym (link_is z k) in
    let row = subst (λ l. Appends (g.W.Write.contents c.loop-k.out) held (line_out side k l)) here c.in_ok-write_if_out.ensures in
    subst (Appends was held) (append_assoc head (lines_out side 0 (take k ls)) (line_out side k (link_at ls k)) ∙ ap (λ q. head ++ q) (sym more)) (Appends-trans _ _ _ _ _ c.loop-k.invariant row)

pub returns : goal.returns
returns g c =
    let z = c.args.network.now in
    let side = c.args.side.now in
    let ls = (graph z).links in
    let all : length ls ≤ c.loop-k.k = omega (arith, links-long z, c.loop-k-test.false, c.deref-link-items.ensures.len) in
    subst (Appends _ _) (ap (λ q. cut_head side c.args.listener ls ++ lines_out side 0 q) (take_all c.loop-k.k ls all)) c.loop-k.invariant
