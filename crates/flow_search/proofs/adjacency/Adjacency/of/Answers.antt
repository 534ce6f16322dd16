use Rattle.std.proofs.Common.{◌≡◌, ◌<◌, ◌+◌, ◌++◌, ◌∷◌, [], length, get_or, map, set, vec_items, sym, ap, ◌∙◌, subst, arith}
use Rattle.network.specs.Network.{link_at}
use Rattle.network.specs.Links.{begin_of, end_of}
use Rattle.network.specs.Values.{graph}
use Rattle.network.proofs.Sound.{sound, links-long, from_is, to_is}
use Rattle.flow_search.specs.Rows.{Lists}
use Rattle.flow_search.proofs.Listed.{none-listed, listed-next}
use Rattle.flow_search.proofs.adjacency.Adjacency.of.Goals as goal

pub loop-k-init : goal.loop-k-init
loop-k-init c =
    let z = graph c.args.network.now in (
      subst (Lists (λ k. (link_at z.links k).from) z.nodes 0) (sym c.in_ok-out.ensures) (none-listed (λ k. (link_at z.links k).from) z.nodes),
      subst (Lists (λ k. (link_at z.links k).to) z.nodes 0) (sym c.in_ok-into.ensures) (none-listed (λ k. (link_at z.links k).to) z.nodes),
    )

pub loop-k-preserved : goal.loop-k-preserved
loop-k-preserved c =
    let z = c.args.network.now in
    let k = c.loop-k.k in
    let ls = (graph z).links in
    let below : k < length ls = omega (arith, links-long z) in
    let node = (sound z).within k below in
    let rows = map vec_items (vec_items c.loop-k.out) in
    let rows' = map vec_items (vec_items c.loop-k.into) in (
      subst (Lists (λ k. (link_at ls k).from) z.nodes (k + 1)) (sym (c.in_ok-add.ensures ∙ ap (λ q. set rows q (get_or rows q [] ++ k ∷ [])) (ap (λ xs. begin_of xs k) c.deref-link-items.ensures.value ∙ sym (from_is z k)))) (listed-next _ z.nodes k rows node.0 c.loop-k.invariant.0),
      subst (Lists (λ k. (link_at ls k).to) z.nodes (k + 1)) (sym (c.in_ok-add-2.ensures ∙ ap (λ q. set rows' q (get_or rows' q [] ++ k ∷ [])) (ap (λ xs. end_of xs k) c.deref-link-items.ensures.value ∙ sym (to_is z k)))) (listed-next _ z.nodes k rows' node.1 c.loop-k.invariant.1),
    )

pub invariant_of-result : goal.invariant_of-result
invariant_of-result c =
    let z = c.args.network.now in
    let all : c.loop-k.k ≡ length (graph z).links = omega (arith, links-long z) in
    record { lists_out = rw all at c.loop-k.invariant.0; lists_into = rw all at c.loop-k.invariant.1 }
