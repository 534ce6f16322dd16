use Rattle.std.proofs.Common.{◌≡◌, ℕ, ◌<◌, ◌+◌, Bool, true, false, cond, List, length, get_or, set, vec_items, vec_len, length-set, sym, refl, ap, ap₂, ◌∙◌, subst, subst₂, arith}
use Rattle.std.proofs.lemmas.List.{get_or_read_under}
use mathlib.Core.Bool.{beq}
use Rattle.network.specs.Network.{link_at}
use Rattle.network.specs.Links.{begin_of, end_of}
use Rattle.network.specs.Values.{graph}
use Rattle.network.specs.declared.net.Link.{Link}
use Rattle.network.specs.declared.net.Network.{Network}
use Rattle.network.proofs.Sound.{sound, links-long, from_is, to_is}
use Rattle.flow_theory.specs.Flow.{is_used, flagged, go_on, over}
use Rattle.flow_theory.proofs.Lists.{beq_same}
use Rattle.flow_search.specs.Queue.{ways_of, Queued}
use Rattle.flow_search.proofs.Queued.{Kept, kept-other, kept-marked, kept_new, kept-long, queued-push, ways-length}
use Rattle.flow_search.proofs.search.Search.go_over.Goals.{then-index-back+then-not-self-node+in_ok-push, else-index-back, else-index-back-via-then-index-back+else-not-self-node, else-index-back-via-else-index-back}
use Rattle.flow_search.proofs.search.Search.go_over.Goals as goal

-- where a step over link k leads, in the network's words: one of its nodes
leads-to : (z : Network) (ls : List Link) (k q : ℕ) (back : Bool) → ls ≡ vec_items z.links → q ≡ cond back (begin_of ls k) (end_of ls k)
    → q ≡ cond back (link_at (graph z).links k).from (link_at (graph z).links k).to
leads-to z ls k q back l e = e ∙ ap (λ x. cond back (begin_of x k) (end_of x k)) l ∙ ap₂ (λ a b. cond back a b) (sym (from_is z k)) (sym (to_is z k))

leads-within : (z : Network) (k q : ℕ) (back : Bool) → k < vec_len z.links → q ≡ cond back (link_at (graph z).links k).from (link_at (graph z).links k).to → q < 256
leads-within z k q back l e =
    let there = (sound z).within k (omega (arith, l, links-long z)) in
    subst (λ x. x < 256) (sym e)
    (elim back as (λ b. cond b (link_at (graph z).links k).from (link_at (graph z).links k).to < 256) [
      | true ↦ omega (arith, there.0, z.limits.1)
      | false ↦ omega (arith, there.1, z.limits.1)
    ])

pub loop-link-init : goal.loop-link-init
unfolding flagged go_on
loop-link-init c = (refl, refl, record { ways = refl; queued = c.args.self.now.queued })

pub lead-node-requires : goal.lead-node-requires
lead-node-requires c =
    let s = c.args.self.now in
    omega (arith, c.requires.row _ c.loop-link-test.true, s.level, links-long s.adjacency.now.network.now, c.as_slice-links.ensures.len)

pub invariant_of-self-then-not-self-node : goal.invariant_of-self-then-not-self-node
invariant_of-self-then-not-self-node c =
    let s = c.loop-link.self in
    let k : ℕ = get_or c.args.row.now c.loop-link.link-index 0 in
    let kept = c.loop-link.invariant.2 in
    let below : k < vec_len s.used = omega (arith, c.requires.row c.loop-link.link-index c.loop-link-test.true, ap vec_len c.loop-link.invariant.1) in
    let first : c.args.place < length (ways_of (vec_items c.args.self.now.order)) = omega (arith, ways-length (vec_items c.args.self.now.order), c.requires.place, c.args.self.now.order.ok.0) in
    let inside : c.args.place < length (vec_items s.order) = omega (arith, first, kept-long _ _ _ _ _ _ _ _ _ _ kept) in
    let f = c.args.self.now in
    let z = f.adjacency.now.network.now in
    let marked : c.lead-node.result < 256 =
    leads-within z k c.lead-node.result c.args.back (omega (arith, below, ap vec_len c.loop-link.invariant.1, f.level, links-long z))
    (leads-to z c.as_slice-links.result.now k c.lead-node.result c.args.back c.as_slice-links.ensures.value c.lead-node.ensures) in
    record {
      level = s.level;
      marked = length-set s.marks c.lead-node.result true ∙ s.marked;
      queued = subst (λ rs. Queued (vec_len s.used) rs (set s.marks c.lead-node.result true)) (sym c.in_ok-push.ensures.items)
          (queued-push (vec_len s.used) (vec_items s.order) s.marks (record { node = c.lead-node.result; link = k; place = c.args.place }) inside below (omega (arith, marked)) s.queued);
    }

pub loop-link-preserved : goal.loop-link-preserved
loop-link-preserved c =
    let first = c.args.self.now in
    let s = c.loop-link.self in
    let us = vec_items first.used in
    let j = c.loop-link.link-index in
    let row = c.args.row.now in
    let place = c.args.place in
    let k : ℕ = get_or row j 0 in
    let q = c.lead-node.result in
    let ws = ways_of (vec_items first.order) in
    let here = c.loop-link.invariant.0 in
    let same = c.loop-link.invariant.1 in
    let kept = c.loop-link.invariant.2 in
    let below : k < vec_len first.used = c.requires.row j c.loop-link-test.true in
    let inside : place < length ws = omega (arith, ways-length (vec_items first.order), c.requires.place, first.order.ok.0) in
    let used : c.index.result.now ≡ is_used us k = get_or_read_under (vec_items s.used) k (vec_len s.used) c.index.result.now false c.index.ensures (omega (arith, below, ap vec_len same)) s.used.ok.0 ∙ ap (λ v. get_or (vec_items v) k false) same in
    let lead : ℕ → ℕ = over (graph first.adjacency.now.network.now).links us in
    let z = first.adjacency.now.network.now in
    let to = leads-to z c.as_slice-links.result.now k q c.args.back c.as_slice-links.ensures.value c.lead-node.ensures in
    let marked : q < 256 = leads-within z k q c.args.back (omega (arith, below, first.level, links-long z)) to in
    let leads : beq (is_used us k) c.args.back ≡ true → q ≡ lead k =
    λ e. to ∙ ap (λ b. cond b (link_at (graph z).links k).from (link_at (graph z).links k).to) (sym (beq_same _ _ e)) in
    elim c.if-index-back.branch [
      | then-index-back+then-not-self-node+in_ok-push w ↦
          let e : beq (is_used us k) c.args.back ≡ true = ap (λ b. beq b c.args.back) (sym used) ∙ w.if-index-back.true in (
            ap (λ x. x.adjacency) w.self-is ∙ here,
            ap (λ x. x.used) w.self-is ∙ same,
            subst₂ (Kept (vec_len first.used) lead us c.args.back row place ws (j + 1)) (sym (ap (λ x. vec_items x.order) w.self-is ∙ w.in_ok-push.ensures.items)) (sym (ap (λ x. x.marks) w.self-is))
                (kept_new _ _ _ _ _ _ _ j c.loop-link-test.true _ _ kept q (leads e) inside e below (omega (arith, marked)) w.if-not-self-node.true),
          )
      | else-index-back w ↦ (
        ap (λ x. x.adjacency) w.self-is ∙ here,
        ap (λ x. x.used) w.self-is ∙ same,
        subst₂ (Kept (vec_len first.used) lead us c.args.back row place ws (j + 1)) (sym (ap (λ x. vec_items x.order) w.self-is)) (sym (ap (λ x. x.marks) w.self-is))
            (elim w.else-index-back.branch [
              | else-index-back-via-then-index-back+else-not-self-node v ↦
                  let e : beq (is_used us k) c.args.back ≡ true = ap (λ b. beq b c.args.back) (sym used) ∙ v.if-index-back.true in
                  kept-marked _ _ _ _ _ _ _ j c.loop-link-test.true _ _ kept q (leads e) e (omega (arith, marked)) v.if-not-self-node.false
              | else-index-back-via-else-index-back v ↦ kept-other _ _ _ _ _ _ _ j c.loop-link-test.true _ _ kept (ap (λ b. beq b c.args.back) (sym used) ∙ v.if-index-back.false)
            ]),
      )
    ]
