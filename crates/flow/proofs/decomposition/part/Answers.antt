use Rattle.std.proofs.Common.{◌≡◌, ℕ, suc, ◌+◌, ◌-◌, List, [], ◌∷◌, ◌++◌, map, vec_items, sym, ap, ◌∙◌, append_assoc, append-nil, arith}
use Rattle.std.proofs.lemmas.List.{map_push}
use Rattle.network.specs.Values.{graph}
use Rattle.flow_theory.specs.Flow.{follow, parted, turn_all, used_count}
use Rattle.flow.proofs.Followed.{parted-more}
use Rattle.flow.proofs.decomposition.part.Goals as goal

pub loop-preserved : goal.loop-preserved
loop-preserved c =
    let z = c.args.search.now.adjacency.now.network.now in
    let ls = (graph z).links in
    let p : ℕ = c.args.receiver in
    let here = c.loop.invariant.0 in
    let us = vec_items c.loop.search.used in
    let m : ℕ = c.args.count - (c.loop.counter + 1) in
    let left : c.args.count - c.loop.counter ≡ suc m = omega arith in
    let old = map vec_items (vec_items c.loop.paths) in
    let path : List ℕ = vec_items c.follow.new.path in
    let us' = vec_items c.follow.new.search.used in
    let taken = ap (λ a. follow (graph a.now.network.now).links p (used_count us) 0 us) here in (
      c.in_ok-follow.ensures.same ∙ here,
      c.loop.invariant.1 ∙ ap (λ x. old ++ parted ls p x us) left
          ∙ ap (λ x. old ++ x) (parted-more ls p m us us' path (c.in_ok-follow.ensures.path ∙ ap (λ x. x ++ follow (graph c.loop.search.adjacency.now.network.now).links p (used_count us) 0 us) c.new-path.ensures.items ∙ taken) (c.in_ok-follow.ensures.used ∙ ap (λ x. turn_all x us) taken))
          ∙ sym (append_assoc old (path ∷ []) (parted ls p m us'))
          ∙ ap (λ x. x ++ parted ls p m us') (sym (ap (map vec_items) c.in_ok-push.ensures.items ∙ map_push vec_items (vec_items c.loop.paths) c.follow.new.path)),
    )

pub returns : goal.returns
unfolding parted
returns c =
    let ls = (graph c.args.search.now.adjacency.now.network.now).links in
    let none : c.args.count - c.loop.counter ≡ 0 = omega arith in
    sym (c.loop.invariant.1 ∙ ap (λ x. map vec_items (vec_items c.loop.paths) ++ parted ls c.args.receiver x (vec_items c.loop.search.used)) none ∙ append-nil (map vec_items (vec_items c.loop.paths)))
