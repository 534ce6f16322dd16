use Rattle.std.proofs.Common.{◌≡◌, ℕ, suc, ◌+◌, ◌-◌, false, get_or, vec_items, sym, ap, ◌∙◌, subst, arith}
use Rattle.std.specs.List.{position}
use Rattle.network.specs.Values.{graph}
use Rattle.network.proofs.Sound.{sound}
use Rattle.flow_theory.specs.Flow.{start, is_reached, reached, turn_all, augment}
use Rattle.flow_search.specs.Queue.{ways_of, Sought}
use Rattle.flow.proofs.Turned.{stands_at, not_there, grown-more, grown-cut}
use Rattle.flow.proofs.augmentation.use_paths.Goals as goal

pub returns-in_default-clause-grown : goal.returns-in_default-clause-grown
returns-in_default-clause-grown c =
    let s = c.args.search.now in
    let t = c.loop.search in
    let z = s.adjacency.now.network.now in
    let us = vec_items t.used in
    let h : ℕ = c.args.count in
    let p : ℕ = c.args.receiver in
    let after = c.run.new.self in
    let here = c.loop.invariant.0 in
    let sought = subst (λ a. Sought (graph a.now.network.now) us p (ways_of (vec_items after.order))) here c.in_ok-run.ensures.sought in
    let left : h - c.loop.counter ≡ suc (h - (c.loop.counter + 1)) = omega arith in
    let unreached : is_reached p (ways_of (vec_items after.order)) ≡ false = not_there (vec_items after.order) p (ap (position _) (sym c.deref.ensures.value) ∙ sym c.place_of.ensures ∙ c.in_default.is) in
    let g = grown-cut (graph z) (sound z) h p (h - (c.loop.counter + 1)) us (vec_items after.order) after.marks (omega (arith, z.limits.1, after.marked)) sought unreached after.queued.marked in
    (λ q. is_reached q (reached (graph z) us), sym c.loop.invariant.1 ∙ ap (λ m. augment (graph z) h p m us) left ∙ g.0, g.1)

pub loop-preserved : goal.loop-preserved
loop-preserved c =
    let s = c.args.search.now in
    let t = c.loop.search in
    let z = s.adjacency.now.network.now in
    let us = vec_items t.used in
    let h : ℕ = c.args.count in
    let p : ℕ = c.args.receiver in
    let after = c.run.new.self in
    let here = c.loop.invariant.0 in
    let sought = subst (λ a. Sought (graph a.now.network.now) us p (ways_of (vec_items after.order))) here c.in_ok-run.ensures.sought in
    let left : h - c.loop.counter ≡ suc (h - (c.loop.counter + 1)) = omega arith in (
      c.turn_path.ensures.same ∙ c.in_ok-run.ensures.same.0 ∙ here,
      grown-more (graph z) (sound z) h p (h - (c.loop.counter + 1)) us (vec_items c.turn_path.new.search.used) (vec_items after.order) c.in-Some.place sought
          (stands_at (vec_items after.order) p c.in-Some.place (ap (position _) (sym c.deref.ensures.value) ∙ sym c.place_of.ensures ∙ c.in-Some.is)) (c.turn_path.ensures.used ∙ ap (λ v. turn_all (get_or (ways_of (vec_items after.order)) c.in-Some.place start).links (vec_items v)) c.in_ok-run.ensures.same.1)
          ∙ ap (λ m. augment (graph z) h p m us) (sym left) ∙ c.loop.invariant.1,
    )

pub returns-clause-grown : goal.returns-clause-grown
unfolding augment
returns-clause-grown c =
    let z = c.args.search.now.adjacency.now.network.now in
    let none : 0 ≡ c.args.count - c.loop.counter = omega arith in
    sym (ap (λ m. augment (graph z) c.args.count c.args.receiver m (vec_items c.loop.search.used)) none ∙ c.loop.invariant.1)
