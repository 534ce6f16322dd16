use Rattle.std.proofs.Common.{[], ◌∷◌, ◌++◌, false, get_or, replicate, vec_items, vec_len, sym, refl, ap, ap₂, ◌∙◌, subst, arith}
use Rattle.network.specs.Values.{graph}
use Rattle.network.proofs.Sound.{sound}
use Rattle.flow_theory.specs.Flow.{onward, start}
use Rattle.flow_search.specs.Queue.{ways_of, Queued}
use Rattle.flow_search.proofs.Queued.{ways-length}
use Rattle.flow_search.proofs.Searched.{none-queued, turn-first, turn_more, sought-turns, sought-all, sought-found}
use Rattle.flow_search.proofs.search.Search.run.Goals as goal
use Rattle.flow_search.proofs.search.Search.run.Goals.{then-place-len-via-then-place-len, then-place-len-via-else-place-len+then-self-receiver}

pub invariant_of-self : goal.invariant_of-self
invariant_of-self c = record { level = c.args.self.now.level; marked = refl; queued = subst (λ rs. Queued (vec_len c.args.self.now.used) rs (replicate 256 false)) (sym (c.in_err-push.ensures.items ∙ c.clear.ensures.items)) (none-queued _) }

pub invariant_of-self-2 : goal.invariant_of-self-2
invariant_of-self-2 c =
    let s = c.args.self.now in
    let z = s.adjacency.now.network.now in
    record {
      level = s.level;
      marked = refl;
      queued = (turn-first (graph z) (sound z) (vec_items s.used) (vec_len s.used) (vec_items c.push.new.self) _ _ (c.in_ok-push.ensures.items ∙ ap (λ l. l ++ record { node = 0; link = 0; place = 0 } ∷ []) c.clear.ensures.items) refl refl).queued;
    }

pub loop-place-init : goal.loop-place-init
loop-place-init c =
    let s = c.args.self.now in
    let z = s.adjacency.now.network.now in
    (refl, refl, turn-first (graph z) (sound z) (vec_items s.used) (vec_len s.used) (vec_items c.push.new.self) _ _ (c.in_ok-push.ensures.items ∙ ap (λ l. l ++ record { node = 0; link = 0; place = 0 } ∷ []) c.clear.ensures.items) refl refl)

pub loop-place-preserved : goal.loop-place-preserved
loop-place-preserved c =
    let s = c.args.self.now in
    let t = c.loop-place.self in
    let z = s.adjacency.now.network.now in
    let here = c.loop-place.invariant.0 in
    let same = c.loop-place.invariant.1 in (
      c.in_ok-visit.ensures.same.0 ∙ here,
      c.in_ok-visit.ensures.same.1 ∙ same,
      turn_more (graph z) (sound z) (vec_items s.used) (vec_len s.used) c.loop-place.place (vec_items t.order) (vec_items c.visit.new.self.order) t.marks _
          (omega (arith, ap (λ a. a.now.network.now.nodes) here)) (omega (arith, ways-length (vec_items t.order), t.order.ok.0, c.len.ensures, c.if-place-len.false))
          (c.in_ok-visit.ensures.ways ∙ ap₂ (λ a v. onward (graph a.now.network.now).links (vec_items v) (get_or (ways_of (vec_items t.order)) c.loop-place.place start) (ways_of (vec_items t.order))) here same)
          (subst (λ v. Queued (vec_len v) (vec_items c.visit.new.self.order) c.visit.new.self.marks) (c.in_ok-visit.ensures.same.1 ∙ same) c.visit.new.self.queued) c.loop-place.invariant.2,
    )

pub returns-after-loop-place-clause-sought : goal.returns-after-loop-place-clause-sought
returns-after-loop-place-clause-sought c =
    let s = c.args.self.now in
    let z = s.adjacency.now.network.now in
    sought-turns (graph z) (sound z) (vec_items s.used) c.args.receiver c.loop-place.place _ c.loop-place.invariant.2.rest (omega arith)

pub returns-then-place-len-clause-sought : goal.returns-then-place-len-clause-sought
returns-then-place-len-clause-sought c =
    let s = c.args.self.now in
    let z = s.adjacency.now.network.now in
    let t = c.loop-place.invariant.2 in
    let rs = vec_items c.loop-place.self.order in
    elim c.then-place-len.branch [
      | then-place-len-via-then-place-len w ↦
          sought-all (graph z) (sound z) (vec_items s.used) c.args.receiver c.loop-place.place (ways_of rs) t.rest
          (omega (arith, ways-length rs, c.loop-place.self.order.ok.0, c.len.ensures, w.if-place-len.true))
      | then-place-len-via-else-place-len+then-self-receiver w ↦
          sought-found (graph z) (sound z) (vec_items s.used) c.args.receiver c.loop-place.place (ways_of rs) t.rest
          (sym (t.queued.marked c.args.receiver (omega (arith, c.requires, z.limits.1))) ∙ w.if-self-receiver.true)
    ]
