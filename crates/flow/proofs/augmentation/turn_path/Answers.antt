use Rattle.std.proofs.Common.{◌≡◌, ◌<◌, not, false, get_or, set, length, vec_items, vec_len, sym, ap, ap₂, ◌∙◌, arith}
use Rattle.std.proofs.lemmas.List.{get_or_read_under}
use Rattle.network.specs.Values.{graph}
use Rattle.flow_theory.specs.Flow.{start, turn, turn_all}
use Rattle.flow_search.specs.Queue.{reached_at, ways_of}
use Rattle.flow.proofs.Turned.{turn_more, turn-none}
use Rattle.flow.proofs.augmentation.turn_path.Goals as goal

pub loop-at-preserved : goal.loop-at-preserved
loop-at-preserved c =
    let s = c.loop-at.search in
    let rs = vec_items c.args.search.now.order in
    let at = c.loop-at.at in
    let same = c.loop-at.invariant.1 in
    let within = c.loop-at.invariant.2 in
    let r = c.index-reached.result.now in
    let read : r ≡ reached_at rs at = get_or_read_under (vec_items s.order) at (vec_len s.order) r (record { node = 0; link = 0; place = 0 }) c.index-reached.ensures (omega (arith, within, ap vec_len same, c.args.search.now.order.ok.0)) s.order.ok.0 ∙ ap (λ v. get_or (vec_items v) at (record { node = 0; link = 0; place = 0 })) same in
    let l = c.args.search.now.queued.linked at c.loop-at-test.true within in
    let below : r.link < vec_len s.used = omega (arith, ap (λ x. x.link) read, l.1, s.level, c.args.search.now.level, ap (λ a. length (graph a.now.network.now).links) c.loop-at.invariant.0) in
    let used : c.index.result.now ≡ get_or (vec_items s.used) r.link false = get_or_read_under (vec_items s.used) r.link (vec_len s.used) c.index.result.now false c.index.ensures below s.used.ok.0 in (
      c.loop-at.invariant.0,
      same,
      omega (arith, ap (λ x. x.place) read, l.0, within),
      ap₂ (λ n us. turn_all (get_or (ways_of rs) n start).links us) (ap (λ x. x.place) read) (ap (λ b. set (vec_items s.used) r.link (not b)) used ∙ ap (λ k. turn k (vec_items s.used)) (ap (λ x. x.link) read))
          ∙ turn_more rs at (vec_items s.used) c.loop-at-test.true within l.0 ∙ c.loop-at.invariant.3,
    )

pub returns-clause-used : goal.returns-clause-used
returns-clause-used c =
    let rs = vec_items c.args.search.now.order in
    let us = vec_items c.loop-at.search.used in
    let e : 0 ≡ c.loop-at.at = omega arith in
    sym (turn-none rs us) ∙ ap (λ n. turn_all (get_or (ways_of rs) n start).links us) e ∙ c.loop-at.invariant.3
