use Rattle.std.proofs.Common.{◌≡◌, ℕ, true, false, List, ◌∷◌, set, length, vec_items, sym, refl, ap, ap₂, ◌∙◌, arith}
use Rattle.network.specs.Values.{graph}
use Rattle.network.proofs.Sound.{links-long}
use Rattle.flow_theory.specs.Flow.{flagged, follow, used_count}
use Rattle.flow_theory.proofs.Follow.{count_less}
use Rattle.flow_search.proofs.Listed.{has-list, list-is}
use Rattle.flow_search.proofs.Visited.{row_below}
use Rattle.flow.proofs.Followed.{follow-here, follow-none, follow-on, found-out, found-used, found_below, end_read, ended, path-on, used-on}
use Rattle.flow_search.proofs.Made.{made-map}
use Rattle.flow.proofs.decomposition.+follow.Goals as goal

pub returns-then-node-receiver : goal.returns-then-node-receiver
returns-then-node-receiver t c =
    let s = c.args.search.now in
    let us = vec_items s.used in
    let e = ended us (vec_items c.args.path.now) _ (follow-here (graph s.adjacency.now.network.now).links c.args.receiver c.args.node us (used_count us) c.if-node-receiver.true) in
    record { path = e.0; used = e.1; same = refl }

pub index-requires : goal.index-requires
index-requires t c = let a = c.args.search.now.adjacency.now in omega (arith, has-list vec_items (vec_items a.out) _ _ _ a.lists_out _ c.requires, a.out.ok.0)

pub first_used-requires : goal.first_used-requires
first_used-requires t c j l =
    let s = c.args.search.now in
    let a = s.adjacency.now in
    let row = c.deref.ensures.value ∙ list-is vec_items (vec_items a.out) _ _ _ a.lists_out _ c.requires c.index.result.now c.index.ensures in
    omega (arith, row_below _ c.args.node _ _ row j l, s.level, s.used.ok.0, ap length c.deref-2.ensures.value)

pub returns-in_default : goal.returns-in_default
returns-in_default t c =
    let s = c.args.search.now in
    let a = s.adjacency.now in
    let us = vec_items s.used in
    let row = c.deref.ensures.value ∙ list-is vec_items (vec_items a.out) _ _ _ a.lists_out _ c.requires c.index.result.now c.index.ensures in
    let none = ap₂ (λ v r. flagged v true r) (sym c.deref-2.ensures.value) (sym row) ∙ c.in_default.ensures in
    let e = ended us (vec_items c.args.path.now) _ (follow-none (graph a.network.now).links c.args.receiver c.args.node us (used_count us) none) in
    record { path = e.0; used = e.1; same = refl }

pub index_mut-requires : goal.index_mut-requires
index_mut-requires t c =
    let s = c.args.search.now in
    let a = s.adjacency.now in
    let row = c.deref.ensures.value ∙ list-is vec_items (vec_items a.out) _ _ _ a.lists_out _ c.requires c.index.result.now c.index.ensures in
    omega (arith, found_below a.network.now c.deref-2.result.now c.args.node _ row c.in-Some.link c.in-Some.ensures, s.level, links-long a.network.now)

pub index-requires-2 : goal.index-requires-2
index-requires-2 t c =
    let a = c.args.search.now.adjacency.now in
    let row = c.deref.ensures.value ∙ list-is vec_items (vec_items a.out) _ _ _ a.lists_out _ c.requires c.index.result.now c.index.ensures in
    found_below a.network.now c.deref-2.result.now c.args.node _ row c.in-Some.link c.in-Some.ensures

pub follow-requires : goal.follow-requires
follow-requires t c =
    let s = c.args.search.now in
    let a = s.adjacency.now in
    let us = vec_items s.used in
    let k : ℕ = c.in-Some.link in
    let row = c.deref.ensures.value ∙ list-is vec_items (vec_items a.out) _ _ _ a.lists_out _ c.requires c.index.result.now c.index.ensures in
    let found : (ks : List ℕ) × (flagged us true c.deref.result.now ≡ k ∷ ks) = (c.in-Some.ensures.0, ap (λ v. flagged v true c.deref.result.now) (sym c.deref-2.ensures.value) ∙ c.in-Some.ensures.1) in
    (omega (arith, c.decreases, count_less us k (found-used a.network.now us c.args.node _ row k found)), (end_read a.network.now us c.args.node _ row k found c.index-2.result.now c.index-2.ensures).0)

pub returns : goal.returns
returns t c =
    let s = c.args.search.now in
    let a = s.adjacency.now in
    let z = a.network.now in
    let ls = (graph z).links in
    let us = vec_items s.used in
    let k : ℕ = c.in-Some.link in
    let row = c.deref.ensures.value ∙ list-is vec_items (vec_items a.out) _ _ _ a.lists_out _ c.requires c.index.result.now c.index.ensures in
    let found : (ks : List ℕ) × (flagged us true c.deref.result.now ≡ k ∷ ks) = (c.in-Some.ensures.0, ap (λ v. flagged v true c.deref.result.now) (sym c.deref-2.ensures.value) ∙ c.in-Some.ensures.1) in
    let out = found-out z us c.args.node _ row k found in
    let end = (end_read z us c.args.node _ row k found c.index-2.result.now c.index-2.ensures).1 in
    let used = found-used z us c.args.node _ row k found in
    let on = follow-on ls c.args.receiver c.args.node us k out.0 c.if-node-receiver.false out.1
    ∙ ap (λ x. k ∷ follow ls c.args.receiver (used_count (set us k false)) x (set us k false)) (sym end) in
    record {
      path = made-map c.follow.result _ _ (λ _ h. path-on k (vec_items c.args.path.now) (vec_items c.push.new.self) _ _ _ on c.in_ok-push.ensures.items h) c.follow.ensures.path;
      used = made-map c.follow.result _ _ (λ _ h. used-on us _ k _ _ used on h) c.follow.ensures.used;
      same = c.follow.ensures.same;
    }
