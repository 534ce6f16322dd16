use Rattle.std.proofs.Common.{true, false, length, get_or, vec_items, vec_len, ap, ap₂, ◌∙◌, arith}
use Rattle.network.specs.Values.{graph}
use Rattle.flow_theory.specs.Flow.{start, over, go_on, flagged, out_of, into_of}
use Rattle.flow_search.specs.Queue.{ways_of}
use Rattle.flow_search.proofs.Listed.{has-list, list-is}
use Rattle.flow_search.proofs.Queued.{ways-length, go-longer}
use Rattle.flow_search.proofs.Visited.{node-read, node-below, row_below, visited}
use Rattle.flow_search.proofs.Made.{made-map}
use Rattle.flow_search.proofs.search.Search.visit.Goals as goal

pub index-requires-2 : goal.index-requires-2
index-requires-2 c =
    let s = c.args.self.now in
    let a = s.adjacency.now in
    let rs = vec_items s.order in
    let n = s.order.ok.0 in
    let node = node-below rs _ c.args.place _ a.network.now.nodes (node-read rs _ _ _ c.index.ensures c.requires.place n) c.requires.place n c.requires.bounded in
    omega (arith, has-list vec_items (vec_items a.out) _ _ _ a.lists_out _ node, a.out.ok.0)

pub go_over-requires-clause-row : goal.go_over-requires-clause-row
go_over-requires-clause-row c j h =
    let s = c.args.self.now in
    let a = s.adjacency.now in
    let rs = vec_items s.order in
    let n = s.order.ok.0 in
    let node = node-below rs _ c.args.place _ a.network.now.nodes (node-read rs _ _ _ c.index.ensures c.requires.place n) c.requires.place n c.requires.bounded in
    omega (arith, row_below _ _ _ _ (c.deref.ensures.value ∙ list-is vec_items (vec_items a.out) _ _ _ a.lists_out _ node c.index-2.result.now c.index-2.ensures) j h, s.level)

pub index-requires-3 : goal.index-requires-3
index-requires-3 c =
    let s = c.args.self.now in
    let a = s.adjacency.now in
    let rs = vec_items s.order in
    let n = s.order.ok.0 in
    let node = node-below rs _ c.args.place _ a.network.now.nodes (node-read rs _ _ _ c.index.ensures c.requires.place n) c.requires.place n c.requires.bounded in
    omega (arith, has-list vec_items (vec_items a.into) _ _ _ a.lists_into _ node, a.into.ok.0)

pub go_over-requires-2-clause-row : goal.go_over-requires-2-clause-row
go_over-requires-2-clause-row c j h =
    let s = c.args.self.now in
    let a = s.adjacency.now in
    let rs = vec_items s.order in
    let n = s.order.ok.0 in
    let node = node-below rs _ c.args.place _ a.network.now.nodes (node-read rs _ _ _ c.index.ensures c.requires.place n) c.requires.place n c.requires.bounded in
    omega (arith, row_below _ _ _ _ (c.deref-2.ensures.value ∙ list-is vec_items (vec_items a.into) _ _ _ a.lists_into _ node c.index-3.result.now c.index-3.ensures) j h, s.level, ap vec_len c.go_over.ensures.same.1)

pub go_over-requires-2-clause-place : goal.go_over-requires-2-clause-place
go_over-requires-2-clause-place c =
    let s = c.args.self.now in
    let rs = vec_items s.order in
    let after = c.go_over.new.self.order in
    let longer = (go-longer (over (graph s.adjacency.now.network.now).links (vec_items s.used)) (get_or (ways_of rs) c.args.place start) (flagged (vec_items s.used) false c.deref.result.now) (ways_of rs)).0 in
    omega (arith, c.requires.place, s.order.ok.0, ways-length rs, longer, ap length c.in_ok-go_over.ensures.ways, ways-length (vec_items after), after.ok.0)

pub returns-clause-ways : goal.returns-clause-ways
returns-clause-ways c =
    let s = c.args.self.now in
    let a = s.adjacency.now in
    let ls = (graph a.network.now).links in
    let rs = vec_items s.order in
    let n = s.order.ok.0 in
    let e = node-read rs _ _ _ c.index.ensures c.requires.place n in
    let node = node-below rs _ c.args.place _ a.network.now.nodes e c.requires.place n c.requires.bounded in
    let out = list-is vec_items (vec_items a.out) _ _ _ a.lists_out _ node c.index-2.result.now c.index-2.ensures in
    let into = list-is vec_items (vec_items a.into) _ _ _ a.lists_into _ node c.index-3.result.now c.index-3.ensures in
    let place = c.args.place in
    let on = ways_of (vec_items c.go_over.new.self.order) in
    let moved = ap₂ (λ b v. go_on (over (graph b.now.network.now).links (vec_items v)) (get_or on place start) (flagged (vec_items v) true c.deref-2.result.now) on) c.in_ok-go_over.ensures.same.0 c.in_ok-go_over.ensures.same.1 in
    made-map c.go_over-2.result _ _
    (λ _ h. visited ls (vec_items s.used) c.args.place (ways_of rs) _ _ c.deref.result.now c.deref-2.result.now (omega (arith, ways-length rs, c.requires.place, n))
    (c.deref.ensures.value ∙ out ∙ ap (out_of ls) e) (c.deref-2.ensures.value ∙ into ∙ ap (into_of ls) e) c.in_ok-go_over.ensures.ways (h ∙ moved))
    c.go_over-2.ensures.ways
