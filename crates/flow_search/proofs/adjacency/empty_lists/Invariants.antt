use Rattle.std.proofs.Common.{◌≡◌, [], map, vec_items, replicate}
use Rattle.flow_search.proofs.adjacency.empty_lists.Given as goal

abbrev pub invariant-loop : goal.invariant-loop
invariant-loop l = map vec_items (vec_items l.lists) ≡ replicate l.counter []
