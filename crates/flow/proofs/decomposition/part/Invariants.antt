use Rattle.std.proofs.Common.{◌≡◌, ◌-◌, ◌++◌, map, vec_items}
use Rattle.network.specs.Values.{graph}
use Rattle.flow_theory.specs.Flow.{parted}
use Rattle.flow.proofs.decomposition.part.Given as goal

abbrev pub invariant-loop : goal.invariant-loop
invariant-loop l =
    let ls = (graph l.initial.search.adjacency.now.network.now).links in
    (l.search.adjacency ≡ l.initial.search.adjacency)
    × (parted ls l.receiver l.count (vec_items l.initial.search.used) ≡ map vec_items (vec_items l.paths) ++ parted ls l.receiver (l.count - l.counter) (vec_items l.search.used))
