use Rattle.std.proofs.Common.{◌≡◌, ◌-◌, vec_items}
use Rattle.network.specs.Values.{graph}
use Rattle.flow_theory.specs.Flow.{augment}
use Rattle.flow.proofs.augmentation.use_paths.Given as goal

abbrev pub invariant-loop : goal.invariant-loop
invariant-loop l =
    let z = graph l.initial.search.adjacency.now.network.now in
    (l.search.adjacency ≡ l.initial.search.adjacency)
    × (augment z l.count l.receiver (l.count - l.counter) (vec_items l.search.used) ≡ augment z l.count l.receiver l.count (vec_items l.initial.search.used))
