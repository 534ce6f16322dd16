use Rattle.std.proofs.Common.{◌≡◌, ◌<◌, length, get_or, vec_items}
use Rattle.flow_theory.specs.Flow.{start, turn_all}
use Rattle.flow_search.specs.Queue.{ways_of}
use Rattle.flow.proofs.augmentation.turn_path.Given as goal

-- the links that are still to turn, of those that led to the place
abbrev pub invariant-loop-at : goal.invariant-loop-at
invariant-loop-at l =
    (l.search.adjacency ≡ l.initial.search.adjacency) × (l.search.order ≡ l.initial.search.order) × (l.at < length (vec_items l.initial.search.order))
    × (turn_all (get_or (ways_of (vec_items l.initial.search.order)) l.at start).links (vec_items l.search.used)
    ≡ turn_all (get_or (ways_of (vec_items l.initial.search.order)) l.place start).links (vec_items l.initial.search.used))

abbrev pub decreases-loop-at : goal.decreases-loop-at
decreases-loop-at l = l.at
