use Rattle.std.proofs.Common.{◌≡◌, vec_items, vec_len}
use Rattle.network.specs.Values.{graph}
use Rattle.flow_theory.specs.Flow.{over}
use Rattle.flow_search.specs.Queue.{ways_of}
use Rattle.flow_search.proofs.Queued.{Kept}
use Rattle.flow_search.proofs.search.Search.go_over.Given as goal

abbrev pub invariant-loop-link : goal.invariant-loop-link
invariant-loop-link l =
    (l.self.adjacency ≡ l.initial.self.adjacency) × (l.self.used ≡ l.initial.self.used)
    × Kept (vec_len l.initial.self.used) (over (graph l.initial.self.adjacency.now.network.now).links (vec_items l.initial.self.used)) (vec_items l.initial.self.used) l.back l.row l.place (ways_of (vec_items l.initial.self.order)) l.link-index (vec_items l.self.order) l.self.marks
