use Rattle.std.proofs.Common.{◌≡◌, vec_items, vec_len}
use Rattle.network.specs.Values.{graph}
use Rattle.network.proofs.Sound.{sound}
use Rattle.flow_search.proofs.Searched.{Turn}
use Rattle.flow_search.proofs.search.Search.run.Given as goal

abbrev pub invariant-loop-place : goal.invariant-loop-place
invariant-loop-place l =
    (l.self.adjacency ≡ l.initial.self.adjacency) × (l.self.used ≡ l.initial.self.used)
    × Turn (graph l.initial.self.adjacency.now.network.now) (sound l.initial.self.adjacency.now.network.now) (vec_items l.initial.self.used) (vec_len l.initial.self.used) l.place (vec_items l.self.order) l.self.marks
