use Rattle.std.proofs.Common.{map, vec_items}
use Rattle.network.specs.Network.{link_at}
use Rattle.network.specs.Values.{graph}
use Rattle.flow_search.specs.Rows.{Lists}
use Rattle.flow_search.proofs.adjacency.Adjacency.of.Given as goal

abbrev pub invariant-loop-k : goal.invariant-loop-k
invariant-loop-k l =
    Lists (λ k. (link_at (graph l.network).links k).from) l.network.nodes l.k (map vec_items (vec_items l.out))
    × Lists (λ k. (link_at (graph l.network).links k).to) l.network.nodes l.k (map vec_items (vec_items l.into))
