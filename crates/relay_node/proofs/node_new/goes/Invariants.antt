use Rattle.std.proofs.Common.{◌≡◌, map, take, vec_items}
use Rattle.relay_node.specs.Assembly.{picked}
use Rattle.relay_node.proofs.node_new.goes.Given as goal

abbrev pub invariant-loop-link : goal.invariant-loop-link
invariant-loop-link l = (map (λ o. o.link) (vec_items l.outs) ≡ take l.link-index l.links) × (map (λ o. vec_items o.coefficients) (vec_items l.outs) ≡ picked (map vec_items l.coefficients) (take l.link-index l.links))
