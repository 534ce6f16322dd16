use Rattle.std.proofs.Common.{◌≡◌, map, take, vec_items}
use Rattle.network.specs.Links.{links_of}
use Rattle.coding_theory.specs.Coding.{incoming}
use Rattle.coding_steps.specs.Carriers.{carrier}
use Rattle.coding_steps.proofs.carrier.links_into.Given as goal

abbrev pub invariant-loop-k : goal.invariant-loop-k
invariant-loop-k l = map carrier (vec_items l.hands) ≡ incoming l.node 0 (take l.k (links_of l.links))
