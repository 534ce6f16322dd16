use Rattle.std.proofs.Common.{vec_items}
use Rattle.network.specs.Values.{graph}
use Rattle.coding.specs.Aims.{aims_of}
use Rattle.planner.proofs.Routing.{So-far}
use Rattle.planner.proofs.router.find_routes.Given as goal

abbrev pub invariant-loop-node : goal.invariant-loop-node
invariant-loop-node l = So-far (graph l.net.network) l.net.rate (vec_items l.net.receivers) (aims_of (vec_items l.aims)) l.node-index
