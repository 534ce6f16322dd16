use Rattle.std.proofs.Common.{◌≡◌, map, length, vec_items}
use Rattle.network.specs.Values.{graph}
use Rattle.coding.specs.Aims.{aims_of, aims_on}
use Rattle.coding.specs.State.{up_to}
use Rattle.coding.proofs.whole.code.Given as goal

abbrev pub invariant-loop : goal.invariant-loop
invariant-loop l = record {
  network : graph l.coder.network.now ≡ graph l.network;
  rate : l.coder.h ≡ l.rate;
  aims : aims_on (vec_items l.coder.receivers) ≡ aims_of l.aims;
  many : length (vec_items l.coder.vectors) ≡ l.counter;
  coefficients : map vec_items (vec_items l.coefficients) ≡ (up_to (graph l.network) l.rate (aims_of l.aims) l.counter).coefficients;
}
