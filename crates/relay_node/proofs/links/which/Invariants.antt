use Rattle.std.proofs.Common.{◌≡◌, Bool, take, vec_items}
use Rattle.std.specs.Fn.{FnReturnsAt}
use Rattle.relay_node.specs.Assembly.{passing}
use Rattle.relay_node.proofs.links.which.Given as goal

abbrev pub invariant-loop-i : goal.invariant-loop-i
invariant-loop-i g l = (p : _ → Bool) → ((x : _) (b : Bool) → FnReturnsAt g.F.Fn l.test x b → b ≡ p x) → vec_items l.found ≡ passing p 0 (take l.i l.all)
