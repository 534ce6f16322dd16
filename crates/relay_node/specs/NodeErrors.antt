-- Why there is no node at a place: number, the number of each, 0 where nothing is wrong but memory is wanting, and text, what is printed of it, in
-- the words of the format. Assumes nothing.
use Rattle.std.specs.Prelude.{ℕ, List, codes}
use Rattle.relay_node.specs.declared.node_error.NodeError.{NodeError}
use Rattle.relay_node.specs.declared.node_error.NodeError.TheVariants.{Missing, Unfit, Memory}

abbrev pub number : NodeError → ℕ
number Missing = 2
number Unfit = 9
number Memory = 0

abbrev pub text : NodeError → List ℕ
text Missing = codes "fault 2: a place that isn't there"
text Unfit = codes "fault 9: a listener that isn't one"
text Memory = codes "not enough memory"
