use Rattle.std.proofs.Common.{vec_items}
use Rattle.flow_theory.specs.Flow.{used_count}
use Rattle.flow.proofs.decomposition.+follow.Given as goal

abbrev pub decreases-follow : goal.decreases-follow
decreases-follow l = used_count (vec_items l.search.now.used)
