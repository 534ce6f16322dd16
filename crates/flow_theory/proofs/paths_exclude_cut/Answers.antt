use Rattle.flow_theory.proofs.NotBoth.{not-both}
use Rattle.flow_theory.proofs.paths_exclude_cut.Goals as goal

pub returns : goal.returns
returns c = not-both
