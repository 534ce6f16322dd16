use Rattle.flow_theory.proofs.Stands.{stands}
use Rattle.flow_theory.proofs.paths_or_cut_stands.Goals as goal

pub returns : goal.returns
returns c = stands
