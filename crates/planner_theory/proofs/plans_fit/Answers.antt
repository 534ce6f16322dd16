use Rattle.planner_theory.proofs.Fitting.{plan-fits}
use Rattle.planner_theory.proofs.plans_fit.Goals as goal

pub returns : goal.returns
returns c = plan-fits
