use Rattle.planner_theory.proofs.Main.{main-promise}
use Rattle.planner_theory.proofs.main_promise_stands.Goals as goal

pub returns : goal.returns
returns c = main-promise
