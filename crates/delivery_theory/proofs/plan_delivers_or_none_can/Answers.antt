use Rattle.delivery_theory.proofs.Delivers.{plan-delivers}
use Rattle.delivery_theory.proofs.plan_delivers_or_none_can.Goals as goal

pub returns : goal.returns
returns c = plan-delivers
