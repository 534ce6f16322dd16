use Rattle.linear.proofs.Dual.{renew-keeps}
use Rattle.linear.proofs.renewed_rows_stay_dual.Goals as goal

pub returns : goal.returns
returns c = renew-keeps
