use Rattle.linear.proofs.Exchange.{rows-exist}
use Rattle.linear.proofs.independent_vectors_have_rows.Goals as goal

pub returns : goal.returns
returns c = rows-exist
