use Rattle.network_cuts.proofs.Across.{none_reads}
use Rattle.network_cuts.proofs.no_receiver_reads.Goals as goal

pub returns : goal.returns
returns c = none_reads
