use Rattle.run_examples.proofs.Instance.{computed}
use Rattle.run_examples.proofs.runs_go_as_computed.Goals as goal

pub returns : goal.returns
returns c = computed
