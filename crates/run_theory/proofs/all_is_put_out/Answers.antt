use Rattle.run_theory.proofs.Runs.{all-out, prompt}
use Rattle.run_theory.proofs.Rest.{may-begin}
use Rattle.run_theory.proofs.all_is_put_out.Goals as goal

pub returns : goal.returns
returns c = record { all = all-out; prompt = prompt; more = may-begin }
