use Rattle.run_theory.proofs.Runs.{whereabouts, under-way, put-out}
use Rattle.run_theory.proofs.Rest.{messages-themselves}
use Rattle.run_theory.proofs.rounds_agree.Goals as goal

pub returns : goal.returns
returns c = record { whereabouts = whereabouts; way = under-way; out = put-out; messages = messages-themselves }
