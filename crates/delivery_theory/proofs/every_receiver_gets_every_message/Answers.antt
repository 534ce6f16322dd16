use Rattle.delivery_theory.proofs.Delivers.{reads-what-came, fit-names, delivered}
use Rattle.delivery_theory.proofs.every_receiver_gets_every_message.Goals as goal

pub returns : goal.returns
returns c = record { reads = reads-what-came; named = fit-names; delivered = delivered }
