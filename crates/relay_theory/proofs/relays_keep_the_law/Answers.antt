use Rattle.relay_theory.proofs.Law.{lawful}
use Rattle.relay_theory.proofs.relays_keep_the_law.Goals as goal

pub returns : goal.returns
returns c = record { packets = lawful _; messages = lawful _ }
