use Rattle.relay_memory.proofs.Ends.{Ending}
use Rattle.relay_memory.proofs.slots.Slots.end_rounds.Given as goal

abbrev pub invariant-loop-count : goal.invariant-loop-count
invariant-loop-count l = Ending l.initial.self l.self l.count
