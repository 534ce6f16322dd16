use Rattle.std.proofs.Common.{arith}
use Rattle.relay_memory.proofs.Steps.{next-state, next-counted}
use Rattle.relay_memory.proofs.slots.Slots.next.Goals as goal

pub invariant_of-self : goal.invariant_of-self
invariant_of-self c =
    let s = c.args.self.now in
    record { rising = s.rising; few = s.few; narrow = s.narrow; tagged = s.tagged; level = s.level; recent = (λ j r e. omega (arith, s.recent j r e)); bounded = s.bounded; counted = next-counted s c.requires }

pub returns-clause-state : goal.returns-clause-state
returns-clause-state c = next-state c.args.self.now
