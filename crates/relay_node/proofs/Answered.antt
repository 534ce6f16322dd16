-- Where packets come in, each is taken in alone.
use Rattle.std.proofs.Common.{◌≡◌, ℕ, false, List, length, Result, subst}
use Rattle.relay_theory.specs.Relay.{receive}
use Rattle.relay_memory.specs.Memory.{cut}
use Rattle.relay_memory.specs.Values.{parcel, state, Tells}
use Rattle.relay_memory.specs.declared.refusal.Refusal.{Refusal}
use Rattle.relay_memory.specs.declared.slots.Slots.{Slots}
use Rattle.relay_memory.proofs.Parts.{cut-one}
use Rattle.relay_memory.proofs.Steps.{ins}
use Rattle.relay_node.specs.Steps.{take_packet}
use Rattle.relay_node.specs.declared.node.Node.{Node}

-- where no messages come in, what comes in is one packet
pub told-packet : (d : Node) (link round : ℕ) (packet : List ℕ) → length packet ≡ 1024 → d.source ≡ false → (after : Slots) (o : Result ℕ Refusal)
    → Tells d.slots after o (receive (ins d.slots) (state d.slots) (parcel link round (cut d.slots.width packet)))
    → Tells d.slots after o (take_packet d.source (ins d.slots) (state d.slots) link round packet)
told-packet d link round packet long out after o h =
    rw out
    (subst (λ p. Tells d.slots after o (receive (ins d.slots) (state d.slots) (parcel link round p))) (cut-one d.slots.width packet (d.single out) long) h)
