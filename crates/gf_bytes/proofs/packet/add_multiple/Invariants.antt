use Rattle.gf_bytes.specs.Packet.{added_at}
use Rattle.gf_bytes.proofs.Done.{Done}
use Rattle.gf_bytes.proofs.packet.add_multiple.Given as goal

abbrev pub invariant-loop-i : goal.invariant-loop-i
invariant-loop-i l = Done (added_at l.initial.out l.factor l.packet) l.i l.initial.out l.out
