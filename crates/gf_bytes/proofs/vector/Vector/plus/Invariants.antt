use lib.Bits.{bit_xor}
use Rattle.std.proofs.Common.{get_or}
use Rattle.gf_bytes.proofs.Done.{Done}
use Rattle.gf_bytes.proofs.vector.Vector.plus.Given as goal

abbrev pub invariant-loop-i : goal.invariant-loop-i
invariant-loop-i l = Done (λ k. bit_xor (get_or l.self.bytes k 0) (get_or l.fn.other.bytes k 0)) l.i l.self.bytes l.bytes
