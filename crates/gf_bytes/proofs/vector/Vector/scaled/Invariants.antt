use Rattle.std.proofs.Common.{get_or}
use Rattle.gf_bytes.specs.Byte.{times}
use Rattle.gf_bytes.proofs.Done.{Done}
use Rattle.gf_bytes.proofs.vector.Vector.scaled.Given as goal

abbrev pub invariant-loop-byte : goal.invariant-loop-byte
invariant-loop-byte l = Done (λ k. times l.factor (get_or l.self.bytes k 0)) l.byte-index l.self.bytes l.byte-items
