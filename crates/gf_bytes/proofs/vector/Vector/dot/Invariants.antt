use Rattle.std.proofs.Common.{◌≡◌, length}
use Rattle.gf_bytes.specs.Vector.{dot_of}
use Rattle.gf_bytes.proofs.vector.Vector.dot.Given as goal

abbrev pub invariant-loop-a : goal.invariant-loop-a
invariant-loop-a l = l.total ≡ dot_of (length l.yielded) l.fn.self.bytes l.fn.other.bytes
