use Rattle.std.proofs.Common.{arith}
use lib.ListN.{get_or-replicate}
use Rattle.gf_bytes.proofs.vector.Vector.zero.Goals as goal

pub invariant_of-result : goal.invariant_of-result
invariant_of-result c = record { within = omega arith; padded = λ k past h. get_or-replicate 32 k 0 0 h }
