use Rattle.std.proofs.Common.{ap, ◌∙◌, arith}
use Rattle.gf.proofs.Xor.{additive-zero}
use Rattle.gf.proofs.Ring.{mul-sum}
use Rattle.gf.proofs.Polynomials.{degree-byte}
use Rattle.gf_bytes.specs.Byte.{times}
use Rattle.gf_bytes.proofs.vector.Vector.scaled.Goals as goal

pub invariant_of-result : goal.invariant_of-result
invariant_of-result c =
    let f = c.args.factor in record {
      within = omega arith;
      padded = λ k past h. c.loop-byte.invariant.front k (omega arith) ∙ ap (times f) (c.args.self.padded k past h) ∙ additive-zero (times f) (mul-sum 8 0x11b degree-byte f);
    }
