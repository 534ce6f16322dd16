use Rattle.std.proofs.Common.{◌≡◌, suc, ◌+◌, ◌-◌, ◌*◌, ◌/◌, ◌%◌, ◌^◌, sym, ap, ◌∙◌, ap₂, div-one, arith, lit<}
use lib.Bits.{bit_xor, and_mask}
use Rattle.std.proofs.lemmas.Nat.{shr-shr}
use Rattle.gf.proofs.Polynomials.{degree-byte}
use Rattle.gf.proofs.Ring.{mul-horner}
use Rattle.gf.proofs.Xor.{bit-lt, low-lt}
use Rattle.gf_bytes.proofs.Steps.{pending, turn, no_bits}
use Rattle.gf_bytes.proofs.byte.mul.Goals as goal

pub overflow_mul-sum : goal.overflow_mul-sum
overflow_mul-sum c =
    let bits = c.args.b / 2 ^ c.loop-i.i in
    record { fits = rw (and_mask bits 1) (bit-lt (bits % 2) c.loop-i.power 256 (low-lt bits) (lit< tt) c.loop-i.invariant.1) }

pub loop-i-init : goal.loop-i-init
loop-i-init c = (
  ap (pending 8 0x11b 8 0 c.args.a) (div-one c.args.b)
      ∙ sym (mul-horner 8 0x11b degree-byte c.args.a c.args.b (omega arith) (omega arith)),
  omega arith,
)

pub loop-i-preserved : goal.loop-i-preserved
loop-i-preserved c =
    let s = c.loop-i in
    let k = 8 - (s.i + 1) in
    let bits = c.args.b / 2 ^ s.i in
    let size : 8 - s.i ≡ suc k = omega arith in (
      ap (λ n. pending 8 0x11b k (bit_xor s.sum (n * s.power)) c.double-power.result (c.args.b / 2 ^ (s.i + 1))) (and_mask bits 1)
          ∙ ap₂ (pending 8 0x11b k (bit_xor s.sum (bits % 2 * s.power))) c.double-power.ensures.shift (sym (shr-shr c.args.b s.i 1))
          ∙ sym (turn 8 0x11b k s.sum s.power bits)
          ∙ ap (λ n. pending 8 0x11b n s.sum s.power bits) (sym size)
          ∙ s.invariant.0,
      omega arith,
    )

pub returns : goal.returns
returns c =
    let s = c.loop-i in
    let bits = c.args.b / 2 ^ s.i in
    let done : 0 ≡ 8 - s.i = omega arith in
    sym (no_bits 8 0x11b s.sum s.power bits) ∙ ap (λ n. pending 8 0x11b n s.sum s.power bits) done ∙ s.invariant.0
