use Rattle.std.proofs.Common.{◌≡◌, ℕ, zero, suc, ◌*◌, ◌/◌, ◌%◌, ◌<◌, sym, refl, ap, ◌∙◌, arith, lit<}
use lib.Bits.{bit_xor}
use Rattle.gf.proofs.Polynomials.{degree-byte}
use Rattle.gf.proofs.Ring.{mul-two}
use Rattle.gf_bytes.specs.Byte.{times_x}
use Rattle.gf_bytes.proofs.Steps.{xtime-cut}
use Rattle.gf_bytes.proofs.byte.double.Goals as goal

-- the lower bits of the polynomial
low : (t : ℕ) → t < 2 → t * 27 ≡ t % 2 * 283 % 256
low zero h = refl
low (suc zero) h = refl
low (suc (suc t)) h = absurd (omega arith)

shifted : (a : ℕ) → a < 256 → bit_xor (a * 2 % 256) (a / 128 * 27) ≡ times_x a
shifted a h =
    let up : a / 128 ≡ a * 2 / 256 = omega arith in
    ap (bit_xor (a * 2 % 256)) (low (a / 128) (omega arith) ∙ ap (λ t. t % 2 * 283 % 256) up) ∙ xtime-cut 8 0x11b degree-byte a h

pub returns : goal.returns
returns c =
    let a = c.args.a in
    let small : a < 256 = omega arith in
    record { shift = shifted a small; value = shifted a small ∙ sym (mul-two 8 0x11b degree-byte (lit< tt) a small) }
