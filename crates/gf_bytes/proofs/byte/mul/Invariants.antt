use Rattle.std.proofs.Common.{◌≡◌, ◌-◌, ◌/◌, ◌^◌, ◌<◌}
use Rattle.gf_bytes.specs.Byte.{times}
use Rattle.gf_bytes.proofs.Steps.{pending}
use Rattle.gf_bytes.proofs.byte.mul.Given as goal

-- the sum so far, with what the bits that are left will add
abbrev pub invariant-loop-i : goal.invariant-loop-i
invariant-loop-i l = (pending 8 0x11b (8 - l.i) l.sum l.power (l.b / 2 ^ l.i) ≡ times l.a l.b) × (l.power < 256)
