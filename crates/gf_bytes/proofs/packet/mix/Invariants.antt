use Rattle.std.proofs.Common.{◌≡◌, ℕ, ◌<◌, length, get_or}
use Rattle.gf.specs.Sum.{sum}
use Rattle.gf_bytes.specs.Packet.{multiple_at}
use Rattle.gf_bytes.proofs.packet.mix.Given as goal

-- each byte has the sum of the multiples so far
abbrev pub invariant-loop-factor : goal.invariant-loop-factor
invariant-loop-factor l =
    ((k : ℕ) → k < 1024 → get_or l.out k 0 ≡ sum (length l.yielded) (multiple_at l.factors l.packets k))
    × (length l.out ≡ 1024)
