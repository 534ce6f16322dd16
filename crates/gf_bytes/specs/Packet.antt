-- Sums of packets of bytes.
--   added_at      the byte at k of a packet to which a multiple of another is added
--   multiple_at   the byte at k of packet j, times its factor
--   mix_at        the byte at k of the sum of the packets, each times its factor
use Rattle.std.specs.Prelude.{ℕ, min, List, [], length, bit_xor, slice_index, slice_index_or}
use Rattle.gf.specs.Sum.{sum}
use Rattle.gf_bytes.specs.Byte.{times}

abbrev pub added_at : List ℕ → ℕ → List ℕ → ℕ → ℕ
added_at old factor packet k = bit_xor (slice_index old k) (times factor (slice_index packet k))

abbrev pub multiple_at : List ℕ → List (List ℕ) → ℕ → ℕ → ℕ
multiple_at factors packets k j = times (slice_index factors j) (slice_index (slice_index_or packets j []) k)

-- Where there are more packets than factors or more factors than packets, those left over add nothing.
abbrev pub mix_at : List ℕ → List (List ℕ) → ℕ → ℕ
mix_at factors packets k = sum (min (length factors) (length packets)) (multiple_at factors packets k)
