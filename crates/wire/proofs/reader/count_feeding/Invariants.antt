use Rattle.std.proofs.Common.{◌≡◌, ℕ, ◌<◌, length, get_or, take}
use Rattle.network.specs.Values.{graph}
use Rattle.wire.specs.Plan.{feeding}
use Rattle.wire.proofs.reader.count_feeding.Given as goal

abbrev pub invariant-loop-link : goal.invariant-loop-link
invariant-loop-link l = (length l.counts ≡ 256) × ((p : ℕ) → p < 256 → get_or l.counts p 0 ≡ feeding p (take l.link-index (graph l.network).links))
