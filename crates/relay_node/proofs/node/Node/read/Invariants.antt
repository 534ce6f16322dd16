use Rattle.std.proofs.Common.{◌≡◌, ℕ, ◌<◌, length, get_or, vec_items}
use Rattle.gf.specs.Sum.{sum}
use Rattle.gf_bytes.specs.Packet.{multiple_at}
use Rattle.relay_node.proofs.Mixes.{chosen}
use Rattle.relay_node.proofs.node.Node.read.Given as goal

-- each byte has the sum of the first i multiples
abbrev pub invariant-loop-i : goal.invariant-loop-i
invariant-loop-i l =
    ((k : ℕ) → k < 1024 → get_or l.sum k 0 ≡ sum l.i (multiple_at (vec_items l.row) (chosen (vec_items l.self.current) l.came) k))
    × (length l.sum ≡ 1024)
