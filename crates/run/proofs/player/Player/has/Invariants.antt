use Rattle.std.proofs.Common.{◌≡◌, ℕ, ◌-◌, ◌<◌, [], get_or}
use Rattle.std.specs.List.{flat_map}
use Rattle.relay_memory.specs.Memory.{part}
use Rattle.relay_memory.specs.Values.{over_in}
use Rattle.relay_node.specs.Values.{reading}
use Rattle.run.proofs.player.Player.has.Given as goal

-- what has been read so far is the same
abbrev pub invariant-loop-j : goal.invariant-loop-j
invariant-loop-j l = (k : ℕ) → k < l.j → get_or (reading l.node (flat_map (λ b. b) (over_in l.node.slots (l.self.round - 1)).came)) k [] ≡ part 1024 k l.fn.bytes
