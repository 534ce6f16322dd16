use Rattle.std.proofs.Common.{◌≡◌, ◌*◌, length, vec_len}
use Rattle.play.proofs.play_all.Given as goal

-- as many messages were played as rounds are past
abbrev pub invariant-loop-round : goal.invariant-loop-round
invariant-loop-round g l =
    (l.player.net ≡ l.initial.player.net) × (l.player.round ≡ l.round)
    × (vec_len l.bytes ≡ l.initial.player.net.now.rate * 1024) × (length l.has ≡ vec_len l.initial.player.net.now.receivers)
