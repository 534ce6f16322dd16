use Rattle.std.proofs.Common.{◌≡◌}
use Rattle.network.specs.Values.{value}
use Rattle.run.specs.Playing.{Crosses}
use Rattle.run.proofs.player.Player.cross_all.Given as goal

abbrev pub invariant-loop-k : goal.invariant-loop-k
invariant-loop-k l = record {
  crosses : Crosses (value l.initial.self.net.now) 0 l.k l.initial.self l.self;
  net : l.self.net ≡ l.initial.self.net;
  round : l.self.round ≡ l.initial.self.round;
}
