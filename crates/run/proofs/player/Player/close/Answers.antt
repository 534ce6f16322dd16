use Rattle.std.proofs.Common.{refl}
use Rattle.run.proofs.Close.{closed}
use Rattle.run.proofs.player.Player.close.Goals as goal

pub returns-clause-closes : goal.returns-clause-closes
returns-clause-closes c = λ m ok cs rs s msg now w. closed m ok cs rs s msg c.args.self.now _ now w refl refl refl
