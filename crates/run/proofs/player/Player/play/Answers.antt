use Rattle.std.proofs.Common.{◌+◌, length, ap, ◌∙◌, subst}
use Rattle.network.specs.Values.{value}
use Rattle.network.proofs.Sound.{accepted}
use Rattle.run.specs.Playing.{Crosses}
use Rattle.run.proofs.Close.{all-out}
use Rattle.run.proofs.player.Player.play.Goals as goal

pub returns : goal.returns
returns c =
    let net = c.args.self.now.net.now in
    let a = c.open.ensures.same in
    let b = c.cross_all.ensures.same in
    let d = c.close.ensures.same in
    record {
      plays = λ cs rs s w long.
          let t = c.open.ensures.opens (value net) (accepted net) cs rs s w long in
          let u = (subst (λ n. Crosses (value n.now) 0 (length (value n.now).network.links) c.open.new.self c.cross_all.new.self) a.0 c.cross_all.ensures.crosses) cs rs s _ t.0 t.1 in
          let v = c.close.ensures.closes (value net) (accepted net) cs rs s _ u.0 u.1 in
          (u.0, v.0, v.1);
      delivers = all-out (value net) (accepted net) c.close.new.self;
      same = (d.0 ∙ b.0 ∙ a.0, d.1 ∙ ap (λ r. r + 1) (b.1 ∙ a.1));
    }
