use Rattle.std.proofs.Common.{◌+◌, refl, ◌∙◌, subst, arith}
use Rattle.network.specs.Values.{value}
use Rattle.network.proofs.Sound.{links-long}
use Rattle.run.specs.Playing.{Crosses}
use Rattle.run.proofs.Cross.{crosses-none, crosses-to, crosses_both}
use Rattle.run.proofs.player.Player.cross_all.Goals as goal

pub loop-k-init : goal.loop-k-init
loop-k-init c = record { crosses = crosses-none _ 0 0 c.args.self.now refl; net = refl; round = refl }

pub loop-k-preserved : goal.loop-k-preserved
loop-k-preserved c =
    let i = c.loop-k.invariant in
    let s = c.cross.ensures.same in
    record {
      crosses = crosses_both _ _ _ _ c.args.self.now c.loop-k.self c.cross.new.self i.crosses (subst (λ n. Crosses (value n.now) c.loop-k.k (c.loop-k.k + 1) c.loop-k.self c.cross.new.self) i.net c.cross.ensures.crosses);
      net = s.0 ∙ i.net;
      round = s.1 ∙ i.round;
    }

pub returns-clause-crosses : goal.returns-clause-crosses
returns-clause-crosses c = crosses-to _ _ _ _ c.args.self.now c.loop-k.self (omega (arith, links-long c.args.self.now.net.now.network)) c.loop-k.invariant.crosses
