use Rattle.std.proofs.Common.{◌<◌, replicate, sym, refl, ap, ◌∙◌, subst, arith}
use Rattle.network.specs.Values.{value}
use Rattle.network.proofs.Sound.{accepted, links-long}
use Rattle.delivery_theory.specs.Promise.{AtWork}
use Rattle.delivery_theory.proofs.Delivers.{plan-delivers}
use Rattle.run.proofs.Start.{started, fit, no-memory}
use Rattle.run.proofs.player.Player.new.Goals as goal

pub returns : goal.returns
returns c =
    let filled = c.in_ok-nodes.ensures in
    record {
      started =
          started _ (accepted c.args.fitted.now.net.now) _ filled.0 refl
          (c.in_ok-counts.ensures.items_if_clones_equal (λ y e. e) ∙ ap (λ n. replicate n 0) (c.len.ensures ∙ links-long c.args.fitted.now.net.now.network))
          _ filled.1;
      promise = λ e. subst (AtWork (value c.args.fitted.now.net.now)) (sym e) (plan-delivers (value c.args.fitted.now.net.now) (accepted c.args.fitted.now.net.now));
      net = (refl, refl);
    }

pub returns-in_err-counts-clause-started : goal.returns-in_err-counts-clause-started
returns-in_err-counts-clause-started c =
    let filled = c.in_ok-nodes.ensures in
    let some : 0 < c.args.fitted.now.net.now.network.nodes = omega (arith, (accepted c.args.fitted.now.net.now).sound.some) in
    no-memory _ _ _ (fit _ _ _ filled.1 (omega (arith, filled.0)) some) c.from_residual-in_err-counts.ensures.1
