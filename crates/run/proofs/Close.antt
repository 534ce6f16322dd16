-- When all links are passed, nothing is under way, and every node that links come into has ended the round.
use Rattle.std.proofs.Common.{◌≡◌, ℕ, ◌+◌, List, [], ◌∷◌, ◌++◌, length, get_or, vec_items, sym, ap, ◌∙◌, arith}
use Rattle.std.proofs.lemmas.List.{same_from_push, length_push}
use Rattle.network.specs.Network.{Multicast, Accepted}
use Rattle.network_cuts.specs.Scheme.{Packet, got}
use Rattle.wire.specs.Plan.{Reader}
use Rattle.run_theory.specs.Run.{Config}
use Rattle.play_theory.specs.Round.{Played, Rests}
use Rattle.play_theory.proofs.Round.{plays, all-ended}
use Rattle.delivery_theory.specs.Work.{working, reading}
use Rattle.run.specs.Stands.{busy, Stands, Midway}
use Rattle.delivery_theory.proofs.Delivers.{delivered}
use Rattle.run.specs.Playing.{AllOut}
use Rattle.run.specs.declared.player.Player.{Player}

module _ (m : Multicast) (ok : Accepted m) (cs : List (List ℕ)) (rs : List Reader) (c : Config) (msg : List Packet) (y y' : Player) (now : Config) (w : Midway m cs rs c msg (length m.network.links) y now)
    (nodes : y'.nodes ≡ y.nodes) (counts : y'.counts ≡ y.counts) (next : y'.round ≡ y.round + 1) where
  done : Played m.network (working cs) (reading m rs) c msg now × Rests m.network (working cs) (reading m rs) now
  done = (plays m.network ok.sound ok.fed (working cs) (reading m rs) c w.rests msg).0 now w.passed

  begun-is : now.begun ≡ c.begun ++ msg ∷ []
  begun-is = w.passed.arrived.begun

  many : length now.begun ≡ length c.begun + 1
  many = ap length begun-is ∙ length_push c.begun msg

  pub closed : Played m.network (working cs) (reading m rs) c msg now × Stands m cs rs y' now
  closed = (
    done.0,
    record {
      fitted = record {
        every = ap (λ v. length (vec_items v)) nodes ∙ w.fitted.every;
        works = λ p d h. rw nodes (w.fitted.works p d h);
        lines = ap (λ v. length (vec_items v)) counts ∙ w.fitted.lines;
      };
      rests = done.1;
      number = omega (arith, next, w.number, many);
      source = λ d. rw (nodes, next) (w.source d);
      states = λ p d o h. rw nodes (w.states p d o h);
      last = λ p d msgs msg' o h a e.
          let both = same_from_push msgs c.begun msg' msg (sym e ∙ begun-is) in
          let r : length msgs ≡ y.round = ap length both.0 ∙ sym w.number in
          let ended = all-ended m.network ok.sound ok.fed (working cs) (reading m rs) now done.1 p a in
          rw (nodes, r) (w.came p d o h (omega (arith, w.number, many, ended))) ∙ ap (got m.network (working cs) p) (sym both.1);
      counts = λ k h. ap (λ v. get_or (vec_items v) k 0) counts ∙ w.past k h h ∙ ap (busy m.network (working cs) k) (sym begun-is);
    },
  )

-- nothing is under way, so all is put out
pub all-out : (m : Multicast) → Accepted m → (y : Player) → AllOut m y
all-out m ok y cs rs c w serves named are i l = (delivered m ok cs rs serves named).all _ c w.rests.0 are w.rests.1 i l
