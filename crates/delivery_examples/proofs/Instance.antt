-- What is claimed of one link is checked, and the plan is computed.
use mathlib.Core.Path.{◌≡◌, refl, subst}
use Prim.Native.Nat.{ℕ, zero, suc, ◌<◌}
use native.Mathlib.Omega.{arith}
use Rattle.gf.specs.Polynomial.{horner, xtime, mul}
use Rattle.linear.specs.Vectors.{table, plus, scale, mix}
use Rattle.linear.specs.Lowest.{lowest}
use Rattle.linear.specs.Dual.{renew}
use Rattle.linear.specs.Choice.{serves_all}
use Rattle.network.specs.Network.{link_at, Sound, Accepted}
use Rattle.network_cuts.specs.Scheme.{into}
use Rattle.wire.specs.Plan.{served, feeding, Fits}
use Rattle.flow_theory.specs.Flow.{listed, flagged, is_reached, links_to, add, go_on, search, turn_all, follow, parted, augment}
use Rattle.coding_theory.specs.Paths.{is_on}
use Rattle.coding_theory.specs.Coding.{incoming, place, wants, next, choose, passed, chosen, one_more, along}
use Rattle.planner_theory.specs.Plan.{route, plan_of}
use Rattle.planner_theory.specs.Promise.{Serves, Main}
use Rattle.planner_theory.proofs.Main.{main-promise}
use Rattle.delivery_theory.proofs.Delivers.{fit-names, delivered}
use Rattle.delivery_examples.specs.Instance.{one_link, coefficients, readers, Met}

only : (P : ℕ → Type 0) → P 0 → (k : ℕ) → k < 1 → P k
only P a zero l = a
only P a (suc k) l = absurd (omega arith)

order : (j : ℕ) → j < 1 → (k : ℕ) → k < 1 → (link_at one_link.network.links j).to ≡ (link_at one_link.network.links k).from → j < k
order = only _ (only _ (λ e. omega arith))

sound : Sound one_link.network
sound =
    record {
      some = omega arith;
      within = only _ (omega arith, omega arith);
      apart = only _ ((λ e. omega arith), (λ e. omega arith));
      order = λ j k l. order j l.0 k l.1;
    }

accepted : Accepted one_link
accepted =
    record {
      limits = (omega arith, omega arith, omega arith);
      sound = sound;
      fed = only _ (λ o. absurd (o refl));
      rates = (omega arith, omega arith, omega arith, omega arith);
      placed = only _ (omega arith, omega arith);
      rising = λ i j h l. absurd (omega arith);
    }

planned : plan_of one_link ≡ served coefficients readers
unfolding route listed flagged is_reached links_to add go_on search turn_all follow parted augment is_on mul horner xtime into table plus lowest incoming place wants scale mix serves_all next choose renew passed chosen one_more along
planned = refl

serves : Serves one_link coefficients readers
serves = subst (Main one_link) planned (main-promise one_link accepted)

fits : Fits one_link (served coefficients readers)
unfolding feeding
fits = (refl, (record { many = refl; lead = ((omega arith, refl), tt); square = refl; long = (refl, tt) }, tt))

pub met : Met
met =
    record {
      accepted = accepted;
      planned = planned;
      serves = serves;
      fits = fits;
      named = fit-names one_link coefficients readers fits;
      delivers = delivered one_link accepted coefficients readers serves (fit-names one_link coefficients readers fits);
    }
