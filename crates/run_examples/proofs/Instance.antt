-- What is claimed of four links is checked at each, and what comes of events is computed.
use mathlib.Core.Path.{◌≡◌, refl}
use Prim.Native.Nat.{ℕ, zero, suc, ◌<◌}
use native.Mathlib.Omega.{arith}
use Rattle.network.specs.Network.{link_at, Sound}
use Rattle.network_cuts.specs.Scheme.{into, carry}
use Rattle.relay_theory.specs.Relay.{added, find, is_in, any, complete, came_in, is_over, except, ends, receive, send, sent, readings, numbers}
use Rattle.run_theory.specs.Run.{change, pick, caught_up}
use Rattle.run_theory.specs.Promise.{Supplied}
use Rattle.run_examples.specs.Instance.{diamond, Computed}

four : (P : ℕ → Type 0) → P 0 → P 1 → P 2 → P 3 → (k : ℕ) → k < 4 → P k
four P a b c d zero l = a
four P a b c d (suc zero) l = b
four P a b c d (suc (suc zero)) l = c
four P a b c d (suc (suc (suc zero))) l = d
four P a b c d (suc (suc (suc (suc k)))) l = absurd (omega arith)

order : (j : ℕ) → j < 4 → (k : ℕ) → k < 4 → (link_at diamond.links j).to ≡ (link_at diamond.links k).from → j < k
order =
    four _
    (four _ (λ e. omega arith) (λ e. omega arith) (λ e. omega arith) (λ e. omega arith))
    (four _ (λ e. omega arith) (λ e. omega arith) (λ e. omega arith) (λ e. omega arith))
    (four _ (λ e. omega arith) (λ e. omega arith) (λ e. omega arith) (λ e. omega arith))
    (four _ (λ e. omega arith) (λ e. omega arith) (λ e. omega arith) (λ e. omega arith))

sound : Sound diamond
sound = record {
  some = omega arith;
  within = four _ (omega arith, omega arith) (omega arith, omega arith) (omega arith, omega arith) (omega arith, omega arith);
  apart = four _ ((λ e. omega arith), (λ e. omega arith)) ((λ e. omega arith), (λ e. omega arith)) ((λ e. omega arith), (λ e. omega arith)) ((λ e. omega arith), (λ e. omega arith));
  order = λ j k l. order j l.0 k l.1;
}

supplied : Supplied diamond
supplied = four _ (λ o. absurd (o refl)) (λ o. absurd (o refl)) (λ o. (0, omega arith, refl)) (λ o. (1, omega arith, refl))

pub computed : Computed
unfolding into carry added find is_in any complete came_in is_over except ends receive send sent readings numbers change pick caught_up
computed = record {
  sound = sound;
  supplied = supplied;
  three-rounds = refl;
  synchronous = refl;
  fourth-waits = refl;
  foreign = refl;
  again = refl;
  past = refl;
  early = refl;
  kept = (refl, refl, refl);
}
