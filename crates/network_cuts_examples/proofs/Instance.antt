-- The set of the cut is the source and the relay. What is claimed of three links is checked at each, and what the receiver gets is computed.
use mathlib.Core.Path.{◌≡◌, refl}
use Prim.Native.Nat.{ℕ, zero, suc, ◌<◌}
use native.Mathlib.Nat.{mod-lt}
use native.Mathlib.Omega.{arith}
use lib.Dec.{ltb}
use Rattle.network.specs.Network.{link_at, Sound}
use Rattle.network_cuts.specs.Scheme.{into, carry}
use Rattle.network_cuts.specs.Cut.{Cut, out}
use Rattle.network_cuts.specs.Across.{Honest}
use Rattle.network_cuts.proofs.Across.{alike}
use Rattle.network_cuts_examples.specs.Instance.{net, parity, Met}

three : (P : ℕ → Type 0) → P 0 → P 1 → P 2 → (k : ℕ) → k < 3 → P k
three P a b c zero l = a
three P a b c (suc zero) l = b
three P a b c (suc (suc zero)) l = c
three P a b c (suc (suc (suc k))) l = absurd (omega arith)

order : (j : ℕ) → j < 3 → (k : ℕ) → k < 3 → (link_at net.links j).to ≡ (link_at net.links k).from → j < k
order =
    three _
    (three _ (λ e. omega arith) (λ e. omega arith) (λ e. omega arith))
    (three _ (λ e. omega arith) (λ e. omega arith) (λ e. omega arith))
    (three _ (λ e. omega arith) (λ e. omega arith) (λ e. omega arith))

sound : Sound net
sound = record {
  some = omega arith;
  within = three _ (omega arith, omega arith) (omega arith, omega arith) (omega arith, omega arith);
  apart = three _ ((λ e. omega arith), (λ e. omega arith)) ((λ e. omega arith), (λ e. omega arith)) ((λ e. omega arith), (λ e. omega arith));
  order = λ j k l. order j l.0 k l.1;
}

cut : Cut net 2 2
unfolding out
cut = record { side = λ v. ltb v 2; source = refl; receiver = refl; few = omega arith }

honest : Honest 1 2 parity
honest k bs a = record { count = refl; each = (mod-lt _ (omega arith), tt) }

pub met : Met
unfolding into carry
met = record {
  sound = sound;
  cut = cut;
  honest = honest;
  found = alike net 2 2 cut 1 2 (omega arith) (omega arith) parity honest;
  even = refl;
  odd = refl;
  odd-too = refl;
  even-too = refl;
}
