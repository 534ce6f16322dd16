-- What the answer of `paths_or_cut` says. Defines, in this order:
--   Means     that a value of the program is what the definition finds
--   Serves    that it is h paths that share no link, or a cut of fewer than h links, behind which two messages are alike whatever the scheme
--   Refuses   when nothing is found
-- Assumes nothing.
use Rattle.std.specs.Prelude.{◌≡◌, ℕ, ◌<◌, ◌≤◌, Bool, ◌⊎◌, map, vec_items}
use Rattle.network.specs.Network.{Network}
use Rattle.network_cuts.specs.Across.{Confused}
use Rattle.network_cuts.specs.Cut.{Cut as NarrowCut}
use Rattle.flow_theory.specs.Flow as flow
use Rattle.flow_theory.specs.Promise as promise
use Rattle.flow.specs.Augment.{Marks}
use Rattle.flow.specs.declared.found.Found.{Found}
use Rattle.flow.specs.declared.found.Found.TheVariants.{Paths, Cut}
use Rattle.flow.specs.declared.found.Refusal.{Refusal}
use Rattle.flow.specs.declared.found.Refusal.TheVariants.{NoReceiver, Memory}

abbrev pub Means : Found → flow.Found → Type 0
Means (Paths v) f = f ≡ flow.paths (map vec_items (vec_items v))
Means (Cut flags) f = (side : ℕ → Bool) × (f ≡ flow.cut side) × Marks flags side

abbrev pub Serves : Network → (h p : ℕ) → Found → Type 0
Serves z h p (Paths v) = promise.Paths z h p (map vec_items (vec_items v))
Serves z h p (Cut flags) = (c : NarrowCut z h p) × Marks flags c.side × Confused z h p

-- memory is wanted only where there is a receiver
abbrev pub Refuses : Network → ℕ → Refusal → Type 0
Refuses z p NoReceiver = (p ≡ 0) ⊎ (z.nodes ≤ p)
Refuses z p Memory = (0 < p) × (p < z.nodes)
