-- What is found serves: the theorem on the definition, carried over to the program's value.
use Rattle.std.proofs.Common.{◌≡◌, ℕ, ◌<◌, Bool, false, List, length, replicate, Some, None, Option, sym, ap, ◌∙◌, subst}
use Rattle.network.specs.Network.{Network, Sound}
use Rattle.network_cuts.proofs.Across.{alike}
use Rattle.flow_theory.specs.Flow.{parted, paths, cut, augment, paths_or_cut}
use Rattle.flow_theory.specs.Promise as promise
use Rattle.flow_theory.proofs.Stands.{stands}
use Rattle.flow.specs.Augment.{Grown, Marks}
use Rattle.flow.specs.Found.{Means, Serves}
use Rattle.flow.specs.declared.found.Found.{Found}
use Rattle.flow.specs.declared.found.Found.TheVariants.{Paths, Cut}

pub serves : (z : Network) → Sound z → (h p : ℕ) → 0 < p → p < z.nodes → (f : Found) → Means f (paths_or_cut z h p) → Serves z h p f
serves z good h p a b (Paths v) e = subst (promise.Stands z h p) e (stands z good h p a b)
serves z good h p a b (Cut flags) (side, e, m) =
    let s = subst (promise.Stands z h p) e (stands z good h p a b) in
    (s.0, λ q. ap (λ f. f q) s.1 ∙ m q, alike z h p s.0)

-- the search began with no link used
module _ (z : Network) (h p : ℕ) (us us' : List Bool) (none : us ≡ replicate (length z.links) false) (o : Option (List Bool)) (g : Grown z h p us us' o) where
  pub found-cut : (flags : List Bool) → o ≡ Some flags → (side : ℕ → Bool) × (paths_or_cut z h p ≡ cut side) × Marks flags side
  found-cut flags e = let s = subst (Grown z h p us us') e g in (s.0, ap (augment z h p h) (sym none) ∙ s.1, s.2)

  pub found-paths : (ws : List (List ℕ)) → o ≡ None → ws ≡ parted z.links p h us' → paths_or_cut z h p ≡ paths ws
  found-paths ws e f = ap (augment z h p h) (sym none) ∙ subst (Grown z h p us us') e g ∙ ap paths (sym f)
