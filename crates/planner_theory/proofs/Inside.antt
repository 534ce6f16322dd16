-- A cut that the search finds has only nodes of the network in it: each was reached from the source over links.
use Rattle.std.proofs.Common.{◌≡◌, ℕ, zero, suc, ◌<◌, Bool, true, false, List, [], ◌∷◌, length, replicate, subst, inl, inr, arith}
use Rattle.std.proofs.lemmas.Bool.{cond_both}
use Rattle.network.specs.Network.{Network, Sound}
use Rattle.flow_theory.specs.Flow.{Way, is_reached, links_to, reached, turn_all, Found, paths, cut, augment, paths_or_cut}
use Rattle.flow_theory.specs.Order.{Walk}
use Rattle.flow_theory.proofs.Stands.{first_found}
use Rattle.planner_theory.specs.Plan.{Routed, routed, stopped, before, route}

module _ (z : Network) (ok : Sound z) where
  walk_ends : (us : List Bool) (ks : List ℕ) (q : ℕ) → Walk z.links us ks q → q < z.nodes
  walk_ends us [] q e = omega (arith, ok.some)
  walk_ends us (k ∷ ks) q (p, (h, inl (_, _, e)), w) = subst (λ x. x < z.nodes) e (ok.within k h).1
  walk_ends us (k ∷ ks) q (p, (h, inr (_, _, e)), w) = subst (λ x. x < z.nodes) e (ok.within k h).0

  abbrev Inside : (ℕ → Bool) → Type 0
  Inside side = (q : ℕ) → side q ≡ true → q < z.nodes

  abbrev Found-inside : Found → Type 0
  Found-inside (paths ws) = Unit {0}
  Found-inside (cut side) = Inside side

  augment-inside : (h p m : ℕ) (us : List Bool) → Found-inside (augment z h p m us)
  unfolding augment
  augment-inside h p zero us = tt
  augment-inside h p (suc m) us =
      let ws : List Way = reached z us in
      cond_both (is_reached p ws) (augment z h p m (turn_all (links_to p ws) us)) (cut (λ q. is_reached q ws)) Found-inside
      (λ _. augment-inside h p m (turn_all (links_to p ws) us)) (λ _ q e. walk_ends us (links_to q ws) q ((first_found z ok us).walks q e).0.walk)

  abbrev pub Route-inside : Routed → Type 0
  Route-inside (routed aims) = Unit {0}
  Route-inside (stopped p side) = Inside side

  on : (p : ℕ) (f : Found) (r : Routed) → Found-inside f → Route-inside r → Route-inside (before p f r)
  on p (cut side) r i j = i
  on p (paths ws) (routed aims) i j = tt
  on p (paths ws) (stopped q side) i j = j

  pub route-inside : (h : ℕ) (ps : List ℕ) → Route-inside (route z h ps)
  unfolding route
  route-inside h [] = tt
  route-inside h (p ∷ ps) = on p (paths_or_cut z h p) (route z h ps) (augment-inside h p h (replicate (length z.links) false)) (route-inside h ps)
