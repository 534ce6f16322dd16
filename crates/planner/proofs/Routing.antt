-- Going through the receivers from the first on: those so far have their paths, and what is found for the rest decides.
use Rattle.std.proofs.Common.{◌≡◌, ℕ, ◌+◌, ◌<◌, ◌≤◌, Bool, List, [], ◌∷◌, ◌++◌, length, get_or, drop, sym, refl, ap, ◌∙◌, append_assoc, append-nil}
use Rattle.std.proofs.lemmas.List.{drop_more, drop_all}
use Rattle.network.specs.Network.{Network}
use Rattle.flow_theory.specs.Flow.{paths, cut, paths_or_cut}
use Rattle.coding_theory.specs.Paths.{Aim}
use Rattle.planner_theory.specs.Plan.{Routed, routed, stopped, before, route}

-- the receivers of some aims, before those for which the answer is known
abbrev pub behind : List Aim → Routed → Routed
behind aims (routed as') = routed (aims ++ as')
behind aims (stopped p side) = stopped p side

behind-one : (aims : List Aim) (p : ℕ) (ws : List (List ℕ)) (r : Routed) → behind aims (before p (paths ws) r) ≡ behind (aims ++ record { node = p; paths = ws } ∷ []) r
behind-one aims p ws (routed as') = ap routed (sym (append_assoc aims (record { node = p; paths = ws } ∷ []) as'))
behind-one aims p ws (stopped q side) = refl

module _ (z : Network) (h : ℕ) (ps : List ℕ) where
  abbrev pub So-far : List Aim → ℕ → Type 0
  So-far aims i = route z h ps ≡ behind aims (route z h (drop i ps))

  pub far_none : So-far [] 0
  far_none = by (route z h ps)
    where
      by : (r : Routed) → r ≡ behind [] r
      by (routed as') = refl
      by (stopped p side) = refl

  here : (aims : List Aim) (i : ℕ) → i < length ps → So-far aims i → route z h ps ≡ behind aims (before (get_or ps i 0) (paths_or_cut z h (get_or ps i 0)) (route z h (drop (i + 1) ps)))
  unfolding route
  here aims i l s = s ∙ ap (λ l. behind aims (route z h l)) (drop_more ps i 0 l)

  pub far-more : (aims : List Aim) (i : ℕ) (ws : List (List ℕ)) → i < length ps → paths_or_cut z h (get_or ps i 0) ≡ paths ws → So-far aims i → So-far (aims ++ record { node = get_or ps i 0; paths = ws } ∷ []) (i + 1)
  far-more aims i ws l e s =
      here aims i l s ∙ ap (λ f. behind aims (before (get_or ps i 0) f (route z h (drop (i + 1) ps)))) e ∙ behind-one aims (get_or ps i 0) ws (route z h (drop (i + 1) ps))

  pub far-stop : (aims : List Aim) (i : ℕ) (side : ℕ → Bool) → i < length ps → paths_or_cut z h (get_or ps i 0) ≡ cut side → So-far aims i → route z h ps ≡ stopped (get_or ps i 0) side
  far-stop aims i side l e s = here aims i l s ∙ ap (λ f. behind aims (before (get_or ps i 0) f (route z h (drop (i + 1) ps)))) e

  pub far-all : (aims : List Aim) (i : ℕ) → length ps ≤ i → So-far aims i → route z h ps ≡ routed aims
  unfolding route
  far-all aims i l s = s ∙ ap (λ l. behind aims (route z h l)) (drop_all i ps l) ∙ ap routed (append-nil aims)
