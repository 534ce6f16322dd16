-- Going through the receivers: all have paths, or the first that has none has a cut.
use Rattle.std.proofs.Common.{◌≡◌, ℕ, zero, suc, ◌<◌, Bool, List, [], ◌∷◌, map, length, get_or, refl, ap, arith}
use Rattle.network.specs.Network.{Network, Sound}
use Rattle.network_cuts.specs.Cut.{Cut}
use Rattle.flow_theory.specs.Flow.{Found, paths, cut, paths_or_cut}
use Rattle.flow_theory.specs.Promise.{Paths, Stands}
use Rattle.flow_theory.proofs.Stands.{stands}
use Rattle.std.specs.List.{All}
use Rattle.std.proofs.lemmas.List.Elements.{All-nil, All-cons}
use Rattle.coding_theory.specs.Paths.{Given}
use Rattle.planner_theory.specs.Plan.{Routed, routed, stopped, before, route}
use Rattle.planner_theory.proofs.Given.{given}

-- the first receiver with a cut, and paths for those before it
pub record Stop (z : Network) (h : ℕ) (ps : List ℕ) (p : ℕ) (side : ℕ → Bool) : Type 0 where
  pub place : ℕ
  pub within : place < length ps
  pub named : get_or ps place 0 ≡ p
  pub first : (i : ℕ) → i < place → (ws : List (List ℕ)) × Paths z h (get_or ps i 0) ws
  pub behind : Cut z h p
  pub same-side : behind.side ≡ side

abbrev pub Route : Network → (h : ℕ) → List ℕ → Routed → Type 0
Route z h ps (routed aims) = (map (λ a. a.node) aims ≡ ps) × All (Given z.links h) aims
Route z h ps (stopped p side) = Stop z h ps p side

on : (z : Network) (h p : ℕ) (ps : List ℕ) (f : Found) (r : Routed) → Stands z h p f → Route z h ps r → Route z h (p ∷ ps) (before p f r)
on z h p ps (cut side) r s t =
    record { place = 0; within = omega arith; named = refl; first = λ i l. absurd (omega arith); behind = s.0; same-side = s.1 }
on z h p ps (paths ws) (routed aims) s t = (ap (λ l. p ∷ l) t.0, All-cons (Given z.links h) (record { node = p; paths = ws }) aims (given z h p ws s) t.1)
on z h p ps (paths ws) (stopped q side) s t =
    record {
      place = suc t.place;
      within = omega (arith, t.within);
      named = t.named;
      first = earlier;
      behind = t.behind;
      same-side = t.same-side;
    }
  where
    earlier : (i : ℕ) → i < suc t.place → (vs : List (List ℕ)) × Paths z h (get_or (p ∷ ps) i 0) vs
    earlier zero l = (ws, s)
    earlier (suc i) l = t.first i (omega arith)

pub routes : (z : Network) → Sound z → (h : ℕ) (ps : List ℕ) → ((i : ℕ) → i < length ps → (0 < get_or ps i 0) × (get_or ps i 0 < z.nodes)) → Route z h ps (route z h ps)
unfolding route
routes z ok h [] places = (refl, All-nil (Given z.links h))
routes z ok h (p ∷ ps) places =
    let here = places 0 (omega arith) in
    on z h p ps (paths_or_cut z h p) (route z h ps) (stands z ok h p here.0 here.1) (routes z ok h ps (λ i l. places (suc i) (omega arith)))
