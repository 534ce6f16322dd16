use Rattle.std.proofs.Common.{◌≡◌, ℕ, ◌<◌, List, length, get_or, vec_items, sym, ap, ◌∙◌, subst, ap₂, arith, rules}
use Rattle.std.proofs.lemmas.List.{length-map}
use Rattle.gf.proofs.Fields.{byte_field}
use Rattle.network.specs.Values.{graph, value}
use Rattle.network.specs.declared.net.Multicast.{Multicast as Net}
use Rattle.network.proofs.Sound.{accepted}
use Rattle.coding_theory.specs.Paths.{Aim}
use Rattle.coding_theory.specs.Coding.{code}
use Rattle.coding.specs.Aims.{aims_of}
use Rattle.coding.specs.Served.{Served}
use Rattle.coding.specs.Meaning.{Away, Means}
use Rattle.wire.specs.Plan.{served, unserved, Fits}
use Rattle.wire.specs.Values.{plan}
use Rattle.planner_theory.specs.Plan.{routed, route, planned, plan_of}
use Rattle.planner_theory.specs.Promise.{Main}
use Rattle.planner_theory.proofs.Routes.{Route}
use Rattle.planner_theory.proofs.Fitting.{plan-fits}
use Rattle.planner_theory.proofs.Main.{main-promise}
use Rattle.planner.specs.Values.{Finds, Serving}
use Rattle.planner.proofs.Exact.{away, same-readers, same_flags}
use Rattle.planner.proofs.maker.make_plan_with_routes.Goals.{Joined-routes, in-Paths+in_ok-code-in-Paths, in-Cut}
use Rattle.planner.proofs.maker.make_plan_with_routes.Goals as goal

-- what `code` asks for, from what the search promises
module _ (m : Net) (aims : List Aim) (found : Route (graph m.network) m.rate (vec_items m.receivers) (routed aims)) where
  few : Served (graph m.network) m.rate aims
  few =
      let ok = accepted m in
      let long : length aims ≡ length (vec_items m.receivers) = sym (length-map aims (λ a. a.node)) ∙ ap length found.0 in
      record { rate = ok.rates.1; few = omega (arith, ok.rates.3); given = found.1 }

  none-at-source : Away aims
  none-at-source =
      let ok = accepted m in
      away aims (subst (λ ps. (i : ℕ) → i < length ps → 0 < get_or ps i 0) (sym found.0) (λ i l. (ok.placed i l).0))

pub code-requires-clause-away : goal.code-requires-clause-away
code-requires-clause-away c =
    let m = c.args.net.now in
    let aims = vec_items c.in-Paths.aims in
    subst (λ l. Away (aims_of l)) (sym c.deref.ensures.value) (none-at-source m (aims_of aims) (subst (λ x. Serving (value m) x) c.in-Paths.is c.in_ok-routes.ensures.serves))

exact-is : (c : Joined-routes) → plan c.match-routes.plan ≡ plan_of (value c.args.net.now)
exact-is c =
    let m = c.args.net.now in
    elim c.match-routes.branch [
      | in-Paths+in_ok-code-in-Paths w ↦
          let aims = vec_items w.in-Paths.aims in
          let e = subst (λ x. Finds x (route (graph m.network) m.rate (vec_items m.receivers))) w.in-Paths.is c.in_ok-routes.ensures.exact in
          let coded = w.in_ok-code-in-Paths.field-0 in
          let means = subst (λ l. Means m.rate coded (code byte_field (graph m.network) m.rate (aims_of l))) w.deref.ensures.value w.in_ok-code-in-Paths.ensures in
          ap plan w.plan-is
          ∙ ap₂ served means.coefficients (same-readers m.rate (vec_items coded.receivers) (code byte_field (graph m.network) m.rate (aims_of aims)).receivers means.all means.receivers)
          ∙ ap (planned (graph m.network) m.rate) (sym e)
      | in-Cut w ↦
          let e = subst (λ x. Finds x (route (graph m.network) m.rate (vec_items m.receivers))) w.in-Cut.is c.in_ok-routes.ensures.exact in
          let long : length w.in-Cut.side ≡ 256 = search rules in
          ap plan w.plan-is ∙ ap (unserved w.in-Cut.receiver) (same_flags w.in-Cut.side e.0 long e.2) ∙ ap (planned (graph m.network) m.rate) (sym e.1)
    ]

pub returns-clause-exact : goal.returns-clause-exact
returns-clause-exact c = exact-is (goal.at.returns-clause-exact c).Joined-routes

pub returns-clause-promise : goal.returns-clause-promise
returns-clause-promise c =
    let m = c.args.net.now in subst (Main (value m)) (sym (exact-is (goal.at.returns-clause-promise c).Joined-routes)) (main-promise (value m) (accepted m))

pub returns-clause-fits : goal.returns-clause-fits
returns-clause-fits c =
    let m = c.args.net.now in subst (Fits (value m)) (sym (exact-is (goal.at.returns-clause-fits c).Joined-routes)) (plan-fits (value m) (accepted m))
