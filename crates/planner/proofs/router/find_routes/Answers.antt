use Rattle.std.proofs.Common.{◌≡◌, ℕ, ◌+◌, ◌<◌, List, [], ◌∷◌, ◌++◌, map, length, get_or, vec_items, sym, ap, ◌∙◌, subst, arith, rules}
use Rattle.std.proofs.lemmas.List.{map_push}
use Rattle.network.specs.Network.{Network}
use Rattle.network.specs.Values.{graph}
use Rattle.flow_theory.specs.Flow.{paths_or_cut}
use Rattle.flow.specs.Found.{Means}
use Rattle.coding.specs.Aims.{aim_of, aims_of}
use Rattle.planner_theory.specs.Plan.{stopped}
use Rattle.planner.proofs.Exact.{paths-serve, cut-serves}
use Rattle.planner.proofs.Routing.{So-far, far-more, far-stop, far-all}
use Rattle.planner.proofs.router.find_routes.Goals as goal

pub returns-in-Cut : goal.returns-in-Cut
returns-in-Cut c =
    let m = c.args.net.now in
    let ps : List ℕ = vec_items m.receivers in
    let i : ℕ = c.loop-node.node-index in
    let inside : i < length ps = omega (arith, ap length c.deref-node-items.ensures.value) in
    let node : ℕ = get_or c.deref-node-items.result.now i 0 in
    let node-is : node ≡ get_or ps i 0 = ap (λ q. get_or q i 0) c.deref-node-items.ensures.value in
    let found = subst (λ y. Means c.in_ok-paths.field-0 (paths_or_cut (graph y) m.rate node)) c.in_ok-adjacency.ensures c.in_ok-paths.ensures.exact in
    let exact = subst (λ f. Means f (paths_or_cut (graph m.network) m.rate node)) c.in-Cut.is found in
    let stop = far-stop (graph m.network) m.rate ps (aims_of (vec_items c.loop-node.aims)) i exact.0 inside (ap (paths_or_cut (graph m.network) m.rate) (sym node-is) ∙ exact.1) c.loop-node.invariant
    ∙ ap (λ p. stopped p exact.0) (sym node-is) in
    let long : length c.in-Cut.side ≡ 256 = search rules in
    record { exact = (exact.0, stop, exact.2); serves = cut-serves m node c.in-Cut.side exact.0 long stop exact.2 }

pub loop-node-preserved : goal.loop-node-preserved
loop-node-preserved c =
    let m = c.args.net.now in
    let z : Network = graph m.network in
    let ps : List ℕ = vec_items m.receivers in
    let i : ℕ = c.loop-node.node-index in
    let inside : i < length ps = omega (arith, ap length c.deref-node-items.ensures.value) in
    let node : ℕ = get_or c.deref-node-items.result.now i 0 in
    let node-is : node ≡ get_or ps i 0 = ap (λ q. get_or q i 0) c.deref-node-items.ensures.value in
    let ws : List (List ℕ) = map vec_items (vec_items c.in-Paths.paths) in
    let found = subst (λ y. Means c.in_ok-paths.field-0 (paths_or_cut (graph y) m.rate node)) c.in_ok-adjacency.ensures c.in_ok-paths.ensures.exact in
    let so_far = far-more z m.rate ps (aims_of (vec_items c.loop-node.aims)) i ws inside (ap (paths_or_cut z m.rate) (sym node-is) ∙ subst (λ f. Means f (paths_or_cut z m.rate node)) c.in-Paths.is found) c.loop-node.invariant in
    let aims : aims_of (vec_items c.push.new.self) ≡ aims_of (vec_items c.loop-node.aims) ++ record { node = get_or ps i 0; paths = ws } ∷ [] =
    ap aims_of c.in_ok-push-in-Paths.ensures.items ∙ map_push aim_of (vec_items c.loop-node.aims) _ ∙ ap (λ p. aims_of (vec_items c.loop-node.aims) ++ record { node = p; paths = ws } ∷ []) node-is in
    subst (λ as'. So-far z m.rate ps as' (i + 1)) (sym aims) so_far

pub returns : goal.returns
returns c =
    let m = c.args.net.now in
    let all = far-all (graph m.network) m.rate (vec_items m.receivers) (aims_of (vec_items c.loop-node.aims)) c.loop-node.node-index (omega (arith, ap length c.deref-node-items.ensures.value)) c.loop-node.invariant in
    record { exact = all; serves = paths-serve m (aims_of (vec_items c.loop-node.aims)) all }
