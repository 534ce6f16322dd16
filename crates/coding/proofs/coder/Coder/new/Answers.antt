use Rattle.std.proofs.Common.{◌≡◌, ℕ, ◌<◌, List, [], length, get_or, vec_items, sym, refl, ap, ◌∙◌, subst, arith}
use lib.ListN.{length-map}
use Rattle.linear.proofs.Lists.{get_d_map}
use Rattle.network.specs.Network.{Network}
use Rattle.network.specs.Values.{graph}
use Rattle.coding_theory.specs.Paths.{Given, Aim}
use Rattle.coding_theory.specs.Coding.{start}
use Rattle.coding.specs.Aims.{aim_of, aims_of, aims_on}
use Rattle.coding.specs.Served.{Served}
use Rattle.coding.specs.State.{Stands, State}
use Rattle.coding.specs.declared.aim.Aim.{Aim as Target}
use Rattle.coding.specs.declared.receiver.Receiver.{Receiver as Pending}
use Rattle.coding.proofs.Ended.{state-start, aims-started}
use Rattle.coding.proofs.coder.Coder.new.Goals.{After-loop-aim}
use Rattle.coding.proofs.coder.Coder.new.Goals as goal

pub new-requires : goal.new-requires
new-requires c =
    let aims = c.args.aims.now in
    let i = c.loop-aim.aim-index in
    let item = c.aim-item.result in
    let l : i < length aims = c.loop-aim-test.true in
    let given : Given (graph c.args.network.now).links c.args.h (aim_of item) =
    subst (Given (graph c.args.network.now).links c.args.h) (get_d_map aim_of aims i item (aim_of item) l ∙ ap aim_of (sym c.aim-item.is))
    (c.requires.given i (aim_of item) (omega (arith, length-map aims aim_of))) in
    (c.requires.rate, sym (length-map (vec_items item.paths) vec_items) ∙ given.many)

module _ (h : ℕ) (aims : List Target) (rs : List Pending) (long : length rs ≡ length aims)
    (stand : (i : ℕ) (p : Pending) (a : Target) → i < length aims → Stands h (get_or rs i p) (start h (aim_of (get_or aims i a)))) where
  stands : (i : ℕ) (p : Pending) (a : Aim) → i < length (aims_of aims) → Stands h (get_or rs i p) (start h (get_or (aims_of aims) i a))
  stands i p a l =
      let l' : i < length aims = omega (arith, length-map aims aim_of) in
      subst (λ x. Stands h (get_or rs i p) (start h x)) (sym (get_d_map aim_of aims i p.aim.now a l')) (stand i p p.aim.now l')

  level : length rs ≡ length (aims_of aims)
  level = long ∙ sym (length-map aims aim_of)

  same : aims_on rs ≡ aims_of aims
  same = aims-started h (aims_of aims) rs level stands

  begun : (z : Network) → State z h (aims_of aims) 0 [] rs
  begun z = state-start z h (aims_of aims) rs level stands

aims-same : (c : After-loop-aim) → aims_on (vec_items c.loop-aim.receivers) ≡ aims_of c.args.aims.now
aims-same c = same c.args.h c.args.aims.now (vec_items c.loop-aim.receivers) (omega (arith, c.loop-aim.invariant.long)) (λ i p a l. c.loop-aim.invariant.stand i p a (omega arith))

pub invariant_of-result : goal.invariant_of-result
invariant_of-result c =
    let z = graph c.args.network.now in
    let h = c.args.h in
    let aims = c.args.aims.now in
    let rs = vec_items c.loop-aim.receivers in
    let e : aims_on rs ≡ aims_of aims = aims-same (goal.at.invariant_of-result c).After-loop-aim in
    record {
      served = subst (Served z h) (sym e) c.requires;
      state = subst (λ as'. State z h as' (length (vec_items c.new-2.result)) (vec_items c.new-2.result) rs) (sym e)
          (subst (λ q. State z h (aims_of aims) (length q) q rs) (sym c.new-2.ensures.items) (begun h aims rs (omega (arith, c.loop-aim.invariant.long)) (λ i p a l. c.loop-aim.invariant.stand i p a (omega arith)) z));
    }

pub returns-clause-given : goal.returns-clause-given
returns-clause-given c = (refl, refl, aims-same (goal.at.returns-clause-given c).After-loop-aim)
