use Rattle.std.proofs.Common.{◌+◌, ◌<◌, ◌≤◌, [], ◌∷◌, ◌++◌, map, length, get_or, vec_items, sym, ap, ◌∙◌, subst, ap₂, arith}
use Rattle.std.proofs.lemmas.List.{map-append}
use Rattle.network.specs.Values.{graph}
use Rattle.network.proofs.Sound.{sound, links-long}
use Rattle.coding_theory.specs.Coding.{along}
use Rattle.coding.specs.Aims.{aims_of, aims_on}
use Rattle.coding.specs.State.{State, chosen_at}
use Rattle.coding.specs.declared.receiver.Receiver.{Receiver as Pending}
use Rattle.coding.proofs.Advance.{more-coefficients}
use Rattle.coding.proofs.Ended.{some_of, whole, all_there, decodes}
use Rattle.coding.proofs.whole.code.Goals as goal

pub loop-init : goal.loop-init
unfolding along
loop-init c = record {
  network = c.in_ok-coder.ensures.given.0;
  rate = c.in_ok-coder.ensures.given.1;
  aims = c.in_ok-coder.ensures.given.2;
  many = c.in_ok-coder.ensures.first;
  coefficients = ap (map vec_items) c.in_ok-coefficients.ensures.items;
}

pub loop-preserved : goal.loop-preserved
loop-preserved c =
    let z = c.args.network.now in
    let as' = aims_of c.args.aims.now in
    let k = c.loop.coder in
    let inv = c.loop.invariant in
    let given = c.in_ok-advance.ensures.given in
    record {
      network = given.0 ∙ inv.network;
      rate = given.1 ∙ inv.rate;
      aims = given.2 ∙ inv.aims;
      many = c.in_ok-advance.ensures.next ∙ ap (λ n. n + 1) inv.many;
      coefficients = ap (map vec_items) c.in_ok-push.ensures.items ∙ map-append vec_items (vec_items c.loop.coefficients) _
          ∙ ap₂ (λ q y. q ++ y ∷ []) inv.coefficients
          (c.in_ok-advance.ensures.chosen ∙ ap₂ (λ y h. chosen_at y h (aims_on (vec_items k.receivers)) (length (vec_items k.vectors))) inv.network inv.rate ∙ ap₂ (chosen_at (graph z) c.args.rate) inv.aims inv.many)
          ∙ sym (more-coefficients (graph z) (sound z) c.args.rate as' c.requires.served c.loop.counter (omega (arith, links-long z, z.links.ok.0)));
    }

pub returns : goal.returns
returns c =
    let z = c.args.network.now in
    let h = c.args.rate in
    let as' = aims_of c.args.aims.now in
    let n = c.loop.counter in
    let k = c.loop.coder in
    let inv = c.loop.invariant in
    let ps = vec_items k.receivers in
    let vs = vec_items k.vectors in
    let ln : length (graph z).links ≤ n = omega (arith, links-long z, z.links.ok.0) in
    let there = all_there (graph z) (sound z) h as' c.requires.served c.requires.away n ln in
    let st : State (graph z) h as' n vs ps =
    subst (λ m. State (graph z) h as' m vs ps) inv.many
    (subst (λ a. State (graph z) h a (length vs) vs ps) inv.aims
    (subst (λ m. State (graph z) m (aims_on ps) (length vs) vs ps) inv.rate (subst (λ y. State y k.h (aims_on ps) (length vs) vs ps) inv.network k.state))) in
    let left = c.in_ok-receivers.ensures in
    record {
      coefficients = inv.coefficients ∙ ap (λ q. q.coefficients) (whole (graph z) (sound z) h as' c.requires.served c.requires.away n ln);
      all = left.long ∙ st.all ∙ sym there;
      receivers = λ i d r li.
          let l : i < length ps = omega (arith, there, st.all) in
          let p : Pending = some_of ps i l in
          decodes (graph z) (sound z) h as' c.requires.served c.requires.away n ln i (get_or ps i p) (get_or (vec_items c.in_ok-receivers.receivers) i d) r li (st.receivers i p r (omega (arith, there))) (left.leaves i p d l);
    }
