use Rattle.std.proofs.Common.{◌≡◌, ℕ, ◌<◌, [], ◌∷◌, ◌++◌, length, get_or, vec_items, sym, refl, ap, ◌∙◌, subst, arith, length-append}
use lib.ListN.{length-map}
use Rattle.std.specs.Vec.{with_items}
use Rattle.std.proofs.lemmas.List.{with_items_is}
use Rattle.network.specs.Values.{graph}
use Rattle.network.proofs.Sound.{sound}
use Rattle.coding.specs.Aims.{aim_of, aims_on}
use Rattle.coding.specs.Served.{Served}
use Rattle.coding.specs.Passing.{Ready, Passed}
use Rattle.coding.specs.State.{State}
use Rattle.coding.specs.declared.receiver.Receiver.{Receiver}
use Rattle.coding.proofs.Advance.{all-ready, state-more, aims-kept}
use Rattle.coding.proofs.coder.Coder.advance.Goals.{After-pass}
use Rattle.coding.proofs.coder.Coder.advance.Goals as goal

pub pass-requires : goal.pass-requires
pass-requires c =
    let s = c.args.self.now in
    let v = c.in_ok-coefficients.vector in
    let e : c.len-e.result ≡ length (vec_items s.vectors) = c.len-e.ensures ∙ s.vectors.ok.0 in
    λ i p l.
    subst (λ q. Ready c.len-e.result v (get_or q i p)) (sym c.deref_mut.ensures.value)
    (subst (λ n. Ready n v (get_or (vec_items s.receivers) i p)) (sym e)
    (all-ready (graph s.network.now) (sound s.network.now) s.h (aims_on (vec_items s.receivers)) s.served (length (vec_items s.vectors)) c.requires (vec_items s.vectors) (vec_items s.receivers) s.state
    v c.in_ok-coefficients.ensures.1 i p (omega (arith, ap length c.deref_mut.ensures.value, length-map (vec_items s.receivers) (λ p. aim_of p.aim.now)))))

new-receivers : (c : After-pass) → (with_items c.args.self.now.receivers c.pass.new.receivers).items ≡ c.pass.new.receivers
new-receivers c = with_items_is c.args.self.now.receivers c.pass.new.receivers (omega (arith, c.pass.auto.receivers, c.deref_mut.ensures.len))

long : (c : After-pass) → length c.pass.new.receivers ≡ length (vec_items c.args.self.now.receivers)
long c = c.pass.auto.receivers ∙ ap length c.deref_mut.ensures.value

passed : (c : After-pass) (i : ℕ) (p : Receiver) → i < length (vec_items c.args.self.now.receivers)
    → Passed (length (vec_items c.args.self.now.vectors)) c.in_ok-coefficients.vector.bytes (get_or (vec_items c.args.self.now.receivers) i p) (get_or c.pass.new.receivers i p)
passed c i p l =
    let s = c.args.self.now in
    let v = c.in_ok-coefficients.vector in
    subst (λ n. Passed n v.bytes (get_or (vec_items s.receivers) i p) (get_or c.pass.new.receivers i p)) (c.len-e.ensures ∙ s.vectors.ok.0)
    (subst (λ q. Passed c.len-e.result v.bytes (get_or q i p) (get_or c.pass.new.receivers i p)) c.deref_mut.ensures.value (c.pass.ensures i p (omega (arith, ap length c.deref_mut.ensures.value))))

kept : (c : After-pass) → aims_on c.pass.new.receivers ≡ aims_on (vec_items c.args.self.now.receivers)
kept c = aims-kept (length (vec_items c.args.self.now.vectors)) c.in_ok-coefficients.vector.bytes (vec_items c.args.self.now.receivers) c.pass.new.receivers (long c) (passed c)

pub invariant_of-self-2 : goal.invariant_of-self-2
invariant_of-self-2 c =
    let s = c.args.self.now in
    let z = s.network.now in
    let f = (goal.at.invariant_of-self-2 c).After-pass in
    let v = c.in_ok-coefficients.vector in
    let vs = vec_items s.vectors in
    let ps = vec_items s.receivers in
    let ps' = c.pass.new.receivers in
    let more = state-more (graph z) (sound z) s.h (aims_on ps) s.served (length vs) c.requires vs ps s.state v c.in_ok-coefficients.ensures.1 ps' (long f)
    (λ i p l. passed f i p (omega (arith, length-map ps (λ p. aim_of p.aim.now)))) in
    record {
      served = subst (λ q. Served (graph z) s.h (aims_on q)) (sym (new-receivers f)) (subst (Served (graph z) s.h) (sym (kept f)) s.served);
      state = subst (λ q. State (graph z) s.h (aims_on q) (length (vec_items c.push.new.self)) (vec_items c.push.new.self) q) (sym (new-receivers f))
          (subst (λ as'. State (graph z) s.h as' (length (vec_items c.push.new.self)) (vec_items c.push.new.self) ps') (sym (kept f))
          (subst (λ w. State (graph z) s.h (aims_on ps) (length w) w ps') (sym c.in_ok-push.ensures.items)
          (subst (λ n. State (graph z) s.h (aims_on ps) n (vs ++ v ∷ []) ps') (sym (length-append vs (v ∷ []))) more)));
    }

pub returns-clause-given : goal.returns-clause-given
returns-clause-given c =
    let f = (goal.at.returns-clause-given c).After-pass in (refl, refl, ap aims_on (new-receivers f) ∙ kept f)
