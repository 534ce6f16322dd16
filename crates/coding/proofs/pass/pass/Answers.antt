use Rattle.std.proofs.Common.{◌≡◌, ◌<◌, length, get_or, set, sym, refl, ◌∙◌, subst, inl, inr, arith, length-set, get_or-set_other, get_or-set_same}
use Rattle.std.proofs.lemmas.List.{get_or_default}
use Rattle.std.proofs.lemmas.Bool.{cases_eq}
use Rattle.coding.specs.Passing.{Ready, Passed}
use Rattle.coding.specs.declared.receiver.Receiver.{Receiver}
use Rattle.coding.proofs.pass.pass.Goals as goal

pub loop-receiver-init : goal.loop-receiver-init
loop-receiver-init c = record { long = refl; passed = λ i p l. absurd (omega arith); rest = λ i p l. refl }

pub pass-requires : goal.pass-requires
pass-requires c =
    let i = c.loop-receiver.receiver-index in
    subst (Ready c.args.e c.args.v) (sym (c.loop-receiver.invariant.rest i c.receiver-item.result (omega arith))) (c.requires i c.receiver-item.result (omega (arith, c.loop-receiver.invariant.long)))

pub loop-receiver-preserved : goal.loop-receiver-preserved
loop-receiver-preserved c =
    let ps = c.loop-receiver.receiver-items in
    let old = c.args.receivers.now in
    let i = c.loop-receiver.receiver-index in
    let x = c.pass.new.self in
    let inv = c.loop-receiver.invariant in
    let here : i < length ps = omega (arith, inv.long) in
    let item : Receiver = c.receiver-item.result in
    let was : (p : Receiver) → get_or ps i item ≡ get_or old i p = λ p. inv.rest i item (omega arith) ∙ get_or_default old i item p (omega (arith, inv.long)) in
    record {
      long = length-set ps i x ∙ inv.long;
      passed = λ n p l.
          elim (cases_eq n i) [
            | inl q ↦
                subst (λ m. Passed c.args.e c.args.v.bytes (get_or old m p) (get_or (set ps i x) m p)) (sym q)
                (subst (λ y. Passed c.args.e c.args.v.bytes y (get_or (set ps i x) i p)) (was p)
                (subst (Passed c.args.e c.args.v.bytes (get_or ps i item)) (sym (get_or-set_same ps i x p here)) c.pass.ensures))
            | inr ne ↦ subst (Passed c.args.e c.args.v.bytes (get_or old n p)) (sym (get_or-set_other ps i n x p ne)) (inv.passed n p (omega arith))
          ];
      rest = λ n p l. get_or-set_other ps i n x p (λ q. omega arith) ∙ inv.rest n p (omega arith);
    }

pub returns : goal.returns
returns c = λ i p l. c.loop-receiver.invariant.passed i p (omega (arith, c.loop-receiver.invariant.long))
