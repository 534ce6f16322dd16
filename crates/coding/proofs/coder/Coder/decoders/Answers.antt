use Rattle.std.proofs.Common.{◌≡◌, ◌<◌, [], ◌∷◌, ◌++◌, length, get_or, vec_items, sym, ap, ◌∙◌, subst, inl, inr, arith, length-append}
use lib.ListN.{get_or-append}
use lib.Seq.{get_or_at}
use Rattle.std.proofs.lemmas.List.{get_or_default}
use Rattle.std.proofs.lemmas.Bool.{cases_eq}
use Rattle.coding.specs.Decoding.{Leaves}
use Rattle.coding.proofs.coder.Coder.decoders.Goals as goal

pub loop-receiver-preserved : goal.loop-receiver-preserved
loop-receiver-preserved c =
    let i = c.loop-receiver.receiver-index in
    let ps = vec_items c.args.self.now.receivers in
    let ds = vec_items c.loop-receiver.decoders in
    let ds' = vec_items c.push.new.self in
    let x = c.in_ok-decoder.field-0 in
    let item = c.receiver-item.result in
    let inv = c.loop-receiver.invariant in
    let e : ds' ≡ ds ++ x ∷ [] = c.in_ok-push.ensures.items in
    let li : i < length ps = omega (arith, ap length c.deref-receiver-items.ensures.value) in
    let is : item ≡ get_or ps i item = c.receiver-item.is ∙ ap (λ q. get_or q i item) c.deref-receiver-items.ensures.value in
    record {
      long = omega (arith, ap length e, length-append ds (x ∷ []), inv.long);
      leave = λ n p d ln.
          elim (cases_eq n i) [
            | inl q ↦
                subst (λ m. Leaves (get_or ps m p) (get_or ds' m d)) (sym q)
                (subst (λ y. Leaves y (get_or ds' i d)) (is ∙ get_or_default ps i item p li)
                (subst (Leaves item) (sym (ap (λ w. get_or w i d) e ∙ get_or_at ds x [] d i inv.long)) c.in_ok-decoder.ensures))
            | inr ne ↦
                subst (Leaves (get_or ps n p)) (sym (ap (λ w. get_or w n d) e ∙ get_or-append ds (x ∷ []) d n (omega (arith, inv.long)))) (inv.leave n p d (omega arith))
          ];
    }
