use Rattle.std.proofs.Common.{cond, [], ◌∷◌, ◌++◌, vec_items, sym, refl, ap, ◌∙◌, append-nil}
use Rattle.relay_node.proofs.Assembly.{passing-none, passes-more}
use Rattle.relay_node.proofs.links.which.Goals as goal
use Rattle.relay_node.proofs.links.which.Goals.{then-test+in_ok-push, else-test}

pub loop-i-init : goal.loop-i-init
loop-i-init g c = λ p h. c.new-found.ensures.items ∙ sym (passing-none p 0)

pub loop-i-preserved : goal.loop-i-preserved
loop-i-preserved g c =
    λ p h.
    let l = c.loop-i in
    let old = vec_items l.found in
    passes-more p c.args.all.now l.i c.index-all-i.result c.test.result old _ c.loop-i-test.true c.index-all-i.is (h _ _ (record { shown = _; shows = refl; says = record { met = c.test.ensures } })) (l.invariant p h)
    (elim c.if-test.branch [
      | then-test+in_ok-push w ↦ ap vec_items w.found-is ∙ w.in_ok-push.ensures.items ∙ sym (ap (λ b. old ++ cond b (l.i ∷ []) []) w.if-test.true)
      | else-test w ↦ ap vec_items w.found-is ∙ sym (append-nil old) ∙ sym (ap (λ b. old ++ cond b (l.i ∷ []) []) w.if-test.false)
    ])
