use Rattle.std.proofs.Common.{◌≡◌, Some, sym, ◌∙◌, rules, tests}
use Rattle.std.proofs.lemmas.Bool.{le-ltb}
use Rattle.std.proofs.lemmas.Iterator.{YieldsList-from_slice, cases_from_all}
use Rattle.relay_memory.proofs.Steps.{side, round-over, round-empty}
use Rattle.relay_memory.proofs.slots.Slots.is_over.Goals as goal

pub returns-then-links-gt0 : goal.returns-then-links-gt0
returns-then-links-gt0 c =
    let s = c.args.self.now in
    let n = c.len-links.result in
    round-over s n c.len-links.ensures c.if-links-gt0.true _
    (cases_from_all _ _ _ (λ t. t ≡ Some s.round) (λ t. t ≡ Some s.round → ⊥) c.all.ensures.ran (YieldsList-from_slice (side s n) cc) (λ x q h. search (rules, tests)) (λ x q h. search (rules, tests)))

pub returns-else-links-gt0 : goal.returns-else-links-gt0
returns-else-links-gt0 c = le-ltb 0 c.len-links.result c.if-links-gt0.false ∙ sym (round-empty c.args.self.now _ c.len-links.ensures c.if-links-gt0.false)
