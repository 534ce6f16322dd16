use Rattle.std.proofs.Common.{◌≡◌, ℕ, List, drop, get_or, ap, ◌∙◌, add-zero, ◌+◌, arith}
use Rattle.std.proofs.lemmas.List.{get_or-drop, take_rest}
use Rattle.octets.specs.Words.{word_at}
use Rattle.octets.proofs.word_at.Goals as goal

pub returns : goal.returns
unfolding word_at
returns c =
    let bs : List ℕ = c.args.bytes.now in
    let found = c.in_ok-get.ensures.lookup.0 in
    let rest : c.in_ok-get.field-0.now ≡ drop c.args.at bs = found.2 ∙ take_rest bs c.args.at in
    let high : get_or c.in_ok-get.field-0.now 0 0 ≡ get_or bs c.args.at 0 = ap (λ l. get_or l 0 0) rest ∙ get_or-drop c.args.at bs 0 0 ∙ ap (λ i. get_or bs i 0) (add-zero c.args.at) in
    let low : get_or c.in_ok-get.field-0.now 1 0 ≡ get_or bs (c.args.at + 1) 0 = ap (λ l. get_or l 1 0) rest ∙ get_or-drop c.args.at bs 1 0 in
    (omega (arith, found.3), c.word.ensures ∙ rw (high, low))
