use Rattle.std.proofs.Common.{rules, ℕ, ◌-◌, Bool, false, not, ◌&&◌, get_or, ◌∙◌, sym, refl}
use Rattle.std.proofs.lemmas.Iterator.{YieldsList-from_range}
use Rattle.std.proofs.lemmas.Iterator.Search.{any_from_yields_List}
use Rattle.network.proofs.Items.{unfed_any}
use Rattle.network.proofs.reader.some_unfed.Goals as goal
use borrow.Author.Tests.{tests}

pub returns : goal.returns
returns c =
    let left : ℕ → Bool = λ p. get_or c.args.left.now p false in
    let entered : ℕ → Bool = λ p. get_or c.args.entered.now p false in
    any_from_yields_List (λ p. left p && not (entered p)) _ _ c.any.result c.any.ensures.ran (YieldsList-from_range 1 c.args.nodes (c.args.nodes - 1) refl refl)
    (λ x b q k. search (rules, tests))
    ∙ sym (unfed_any left entered c.args.nodes c.requires.0)
