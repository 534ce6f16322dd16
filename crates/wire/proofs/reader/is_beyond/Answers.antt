use Rattle.std.proofs.Common.{rules, ◌≡◌, ℕ, zero, suc, Bool, ◌||◌, List, [], ◌∷◌, drop, sym, refl, ap, ◌∙◌}
use Rattle.std.specs.List.{list_any}
use Rattle.std.proofs.lemmas.Iterator.{YieldsList-from_slice}
use Rattle.std.proofs.lemmas.Iterator.Adapters.{YieldsList-from_skip}
use Rattle.std.proofs.lemmas.Iterator.Search.{any_from_yields_List}
use Rattle.wire.specs.Format.{beyond}
use Rattle.wire.proofs.reader.is_beyond.Goals as goal
use borrow.Author.Tests.{tests}

-- the definition as a search
as_search : (n : ℕ) (side : List Bool) → beyond n side ≡ list_any (λ flag. flag) (drop n side)
unfolding beyond
as_search zero [] = refl
as_search (suc n) [] = refl
as_search zero (b ∷ side) = ap (λ t. b || t) (as_search zero side)
as_search (suc n) (b ∷ side) = as_search n side

pub returns : goal.returns
returns c =
    any_from_yields_List (λ flag. flag) _ _ c.any.result c.any.ensures.ran (YieldsList-from_skip c.args.nodes (YieldsList-from_slice c.args.side.now (cc)) c.skip.ensures.count)
    (λ x b q k. search (rules, tests))
    ∙ sym (as_search c.args.nodes c.args.side.now)
