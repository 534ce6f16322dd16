use Rattle.std.proofs.Common.{rules, ◌≡◌, ℕ, ◌*◌, ◌&&◌, eqb, ltb, List, [], ◌∷◌, map, length, sym, refl, ap, ◌∙◌, arith}
use Rattle.std.specs.List.{list_all}
use Rattle.std.proofs.lemmas.Iterator.{YieldsList-from_range}
use Rattle.std.proofs.lemmas.Iterator.Search.{all_from_yields_List}
use Rattle.octets.specs.Words.{word_at}
use Rattle.network.specs.Network.{Link, link_at}
use Rattle.network.specs.Values.{graph}
use Rattle.wire.specs.Format.{all_come}
use Rattle.wire.proofs.reader.all_come.Goals as goal
use borrow.Author.Tests.{tests}

-- the definition as a search
as_search : (ls : List Link) (p : ℕ) (f : ℕ → ℕ) (js : List ℕ) → all_come ls p (map f js) ≡ list_all (λ j. ltb (f j) (length ls) && eqb (link_at ls (f j)).to p) js
unfolding all_come
as_search ls p f [] = refl
as_search ls p f (j ∷ js) = ap (λ t. (ltb (f j) (length ls) && eqb (link_at ls (f j)).to p) && t) (as_search ls p f js)

pub returns : goal.returns
returns c =
    let ls : List Link = (graph c.args.network.now).links in
    let f : ℕ → ℕ = λ j. word_at c.args.words.now (2 * j) in
    all_from_yields_List (λ j. ltb (f j) (length ls) && eqb (link_at ls (f j)).to c.args.node) _ _ c.all.result c.all.ensures.ran (YieldsList-from_range 0 c.args.count c.args.count refl (omega arith))
    (λ x b q k. search (rules, tests))
    ∙ sym (as_search ls c.args.node f _)
