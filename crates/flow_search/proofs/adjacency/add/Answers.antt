use Rattle.std.proofs.Common.{◌∷◌, [], ◌++◌, map, set, vec_items, sym, ap, ◌∙◌, arith}
use Rattle.std.proofs.lemmas.List.{map-set, get_or-map}
use Rattle.flow_search.proofs.adjacency.add.Goals as goal

pub returns : goal.returns
returns c =
    let rows = vec_items c.args.lists.now in
    let q = c.args.node in
    let read = ap vec_items c.index_mut.ensures.value ∙ sym (get_or-map vec_items rows q c.index_mut.result.now [] (omega (arith, c.requires, c.args.lists.now.ok.0))) in
    map-set vec_items rows q c.push.new.self ∙ ap (set (map vec_items rows) q) (c.in_ok-push.ensures.items ∙ ap (λ xs. xs ++ c.args.link ∷ []) read)
