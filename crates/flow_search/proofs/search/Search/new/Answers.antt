use Rattle.std.proofs.Common.{false, replicate, vec_len, sym, refl, ap, ◌∙◌, subst}
use Rattle.network.proofs.Sound.{links-long}
use Rattle.flow_search.specs.Queue.{Queued}
use Rattle.flow_search.proofs.Searched.{none-queued}
use Rattle.flow_search.proofs.search.Search.new.Goals as goal

pub invariant_of-result-clause-level : goal.invariant_of-result-clause-level
invariant_of-result-clause-level c = c.in_ok-used.ensures.len ∙ c.len.ensures ∙ links-long c.args.adjacency.now.network.now

pub invariant_of-result-clause-queued : goal.invariant_of-result-clause-queued
invariant_of-result-clause-queued c = subst (λ rs. Queued (vec_len c.in_ok-used.used) rs (replicate 256 false)) (sym c.in_ok-order.ensures.items) (none-queued _)

pub returns : goal.returns
returns c = (refl, c.in_ok-used.ensures.items_if_clones_equal (λ y e. e) ∙ ap (λ n. replicate n false) (c.len.ensures ∙ links-long c.args.adjacency.now.network.now))
