use Rattle.std.proofs.Common.{map, vec_items, ap, ◌∙◌, subst}
use Rattle.network.specs.Values.{graph}
use Rattle.network.proofs.Sound.{sound}
use Rattle.flow_theory.specs.Flow.{parted}
use Rattle.flow.specs.Augment.{Grown}
use Rattle.flow.specs.declared.found.Found.TheVariants.{Paths, Cut}
use Rattle.flow.proofs.Served.{serves, found-cut, found-paths}
use Rattle.flow.proofs.finder.find.Goals as goal

pub returns-in-Some : goal.returns-in-Some
returns-in-Some c =
    let z = c.args.adjacency.now.network.now in
    let h = c.args.h in
    let p = c.args.receiver in
    let used = vec_items c.in_ok-search.search.used in
    let left = vec_items c.use_paths.new.search.used in
    let o = c.in_ok-reached.field-0 in
    let grown = subst (λ a. Grown (graph a.network.now) h p used left o) c.in_ok-search.ensures.0 c.in_ok-reached.ensures.grown in
    let exact = found-cut (graph z) h p used left c.in_ok-search.ensures.1 o grown c.in-Some.reached c.in-Some.is in
    record { exact = exact; serves = serves (graph z) (sound z) h p c.requires.0 c.requires.1 (Cut c.in-Some.reached) exact }

pub returns-clause-serves : goal.returns-clause-serves
returns-clause-serves c =
    let z = c.args.adjacency.now.network.now in
    let h = c.args.h in
    let p = c.args.receiver in
    let used = vec_items c.in_ok-search.search.used in
    let left = vec_items c.use_paths.new.search.used in
    let o = c.in_ok-reached.field-0 in
    let paths = c.in_ok-part-in-None.field-0 in
    let grown = subst (λ a. Grown (graph a.network.now) h p used left o) c.in_ok-search.ensures.0 c.in_ok-reached.ensures.grown in
    let here = ap (λ a. a.now) c.in_ok-reached.ensures.same ∙ c.in_ok-search.ensures.0 in
    let parts = c.in_ok-part-in-None.ensures ∙ ap (λ a. parted (graph a.network.now).links p h left) here in
    serves (graph z) (sound z) h p c.requires.0 c.requires.1 (Paths paths) (found-paths (graph z) h p used left c.in_ok-search.ensures.1 o grown (map vec_items (vec_items paths)) c.in-None.is parts)
