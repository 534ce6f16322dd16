use Rattle.std.proofs.Common.{rules, ◌≡◌, ℕ, ◌+◌, ◌<◌, List, [], ◌∷◌, ◌++◌, map, length, get_or, drop, vec_items, vec_len, sym, ap, ◌∙◌, subst, arith}
use Rattle.std.proofs.lemmas.List.{length-map, get_or-map, map_push, get_or_default}
use Rattle.std.proofs.lemmas.Result.{err_from_is_err_and}
use Rattle.network.specs.Values.{graph, value}
use Rattle.network.specs.Links.{begin_of}
use Rattle.network.specs.declared.net.Link.{Link as Joined}
use Rattle.network.specs.declared.net.Multicast.{Multicast as Net}
use Rattle.network.proofs.Sound.{links-long, from_is}
use Rattle.wire.specs.Plan.{hand_at, hands}
use Rattle.wire.specs.Format.{each, link_item}
use Rattle.wire.specs.Values.{Behind}
use Rattle.wire.proofs.Reading.{after_all, one_more, one-refused, all_read, link-grows, memory-told, passed-on}
use Rattle.wire.proofs.Served.{link-lawful}
use Rattle.wire.proofs.reader.read_coefficients.Goals as goal
use borrow.Author.Tests.{tests}

-- what the program reads of link k, and how many packets are at hand for it
module _ (net : Net) (ls : List Joined) (k : ℕ) (e : ls ≡ vec_items net.network.links) (h : k < vec_len net.network.links) where
  inside : k < length (hands (value net))
  inside = omega (arith, links-long net.network, length-map (graph net.network).links (λ l. hand_at (value net) l.from))

  hand-is : get_or (hands (value net)) k 0 ≡ hand_at (value net) (begin_of ls k)
  hand-is =
      get_or-map (λ l. hand_at (value net) l.from) (graph net.network).links k (record { from = 0; to = 0 }) 0 (omega (arith, links-long net.network))
      ∙ ap (hand_at (value net)) (from_is net.network k ∙ sym (ap (λ l. begin_of l k) e))

  itself : (hand : ℕ) → hand ≡ hand_at (value net) (begin_of ls k) → hand ≡ get_or (hands (value net)) k hand
  itself hand q = q ∙ sym hand-is ∙ get_or_default (hands (value net)) k 0 hand inside

pub returns-in_err-row : goal.returns-in_err-row
returns-in_err-row c =
    let net = c.args.net.now in
    let left = c.loop-link.rest in
    let links = c.deref-link-items.ensures in
    let k : ℕ = c.loop-link.link-index in
    let h : k < vec_len net.network.links = omega (arith, c.loop-link-test.true, links.len) in
    let p = err_from_is_err_and c.from_residual.result c.from_residual.ensures.1 in
    rw (p.1, p.2)
    (one-refused link_item link-lawful (hands (value net)) _ (map vec_items (vec_items c.loop-link.rows)) k left.at left.bytes.now c.hand_at-hand.result (inside net _ k links.value h)
    (itself net _ k links.value h c.hand_at-hand.result c.hand_at-hand.ensures) c.loop-link.invariant _ c.in_err-row.ensures)

pub returns-in_err-map_err : goal.returns-in_err-map_err
returns-in_err-map_err c =
    let net = c.args.net.now in
    let left = c.loop-link.rest in
    let hand : ℕ = c.hand_at-hand.result in
    let links = c.deref-link-items.ensures in
    let k : ℕ = c.loop-link.link-index in
    let h : k < vec_len net.network.links = omega (arith, c.loop-link-test.true, links.len) in
    let p = err_from_is_err_and c.from_residual-in_err-map_err.result c.from_residual-in_err-map_err.ensures.1 in
    rw (p.1, p.2)
    (one-refused link_item link-lawful (hands (value net)) _ (map vec_items (vec_items c.loop-link.rows)) k left.at left.bytes.now hand (inside net _ k links.value h)
    (itself net _ k links.value h hand c.hand_at-hand.ensures) c.loop-link.invariant _
    (memory-told _ left.at c.push.result _ _ _ c.in_err-map_err.ensures.cases (λ x q. cc) (λ a q. search (rules, tests))
    (subst (Behind left.at) (sym c.in_ok-row.ensures) (link-grows hand left.at left.bytes.now _ _ _ c.in_ok-row.ensures))))

pub loop-link-preserved : goal.loop-link-preserved
loop-link-preserved c =
    let net = c.args.net.now in
    let left = c.loop-link.rest in
    let next = c.read_row.new.rest in
    let hand : ℕ = c.hand_at-hand.result in
    let links = c.deref-link-items.ensures in
    let k : ℕ = c.loop-link.link-index in
    let h : k < vec_len net.network.links = omega (arith, c.loop-link-test.true, links.len) in
    let old : List (List ℕ) = map vec_items (vec_items c.loop-link.rows) in
    let row : List ℕ = vec_items c.in_ok-row.row in
    let is = passed-on c.push.result c.in_ok-map_err.field-0 _ c.in_ok-map_err.ensures.cases (λ x q. cc) in
    let rows : map vec_items (vec_items c.push.new.self) ≡ old ++ row ∷ [] = ap (map vec_items) (rw is at c.push.ensures.items) ∙ map_push vec_items (vec_items c.loop-link.rows) c.in_ok-row.row in
    one_more link_item (hands (value net)) _ old k left.at next.at left.bytes.now next.bytes.now hand row (inside net _ k links.value h)
    (itself net _ k links.value h hand c.hand_at-hand.ensures) c.loop-link.invariant c.in_ok-row.ensures
    ∙ ap (λ l. after_all l (each link_item (drop (k + 1) (hands (value net))) next.at next.bytes.now)) (sym rows)

pub returns : goal.returns
returns c =
    let net = c.args.net.now in
    all_read link_item (hands (value net)) _ (map vec_items (vec_items c.loop-link.rows)) c.loop-link.link-index c.loop-link.rest.at c.loop-link.rest.bytes.now
    (omega (arith, c.loop-link-test.false, c.deref-link-items.ensures.len, links-long net.network, length-map (graph net.network).links (λ l. hand_at (value net) l.from))) c.loop-link.invariant
