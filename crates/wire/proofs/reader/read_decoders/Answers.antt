use Rattle.std.proofs.Common.{rules, ◌≡◌, ℕ, ◌+◌, ◌<◌, List, [], ◌∷◌, ◌++◌, map, length, get_or, drop, vec_items, sym, ap, ◌∙◌, subst, arith}
use Rattle.std.proofs.lemmas.List.{map_push, get_or_default}
use Rattle.std.proofs.lemmas.Result.{err_from_is_err_and}
use Rattle.network.specs.Network.{Link}
use Rattle.network.specs.Values.{graph}
use Rattle.wire.specs.Plan.{Reader}
use Rattle.wire.specs.Format.{each, reader_item}
use Rattle.wire.specs.Values.{Behind, reader}
use Rattle.wire.proofs.Reading.{after_all, one_more, one-refused, all_read, reader-grows, memory-told, passed-on}
use Rattle.wire.proofs.Served.{reader-lawful}
use Rattle.wire.proofs.reader.read_decoders.Goals as goal
use borrow.Author.Tests.{tests}

-- what the program reads of the receivers
module _ (ps qs : List ℕ) (i : ℕ) (e : qs ≡ ps) (h : i < length qs) where
  inside : i < length ps
  inside = omega (arith, ap length e)

  itself : get_or qs i 0 ≡ get_or ps i (get_or qs i 0)
  itself = ap (λ l. get_or l i 0) e ∙ get_or_default ps i 0 (get_or qs i 0) inside

pub returns-in_err-decoder : goal.returns-in_err-decoder
returns-in_err-decoder c =
    let net = c.args.net.now in
    let left = c.loop-receiver.rest in
    let ls : List Link = (graph net.network).links in
    let ps : List ℕ = vec_items net.receivers in
    let places = c.deref-receiver-items.ensures in
    let i : ℕ = c.loop-receiver.receiver-index in
    let h = c.loop-receiver-test.true in
    let node : ℕ = get_or c.deref-receiver-items.result.now i 0 in
    let p = err_from_is_err_and c.from_residual.result c.from_residual.ensures.1 in
    rw (p.1, p.2)
    (one-refused (reader_item ls net.rate) (reader-lawful ls net.rate) ps _ (map reader (vec_items c.loop-receiver.decoders)) i left.at left.bytes.now node (inside ps _ i places.value h)
    (itself ps _ i places.value h) c.loop-receiver.invariant _ c.in_err-decoder.ensures)

pub returns-in_err-map_err : goal.returns-in_err-map_err
returns-in_err-map_err c =
    let net = c.args.net.now in
    let left = c.loop-receiver.rest in
    let ls : List Link = (graph net.network).links in
    let ps : List ℕ = vec_items net.receivers in
    let places = c.deref-receiver-items.ensures in
    let i : ℕ = c.loop-receiver.receiver-index in
    let h = c.loop-receiver-test.true in
    let node : ℕ = get_or c.deref-receiver-items.result.now i 0 in
    let p = err_from_is_err_and c.from_residual-in_err-map_err.result c.from_residual-in_err-map_err.ensures.1 in
    rw (p.1, p.2)
    (one-refused (reader_item ls net.rate) (reader-lawful ls net.rate) ps _ (map reader (vec_items c.loop-receiver.decoders)) i left.at left.bytes.now node (inside ps _ i places.value h)
    (itself ps _ i places.value h) c.loop-receiver.invariant _
    (memory-told _ left.at c.push.result _ _ _ c.in_err-map_err.ensures.cases (λ x q. cc) (λ a q. search (rules, tests))
    (subst (Behind left.at) (sym c.in_ok-decoder.ensures) (reader-grows ls net.rate node left.at left.bytes.now _ _ _ net.rates.0 c.in_ok-decoder.ensures))))

pub loop-receiver-preserved : goal.loop-receiver-preserved
loop-receiver-preserved c =
    let net = c.args.net.now in
    let left = c.loop-receiver.rest in
    let ls : List Link = (graph net.network).links in
    let ps : List ℕ = vec_items net.receivers in
    let places = c.deref-receiver-items.ensures in
    let i : ℕ = c.loop-receiver.receiver-index in
    let h = c.loop-receiver-test.true in
    let node : ℕ = get_or c.deref-receiver-items.result.now i 0 in
    let next = c.read_decoder.new.rest in
    let old : List Reader = map reader (vec_items c.loop-receiver.decoders) in
    let is = passed-on c.push.result c.in_ok-map_err.field-0 _ c.in_ok-map_err.ensures.cases (λ x q. cc) in
    let new : map reader (vec_items c.push.new.self) ≡ old ++ reader c.in_ok-decoder.decoder ∷ [] =
    ap (map reader) (rw is at c.push.ensures.items) ∙ map_push reader (vec_items c.loop-receiver.decoders) c.in_ok-decoder.decoder in
    one_more (reader_item ls net.rate) ps _ old i left.at next.at left.bytes.now next.bytes.now node (reader c.in_ok-decoder.decoder) (inside ps _ i places.value h)
    (itself ps _ i places.value h) c.loop-receiver.invariant c.in_ok-decoder.ensures
    ∙ ap (λ l. after_all l (each (reader_item ls net.rate) (drop (i + 1) ps) next.at next.bytes.now)) (sym new)

pub returns : goal.returns
returns c =
    let net = c.args.net.now in
    let ls : List Link = (graph net.network).links in
    all_read (reader_item ls net.rate) (vec_items net.receivers) _ (map reader (vec_items c.loop-receiver.decoders)) c.loop-receiver.receiver-index c.loop-receiver.rest.at c.loop-receiver.rest.bytes.now
    (omega (arith, c.loop-receiver-test.false, c.deref-receiver-items.ensures.len, net.receivers.ok.0)) c.loop-receiver.invariant
