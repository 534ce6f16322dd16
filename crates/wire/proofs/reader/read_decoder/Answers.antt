use Rattle.std.proofs.Common.{rules, ◌≡◌, ℕ, ◌+◌, ◌*◌, ◌<◌, ◌≤◌, true, false, cond, List, length, drop, sym, ap, ◌∙◌, subst, arith}
use Rattle.std.proofs.lemmas.Result.{err_from_is_err_and}
use Rattle.network.specs.Network.{Link}
use Rattle.network.specs.Values.{graph}
use Rattle.wire.specs.Plan.{Reader}
use Rattle.wire.specs.Format.{got, fault, reader_item, words_in, rows_in, all_come}
use Rattle.wire.specs.Values.{Behind, reader}
use Rattle.wire.proofs.Parsing.{item-short, item-good, item-bad}
use Rattle.wire.proofs.Reading.{memory-told, passed-on}
use Rattle.wire.proofs.reader.read_decoder.Goals as goal
use borrow.Author.Tests.{tests}

module _ (ls : List Link) (h p at : ℕ) (rest : List ℕ) where
  abbrev reader_in : Reader
  reader_in = record { links = words_in h rest; rows = rows_in h h (drop (2 * h) rest) }

  short : length rest < 2 * h + h * h → reader_item ls h p at rest ≡ fault 1 at (at + (2 * h + h * h))
  short l = item-short (2 * h + h * h) (cond (all_come ls p (words_in h rest)) 0 9) reader_in at rest l

  unfit : 2 * h + h * h ≤ length rest → all_come ls p (words_in h rest) ≡ false → reader_item ls h p at rest ≡ fault 9 at (at + (2 * h + h * h))
  unfit l e =
      let f : ◌≡◌ {A = ℕ} (cond (all_come ls p (words_in h rest)) 0 9) 9 = rw e in
      item-bad (2 * h + h * h) (cond (all_come ls p (words_in h rest)) 0 9) reader_in at rest l (λ z. omega (arith, f)) ∙ ap (λ k. fault k at (at + (2 * h + h * h))) f

  whole : 2 * h + h * h ≤ length rest → all_come ls p (words_in h rest) ≡ true → reader_item ls h p at rest ≡ got reader_in (at + (2 * h + h * h)) (drop (2 * h + h * h) rest)
  whole l e = item-good (2 * h + h * h) (cond (all_come ls p (words_in h rest)) 0 9) reader_in at rest l (rw e)

pub returns-then-rest-size : goal.returns-then-rest-size
returns-then-rest-size c =
    (_, short (graph c.args.net.now.network).links c.args.net.now.rate c.args.node c.args.rest.now.at c.args.rest.now.bytes.now c.if-rest-size.true)

pub returns-then-not-all_come : goal.returns-then-not-all_come
returns-then-not-all_come c =
    (_, unfit (graph c.args.net.now.network).links c.args.net.now.rate c.args.node c.args.rest.now.at c.args.rest.now.bytes.now c.if-rest-size.false (sym c.if-not-all_come.ensures))

pub returns-in_err-decoder : goal.returns-in_err-decoder
returns-in_err-decoder c =
    let p = err_from_is_err_and c.from_residual.result c.from_residual.ensures.1 in
    let at : ℕ = c.args.rest.now.at in
    rw (p.1, p.2)
    (memory-told _ at c.make_decoder.result _ _ _ c.in_err-decoder.ensures.cases (λ x q. cc) (λ a q. search (rules, tests))
    (subst (Behind at)
    (sym (whole (graph c.args.net.now.network).links c.args.net.now.rate c.args.node at c.args.rest.now.bytes.now c.if-rest-size.false (sym c.if-not-all_come.ensures)))
    (omega (arith, c.args.net.now.rates.0))))

pub returns : goal.returns
returns c =
    let bs : List ℕ = c.args.rest.now.bytes.now in
    let at : ℕ = c.args.rest.now.at in
    let h : ℕ = c.args.net.now.rate in
    let ls : List Link = (graph c.args.net.now.network).links in
    let d = c.in_ok-decoder.decoder in
    let is = passed-on c.make_decoder.result d _ c.in_ok-decoder.ensures.cases (λ x q. cc) in
    let read = rw is at c.make_decoder.ensures in
    let same : reader_in ls h c.args.node at bs ≡ reader d = rw (sym read.0, sym read.1) in
    whole ls h c.args.node at bs c.if-rest-size.false (sym c.if-not-all_come.ensures) ∙ rw (same, sym c.pass.ensures.at, sym c.pass.ensures.bytes)
