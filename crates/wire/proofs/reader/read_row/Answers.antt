use Rattle.std.proofs.Common.{rules, ◌≡◌, ℕ, ◌+◌, ◌-◌, ◌<◌, ◌≤◌, cond, eqb, List, length, take, drop, vec_items, sym, ap, ◌∙◌, subst, arith}
use Rattle.std.proofs.lemmas.Bool.{eq-eqb, ne_eqb}
use Rattle.std.proofs.lemmas.Result.{err_from_is_err_and}
use Rattle.octets.specs.Words.{word_at}
use Rattle.wire.specs.Format.{got, fault, link_item}
use Rattle.wire.specs.Values.{Behind}
use Rattle.wire.proofs.Parsing.{item-short, item-good, item-bad}
use Rattle.wire.proofs.Reading.{short-told, memory-told, passed-on}
use Rattle.wire.proofs.reader.read_row.Goals as goal
use borrow.Author.Tests.{tests}

-- the item by its count
short : (hand at : ℕ) (rest : List ℕ) → length rest < 2 + word_at rest 0 → link_item hand at rest ≡ fault 1 at (at + (2 + word_at rest 0))
short hand at rest h = item-short (2 + word_at rest 0) (cond (eqb (word_at rest 0) hand) 0 9) (take (word_at rest 0) (drop 2 rest)) at rest h

unfit : (hand at n : ℕ) (rest : List ℕ) → n ≡ word_at rest 0 → 2 + n ≤ length rest → (n ≡ hand → ⊥) → link_item hand at rest ≡ fault 9 at (at + (2 + n))
unfit hand at n rest e h other =
    subst (λ k. (2 + k ≤ length rest → (k ≡ hand → ⊥) → link_item hand at rest ≡ fault 9 at (at + (2 + k)))) (sym e)
    (λ l d. let f : cond (eqb (word_at rest 0) hand) 0 9 ≡ 9 = rw (ne_eqb (word_at rest 0) hand d) in
    item-bad (2 + word_at rest 0) (cond (eqb (word_at rest 0) hand) 0 9) (take (word_at rest 0) (drop 2 rest)) at rest l (λ z. omega arith) ∙ ap (λ k. fault k at (at + (2 + word_at rest 0))) f) h other

whole : (hand at n : ℕ) (rest : List ℕ) → n ≡ word_at rest 0 → 2 + n ≤ length rest → n ≡ hand → link_item hand at rest ≡ got (take n (drop 2 rest)) (at + (2 + n)) (drop (2 + n) rest)
whole hand at n rest e h is =
    subst (λ k. (2 + k ≤ length rest → k ≡ hand → link_item hand at rest ≡ got (take k (drop 2 rest)) (at + (2 + k)) (drop (2 + k) rest))) (sym e)
    (λ l d. item-good (2 + word_at rest 0) (cond (eqb (word_at rest 0) hand) 0 9) (take (word_at rest 0) (drop 2 rest)) at rest l (rw (eq-eqb (word_at rest 0) hand d))) h is

pub returns-in_err-count : goal.returns-in_err-count
returns-in_err-count c =
    let p = err_from_is_err_and c.from_residual.result c.from_residual.ensures.1 in
    let bs : List ℕ = c.args.rest.now.bytes.now in
    rw (p.1, p.2)
    (short-told _ c.args.rest.now.at c.word_at.result _ _ _ c.word_at.ensures (sym c.in_err-count.ensures.value)
    (λ few. (_, short c.args.hand c.args.rest.now.at bs (omega arith))))

pub returns-then-rest-count : goal.returns-then-rest-count
returns-then-rest-count c =
    let count = rw c.in_ok-count.ensures.ok_part at c.word_at.ensures in
    (_, short c.args.hand c.args.rest.now.at c.args.rest.now.bytes.now (omega (arith, c.if-rest-count.true, count.1)))

pub returns-then-count-hand : goal.returns-then-count-hand
returns-then-count-hand c =
    let count = rw c.in_ok-count.ensures.ok_part at c.word_at.ensures in
    (_, unfit c.args.hand c.args.rest.now.at c.in_ok-count.field-0 c.args.rest.now.bytes.now count.1 c.if-rest-count.false c.if-count-hand.true)

pub returns-in_err-row : goal.returns-in_err-row
returns-in_err-row c =
    let p = err_from_is_err_and c.from_residual-in_err-row.result c.from_residual-in_err-row.ensures.1 in
    let count = rw c.in_ok-count.ensures.ok_part at c.word_at.ensures in
    let at : ℕ = c.args.rest.now.at in
    rw (p.1, p.2)
    (memory-told _ at c.from_slice.result _ _ _ c.in_err-row.ensures.cases (λ x q. cc) (λ a q. search (rules, tests))
    (subst (Behind at) (sym (whole c.args.hand at c.in_ok-count.field-0 c.args.rest.now.bytes.now count.1 c.if-rest-count.false c.if-count-hand.false)) (omega arith)))

pub returns : goal.returns
returns c =
    let bs : List ℕ = c.args.rest.now.bytes.now in
    let at : ℕ = c.args.rest.now.at in
    let n : ℕ = c.in_ok-count.field-0 in
    let count = rw c.in_ok-count.ensures.ok_part at c.word_at.ensures in
    let is = passed-on c.from_slice.result c.in_ok-row.row _ c.in_ok-row.ensures.cases (λ x q. cc) in
    let size : 2 + n - 2 ≡ n = omega arith in
    let row : vec_items c.in_ok-row.row ≡ take n (drop 2 bs) = (rw is at c.from_slice.ensures.items) ∙ ap (λ k. take k (drop 2 bs)) size in
    whole c.args.hand at n bs count.1 c.if-rest-count.false c.if-count-hand.false ∙ rw (sym row, sym c.pass.ensures.at, sym c.pass.ensures.bytes)
