use Rattle.std.proofs.Common.{rules, ◌≡◌, ℕ, ◌+◌, ◌*◌, ◌<◌, ◌≤◌, true, false, cond, ltb, List, length, sym, refl, ap, ◌∙◌, add-one, arith}
use Rattle.std.proofs.lemmas.Bool.{lt-ltb, le-ltb}
use Rattle.std.proofs.lemmas.Result.{err_from_is_err_and}
use Rattle.octets.specs.Reading.{fault, fine, next, item}
use Rattle.octets.specs.Words.{word_at}
use Rattle.network.specs.Format.{nodes_in, links_in, receivers_in, receiver_in, receiver_fault, previous, receivers, receiver_items, end_item}
use Rattle.octets.proofs.Reading.{item-short, item-fine, item-told}
use Rattle.network.proofs.Told.{short-told, judged-told, judged-fine}
use Rattle.network.proofs.Progress.{receivers-more, receivers-fault, receivers-long}
use Rattle.network.proofs.reader.Headed.check_receivers.Goals as goal
use borrow.Author.Tests.{tests}

module _ (bs : List ℕ) (links count : ℕ) (e : links ≡ links_in bs) (f : count ≡ receivers_in bs links) where
  count-is : count ≡ receivers_in bs (links_in bs)
  count-is = f ∙ ap (receivers_in bs) e

  -- a fault of receiver i is one of the whole
  stopped : (i told : ℕ) → i < count → receivers (length bs) (7 + 4 * links_in bs) (nodes_in bs) (receiver_in bs (links_in bs)) i ≡ fine
      → item (length bs) (7 + 4 * links_in bs + 2 * i) (7 + 4 * links_in bs + 2 * i + 2)
      (receiver_fault (nodes_in bs) (previous (receiver_in bs (links_in bs)) i) (receiver_in bs (links_in bs) i)) ≡ fault told (7 + 4 * links_in bs + 2 * i)
      → next (receiver_items bs) (end_item bs) ≡ fault told (7 + 4 * links + 2 * i)
  stopped i told h good bad =
      let at : 7 + 4 * links_in bs + 2 * i ≡ 7 + 4 * links + 2 * i = omega arith in
      let c = count-is in
      let all = receivers-fault (length bs) (7 + 4 * links_in bs) (nodes_in bs) (receiver_in bs (links_in bs)) (receivers_in bs (links_in bs)) i told (7 + 4 * links_in bs + 2 * i) (omega arith) good bad in
      rw all (ap (fault told) at)

  -- all are good, and the end tells
  ended : (i : ℕ) → i ≡ count → 7 + 4 * links ≤ length bs
      → receivers (length bs) (7 + 4 * links_in bs) (nodes_in bs) (receiver_in bs (links_in bs)) i ≡ fine
      → next (receiver_items bs) (end_item bs) ≡ cond (ltb (7 + 4 * links + 2 * count) (length bs)) (fault 1 (7 + 4 * links + 2 * count)) fine
  ended i is long good =
      let end : ℕ = 7 + 4 * links_in bs + 2 * receivers_in bs (links_in bs) in
      let c = count-is in
      let all : receiver_items bs ≡ fine = ap (receivers (length bs) (7 + 4 * links_in bs) (nodes_in bs) (receiver_in bs (links_in bs))) (sym (is ∙ c)) ∙ good in
      let fits : end ≤ length bs = let l = receivers-long (length bs) (7 + 4 * links_in bs) (nodes_in bs) (receiver_in bs (links_in bs)) i good (omega arith) in omega arith in
      let same : end ≡ 7 + 4 * links + 2 * count = omega arith in
      rw all
      ((elim (ltb end (length bs)) as (λ v. item (length bs) end end (cond v 1 0) ≡ cond v (fault 1 end) fine)
      [ true ↦ item-told (length bs) end end 1 1 fits refl (omega arith) | false ↦ item-fine (length bs) end end 0 fits refl ])
      ∙ ap (λ x. cond (ltb x (length bs)) (fault 1 x) fine) same)

-- a receiver's own fault, by what the program read
same_number : (bs : List ℕ) (i nodes before place : ℕ) → nodes ≡ nodes_in bs → before ≡ previous (receiver_in bs (links_in bs)) i → place ≡ receiver_in bs (links_in bs) i
    → receiver_fault (nodes_in bs) (previous (receiver_in bs (links_in bs)) i) (receiver_in bs (links_in bs) i) ≡ receiver_fault nodes before place
same_number bs i nodes before place e f g = rw (e, f, g)

pub loop-i-init : goal.loop-i-init
unfolding receivers
loop-i-init c = (refl, refl)

pub returns-in_err-place : goal.returns-in_err-place
returns-in_err-place c =
    let p = err_from_is_err_and c.from_residual.result c.from_residual.ensures.1 in
    let bs : List ℕ = c.args.self.now.bytes.now in
    let i : ℕ = c.loop-i.i in
    rw (p.1, p.2)
    (short-told _ (7 + 4 * c.args.self.now.links + 2 * i) c.word_at.result _ _ _ c.word_at.ensures (sym c.in_err-place.ensures.value)
    (λ cut. stopped bs c.args.self.now.links c.args.count c.args.self.now.links_is c.requires.count i 1 c.loop-i-test.true c.loop-i.invariant.0
    (item-short (length bs) (7 + 4 * links_in bs + 2 * i) (7 + 4 * links_in bs + 2 * i + 2) _ (omega arith))))

pub returns-in_err-map_err : goal.returns-in_err-map_err
returns-in_err-map_err c =
    let p = err_from_is_err_and c.from_residual-in_err-map_err.result c.from_residual-in_err-map_err.ensures.1 in
    let bs : List ℕ = c.args.self.now.bytes.now in
    let i : ℕ = c.loop-i.i in
    let place = rw c.in_ok-place.ensures.ok_part at c.word_at.ensures in
    rw (p.1, p.2)
    (judged-told _ _ (7 + 4 * c.args.self.now.links + 2 * i) c.judge_receiver.result _ _ _ c.judge_receiver.ensures c.in_err-map_err.ensures.cases (λ x q. cc) (λ f q. search (rules, tests))
    (λ told is some. stopped bs c.args.self.now.links c.args.count c.args.self.now.links_is c.requires.count i told c.loop-i-test.true c.loop-i.invariant.0
    (item-told (length bs) (7 + 4 * links_in bs + 2 * i) (7 + 4 * links_in bs + 2 * i + 2) _ told (omega (arith, place.0))
    (same_number bs i c.args.self.now.nodes c.loop-i.before c.in_ok-place.place c.args.self.now.nodes_is c.loop-i.invariant.1 (place.1 ∙ ap (word_at bs) (omega arith)) ∙ is) some)))

pub loop-i-preserved : goal.loop-i-preserved
loop-i-preserved c =
    let bs : List ℕ = c.args.self.now.bytes.now in
    let i : ℕ = c.loop-i.i in
    let place = rw c.in_ok-place.ensures.ok_part at c.word_at.ensures in
    let is : c.in_ok-place.place ≡ receiver_in bs (links_in bs) i = place.1 ∙ ap (word_at bs) (omega arith) in
    let none = judged-fine _ c.judge_receiver.result _ c.judge_receiver.ensures c.in_ok-map_err.ensures.cases in (
      receivers-more (length bs) (7 + 4 * links_in bs) (nodes_in bs) (receiver_in bs (links_in bs)) i c.loop-i.invariant.0 (omega (arith, place.0))
          (same_number bs i c.args.self.now.nodes c.loop-i.before c.in_ok-place.place c.args.self.now.nodes_is c.loop-i.invariant.1 is ∙ none),
      rw (add-one i) is,
    )

pub returns-then-self-end : goal.returns-then-self-end
returns-then-self-end c =
    let bs : List ℕ = c.args.self.now.bytes.now in
    ended bs c.args.self.now.links c.args.count c.args.self.now.links_is c.requires.count c.loop-i.i (omega arith) c.requires.long c.loop-i.invariant.0
    ∙ rw (lt-ltb (7 + 4 * c.args.self.now.links + 2 * c.args.count) (length bs) c.if-self-end.true)

pub returns : goal.returns
returns c =
    let bs : List ℕ = c.args.self.now.bytes.now in
    ended bs c.args.self.now.links c.args.count c.args.self.now.links_is c.requires.count c.loop-i.i (omega arith) c.requires.long c.loop-i.invariant.0
    ∙ rw (le-ltb (7 + 4 * c.args.self.now.links + 2 * c.args.count) (length bs) c.if-self-end.false)
