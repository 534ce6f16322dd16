use Rattle.std.proofs.Common.{rules, ◌≡◌, ℕ, ◌+◌, ◌*◌, ◌<◌, ◌≤◌, Bool, true, false, cond, List, length, get_or, sym, refl, ap, ◌∙◌, arith}
use Rattle.std.proofs.lemmas.Bool.Decides.{nat_tests}
use Rattle.std.proofs.lemmas.Result.{err_from_is_err_and}
use Rattle.octets.specs.Reading.{fault, fine, next, item}
use Rattle.octets.specs.Words.{word_at}
use Rattle.network.specs.Format.{nodes_in, links_in, from_in, to_in, among, link_fault, unfed, links, link_items, links_end}
use Rattle.octets.proofs.Reading.{item-short, item-fine, item-told}
use Rattle.network.proofs.Told.{short-told, judged-told, judged-fine}
use Rattle.network.proofs.Progress.{Marks, links-more, links-fault, links-long, marks-none, marks-more, marks-fault, marks-unfed}
use Rattle.network.proofs.reader.Headed.check_links.Goals as goal
use borrow.Author.Tests.{tests}

-- a fault of the links is one of the whole
stopped : (bs : List ℕ) (told b : ℕ) → link_items bs ≡ fault told b → next (link_items bs) (links_end bs) ≡ fault told b
stopped bs told b e = rw e

-- link k is cut short
short : (bs : List ℕ) (k : ℕ) → k < links_in bs → links (length bs) (nodes_in bs) (from_in bs) (to_in bs) k ≡ fine → length bs < 9 + 4 * k
    → next (link_items bs) (links_end bs) ≡ fault 1 (5 + 4 * k)
short bs k h e l =
    stopped bs 1 (5 + 4 * k)
    (links-fault (length bs) (nodes_in bs) (from_in bs) (to_in bs) (links_in bs) k 1 (5 + 4 * k) h e (item-short (length bs) (5 + 4 * k) (9 + 4 * k) _ l))

-- the fault of link k by what the program read and marked
same_number : (bs : List ℕ) (k nodes from to : ℕ) (left : List Bool) → nodes ≡ nodes_in bs → nodes ≤ 256 → from ≡ from_in bs k → to ≡ to_in bs k → Marks (from_in bs) k left
    → link_fault (nodes_in bs) (from_in bs k) (to_in bs k) (among (from_in bs) k (to_in bs k)) ≡ link_fault nodes from to (get_or left to false)
same_number bs k nodes from to left e h f t m = sym (marks-fault (from_in bs) k left nodes from to m h ∙ rw (e, f, t))

-- all links are good, and the test of their end tells
ended : (bs : List ℕ) (k nodes : ℕ) (left entered : List Bool) (told : Bool) → links (length bs) (nodes_in bs) (from_in bs) (to_in bs) k ≡ fine → k ≡ links_in bs → nodes ≡ nodes_in bs
    → nodes ≤ 256 → 5 ≤ length bs → Marks (from_in bs) k left → Marks (to_in bs) k entered → told ≡ unfed (λ p. get_or left p false) (λ p. get_or entered p false) nodes
    → next (link_items bs) (links_end bs) ≡ cond told (fault 10 (5 + 4 * links_in bs)) fine
ended bs k nodes left entered told e n q h long m m' is =
    let all : link_items bs ≡ fine = ap (links (length bs) (nodes_in bs) (from_in bs) (to_in bs)) (sym n) ∙ e in
    let fits : 5 + 4 * links_in bs ≤ length bs = let l = links-long (length bs) (nodes_in bs) (from_in bs) (to_in bs) k e long in omega arith in
    let same : unfed (among (from_in bs) (links_in bs)) (among (to_in bs) (links_in bs)) (nodes_in bs) ≡ told =
    sym (is ∙ marks-unfed (from_in bs) (to_in bs) k left entered nodes m m' h ∙ rw (n, q)) in
    rw (all, same) (end told fits)
  where
    end : (t : Bool) → 5 + 4 * links_in bs ≤ length bs → item (length bs) (5 + 4 * links_in bs) (5 + 4 * links_in bs) (cond t 10 0) ≡ cond t (fault 10 (5 + 4 * links_in bs)) fine
    end true f = item-told (length bs) (5 + 4 * links_in bs) (5 + 4 * links_in bs) 10 10 f refl (omega arith)
    end false f = item-fine (length bs) (5 + 4 * links_in bs) (5 + 4 * links_in bs) 0 f refl

pub loop-k-init : goal.loop-k-init
unfolding links
loop-k-init c = (refl, marks-none (from_in c.args.self.now.bytes.now), marks-none (to_in c.args.self.now.bytes.now))

pub returns-in_err-link : goal.returns-in_err-link
returns-in_err-link c =
    let p = err_from_is_err_and c.from_residual.result c.from_residual.ensures.1 in
    let k : ℕ = c.loop-k.k in
    rw (p.1, p.2)
    (short-told _ (5 + 4 * k) c.link_at.result _ _ _ c.link_at.ensures (sym c.in_err-link.ensures.value)
    (λ cut. short c.args.self.now.bytes.now k (omega arith) c.loop-k.invariant.0 (omega arith)))

pub returns-in_err-map_err : goal.returns-in_err-map_err
returns-in_err-map_err c =
    let p = err_from_is_err_and c.from_residual-in_err-map_err.result c.from_residual-in_err-map_err.ensures.1 in
    let bs : List ℕ = c.args.self.now.bytes.now in
    let k : ℕ = c.loop-k.k in
    let ends = rw c.in_ok-link.ensures.ok_part at c.link_at.ensures in
    rw (p.1, p.2)
    (judged-told _ _ (5 + 4 * k) c.judge_link.result _ _ _ c.judge_link.ensures c.in_err-map_err.ensures.cases (λ x q. cc) (λ f q. search (rules, tests))
    (λ told is some. stopped bs told (5 + 4 * k)
    (links-fault (length bs) (nodes_in bs) (from_in bs) (to_in bs) (links_in bs) k told (5 + 4 * k) (omega arith) c.loop-k.invariant.0
    (item-told (length bs) (5 + 4 * k) (9 + 4 * k) _ told (omega (arith, ends.0))
    (same_number bs k c.args.self.now.nodes c.in_ok-link.link.from c.in_ok-link.link.to c.loop-k.left c.args.self.now.nodes_is c.args.self.now.limits.1 ends.1
    (ends.2 ∙ ap (word_at bs) (omega arith)) c.loop-k.invariant.1 ∙ is) some))))

pub loop-k-preserved : goal.loop-k-preserved
loop-k-preserved c =
    let bs : List ℕ = c.args.self.now.bytes.now in
    let k : ℕ = c.loop-k.k in
    let ends = rw c.in_ok-link.ensures.ok_part at c.link_at.ensures in
    let to_is : c.in_ok-link.link.to ≡ to_in bs k = ends.2 ∙ ap (word_at bs) (omega arith) in
    let none = judged-fine _ c.judge_link.result _ c.judge_link.ensures c.in_ok-map_err.ensures.cases in
    let few : c.args.self.now.nodes ≤ 256 = c.args.self.now.limits.1 in
    let below : c.in_ok-link.link.from < 256 = grind (arith, nat_tests) in
    let below' : c.in_ok-link.link.to < 256 = grind (arith, nat_tests) in (
      links-more (length bs) (nodes_in bs) (from_in bs) (to_in bs) k c.loop-k.invariant.0 (omega (arith, ends.0))
          (same_number bs k c.args.self.now.nodes c.in_ok-link.link.from c.in_ok-link.link.to c.loop-k.left c.args.self.now.nodes_is few ends.1 to_is c.loop-k.invariant.1 ∙ none),
      marks-more (from_in bs) k c.loop-k.left c.in_ok-link.link.from c.loop-k.invariant.1 ends.1 below,
      marks-more (to_in bs) k c.loop-k.entered c.in_ok-link.link.to c.loop-k.invariant.2 to_is below',
    )

pub returns-then-some_unfed : goal.returns-then-some_unfed
returns-then-some_unfed c =
    rw c.args.self.now.links_is
    (ended c.args.self.now.bytes.now c.loop-k.k c.args.self.now.nodes c.loop-k.left c.loop-k.entered true c.loop-k.invariant.0 (omega arith) c.args.self.now.nodes_is c.args.self.now.limits.1
    c.args.self.now.long c.loop-k.invariant.1 c.loop-k.invariant.2 c.if-some_unfed.ensures)

pub returns : goal.returns
returns c =
    ended c.args.self.now.bytes.now c.loop-k.k c.args.self.now.nodes c.loop-k.left c.loop-k.entered false c.loop-k.invariant.0 (omega arith) c.args.self.now.nodes_is c.args.self.now.limits.1
    c.args.self.now.long c.loop-k.invariant.1 c.loop-k.invariant.2 c.if-some_unfed.ensures
