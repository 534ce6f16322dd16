use Rattle.std.proofs.Common.{◌≡◌, ℕ, ◌+◌, ◌<◌, ◌≤◌, cond, eqb, List, [], ◌∷◌, ◌++◌, length, get_or, take, set, vec_items, vec_len, sym, refl, ap, ◌∙◌, inl, inr, arith}
use Rattle.std.proofs.lemmas.List.{length-set, length-take-le, get_or-set_same, get_or-set_other, get_or-replicate, take_more}
use Rattle.std.proofs.lemmas.Bool.{cases_eq, eq-eqb, ne_eqb}
use Rattle.network.specs.Network.{Link, link_at}
use Rattle.network.specs.Links.{end_of}
use Rattle.network.specs.Values.{graph}
use Rattle.network.specs.declared.net.Link.{Link as Joined}
use Rattle.network.specs.declared.net.Network.{Network as Graph}
use Rattle.network.proofs.Sound.{links-long, to_is}
use Rattle.wire.specs.Plan.{feeding}
use Rattle.wire.proofs.Fitting.{feeding-few}
use Rattle.wire.proofs.reader.count_feeding.Goals as goal

feeding-push : (p : ℕ) (ls : List Link) (l : Link) → feeding p (ls ++ l ∷ []) ≡ feeding p ls + cond (eqb p l.to) 1 0
unfolding feeding
feeding-push p [] l = omega arith
feeding-push p (x ∷ ls) l = let e = feeding-push p ls l in omega arith

-- what the program reads of link k
module _ (z : Graph) (ls : List Joined) (k : ℕ) (e : ls ≡ vec_items z.links) (h : k < vec_len z.links) where
  below : end_of ls k < 256
  below = omega (arith, ap (λ l. end_of l k) e, (z.within k h).1, z.limits.1)

  feeding-more : (p : ℕ) → feeding p (take (k + 1) (graph z).links) ≡ feeding p (take k (graph z).links) + cond (eqb p (end_of ls k)) 1 0
  feeding-more p =
      ap (feeding p) (take_more (graph z).links k (record { from = 0; to = 0 }) (omega (arith, links-long z)))
      ∙ feeding-push p (take k (graph z).links) (link_at (graph z).links k)
      ∙ ap (λ q. feeding p (take k (graph z).links) + cond (eqb p q) 1 0) (to_is z k ∙ sym (ap (λ l. end_of l k) e))

  few : (p : ℕ) → feeding p (take k (graph z).links) ≤ 1024
  few p = omega (arith, feeding-few p (take k (graph z).links), length-take-le k (graph z).links (omega (arith, links-long z)), z.limits.2)

one_more : (counts : List ℕ) (to : ℕ) (f g : ℕ → ℕ) → length counts ≡ 256 → to < 256 → ((p : ℕ) → p < 256 → get_or counts p 0 ≡ f p) → ((p : ℕ) → g p ≡ f p + cond (eqb p to) 1 0)
    → (p : ℕ) → p < 256 → get_or (set counts to (get_or counts to 0 + 1)) p 0 ≡ g p
one_more counts to f g long l before after p h =
    elim (cases_eq p to) [
      | inl e ↦ ap (λ q. get_or (set counts to (get_or counts to 0 + 1)) q 0) e ∙ get_or-set_same counts to (get_or counts to 0 + 1) 0 (omega arith) ∙ ap (λ n. n + 1) (before to l)
          ∙ sym (after p ∙ ap (λ t. f p + cond t 1 0) (eq-eqb p to e) ∙ ap (λ q. f q + 1) e)
      | inr e ↦ let none : f p ≡ f p + 0 = omega arith in get_or-set_other counts to p (get_or counts to 0 + 1) 0 e ∙ before p h ∙ none ∙ sym (after p ∙ ap (λ t. f p + cond t 1 0) (ne_eqb p to e))
    ]

pub loop-link-init : goal.loop-link-init
unfolding feeding
loop-link-init c = (refl, λ p h. get_or-replicate 256 p 0 0 h)

pub overflow_add-counts : goal.overflow_add-counts
overflow_add-counts c =
    let z = c.args.network.now in
    let read = c.deref-link-items.ensures in
    let k : ℕ = c.loop-link.link-index in
    let h : k < vec_len z.links = omega (arith, c.loop-link-test.true, read.len) in
    let to : ℕ = end_of c.deref-link-items.result.now k in
    omega (arith, c.loop-link.invariant.1 to (below z _ k read.value h), few z _ k read.value h to)

pub loop-link-preserved : goal.loop-link-preserved
loop-link-preserved c =
    let z = c.args.network.now in
    let read = c.deref-link-items.ensures in
    let k : ℕ = c.loop-link.link-index in
    let h : k < vec_len z.links = omega (arith, c.loop-link-test.true, read.len) in
    let to : ℕ = end_of c.deref-link-items.result.now k in (
      length-set c.loop-link.counts to _ ∙ c.loop-link.invariant.0,
      one_more c.loop-link.counts to (λ p. feeding p (take k (graph z).links)) (λ p. feeding p (take (k + 1) (graph z).links)) c.loop-link.invariant.0 (below z _ k read.value h) c.loop-link.invariant.1
          (feeding-more z _ k read.value h),
    )
