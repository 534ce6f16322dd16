-- How judging goes on, item by item: what was good so far and one item more; the first fault stays the fault of the whole.
use Rattle.std.proofs.Common.{◌≡◌, ℕ, zero, suc, ◌+◌, ◌*◌, ◌<◌, ◌≤◌, Bool, true, false, ◌||◌, eqb, List, length, get_or, set, replicate, sym, refl, ap, ◌∙◌, inl, inr, add-one, arith}
use Rattle.std.proofs.lemmas.List.{get_or-replicate, get_or-set_same, get_or-set_other, length-set}
use Rattle.std.proofs.lemmas.Bool.{cases_eq, cases_lt, eq-eqb, ne_eqb, or_right}
use Rattle.std.proofs.lemmas.Bool.Decides.{nat_tests}
use Rattle.octets.specs.Reading.{fault, fine, item}
use Rattle.network.specs.Format.{among, link_fault, receiver_fault, unfed, links, previous, receivers}
use Rattle.octets.proofs.Reading.{item-fine}
use Rattle.network.proofs.Items.{each-link, each-receiver, same-unfed}

-- LINKS

module _ (len nodes : ℕ) (from to : ℕ → ℕ) where
  pub links-more : (k : ℕ) → links len nodes from to k ≡ fine → 9 + 4 * k ≤ len → link_fault nodes (from k) (to k) (among from k (to k)) ≡ 0
      → links len nodes from to (k + 1) ≡ fine
  unfolding links
  links-more k e h z = rw (add-one k, e) (item-fine len (5 + 4 * k) (9 + 4 * k) _ h z)

  pub links-fault : (n k told b : ℕ) → k < n → links len nodes from to k ≡ fine
      → item len (5 + 4 * k) (9 + 4 * k) (link_fault nodes (from k) (to k) (among from k (to k))) ≡ fault told b → links len nodes from to n ≡ fault told b
  unfolding links
  links-fault zero k told b h e f = absurd (omega arith)
  links-fault (suc n) k told b h e f =
      elim (cases_eq k n) [ inl q ↦ rw (sym q, e) f | inr q ↦ rw (links-fault n k told b (omega arith) e f) ]

  pub links-long : (n : ℕ) → links len nodes from to n ≡ fine → 5 ≤ len → 5 + 4 * n ≤ len
  links-long zero e h = omega arith
  links-long (suc n) e h = let last = each-link len nodes from to (suc n) n e (omega arith) in omega (arith, last.0)

-- RECEIVERS

module _ (len start nodes : ℕ) (place : ℕ → ℕ) where
  pub receivers-more : (i : ℕ) → receivers len start nodes place i ≡ fine → start + 2 * i + 2 ≤ len → receiver_fault nodes (previous place i) (place i) ≡ 0
      → receivers len start nodes place (i + 1) ≡ fine
  unfolding receivers
  receivers-more i e h z = rw (add-one i, e) (item-fine len (start + 2 * i) (start + 2 * i + 2) _ h z)

  pub receivers-fault : (n i told b : ℕ) → i < n → receivers len start nodes place i ≡ fine
      → item len (start + 2 * i) (start + 2 * i + 2) (receiver_fault nodes (previous place i) (place i)) ≡ fault told b
      → receivers len start nodes place n ≡ fault told b
  unfolding receivers
  receivers-fault zero i told b h e f = absurd (omega arith)
  receivers-fault (suc n) i told b h e f =
      elim (cases_eq i n) [ inl q ↦ rw (sym q, e) f | inr q ↦ rw (receivers-fault n i told b (omega arith) e f) ]

  pub receivers-long : (n : ℕ) → receivers len start nodes place n ≡ fine → start ≤ len → start + 2 * n ≤ len
  receivers-long zero e h = omega arith
  receivers-long (suc n) e h = let last = each-receiver len start nodes place (suc n) n e (omega arith) in omega (arith, last.0)

-- FLAGS OF NODES

-- flags for 256 nodes, set at those that are one of f 0, .., f (k - 1)
pub record Marks (f : ℕ → ℕ) (k : ℕ) (flags : List Bool) : Type 0 where
  pub long : length flags ≡ 256
  pub marked : (p : ℕ) → p < 256 → get_or flags p false ≡ among f k p

or-none : (x y : Bool) → y ≡ false → (x || y) ≡ x
or-none true y e = refl
or-none false y e = e

pub marks-none : (f : ℕ → ℕ) → Marks f 0 (replicate 256 false)
unfolding among
marks-none f = record { long = refl; marked = λ p h. get_or-replicate 256 p false false h }

pub marks-more : (f : ℕ → ℕ) (k : ℕ) (flags : List Bool) (x : ℕ) → Marks f k flags → x ≡ f k → x < 256 → Marks f (k + 1) (set flags x true)
unfolding among
marks-more f k flags x m e l =
    record {
      long = length-set flags x true ∙ m.long;
      marked = λ p h.
          rw (add-one k)
          (elim (cases_eq p x) [
            | inl q ↦ ap (λ y. get_or (set flags x true) y false) q ∙ get_or-set_same flags x true false (omega (arith, m.long)) ∙ sym (or_right (among f k p) (eqb p (f k)) (eq-eqb p (f k) (q ∙ e)))
            | inr q ↦ get_or-set_other flags x p true false q ∙ m.marked p h ∙ sym (or-none (among f k p) (eqb p (f k)) (ne_eqb p (f k) (λ y. q (y ∙ sym e))))
          ]);
    }

-- a flag that is not there is not asked for: such a node is out of range
pub marks-fault : (f : ℕ → ℕ) (k : ℕ) (flags : List Bool) (nodes x t : ℕ) → Marks f k flags → nodes ≤ 256
    → link_fault nodes x t (get_or flags t false) ≡ link_fault nodes x t (among f k t)
marks-fault f k flags nodes x t m h =
    elim (cases_lt t 256) [ inl l ↦ ap (link_fault nodes x t) (m.marked t l) | inr l ↦ grind (arith, nat_tests) ]

pub marks-unfed : (f g : ℕ → ℕ) (k : ℕ) (left entered : List Bool) (nodes : ℕ) → Marks f k left → Marks g k entered → nodes ≤ 256
    → unfed (λ p. get_or left p false) (λ p. get_or entered p false) nodes ≡ unfed (among f k) (among g k) nodes
marks-unfed f g k left entered nodes m n h =
    same-unfed (λ p. get_or left p false) (λ p. get_or entered p false) (among f k) (among g k) nodes (λ p l. m.marked p (omega arith)) (λ p l. n.marked p (omega arith))
