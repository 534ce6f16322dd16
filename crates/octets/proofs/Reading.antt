-- Items: when one is good, and when all of a sequence are.
use Rattle.std.proofs.Common.{◌≡◌, ℕ, ◌<◌, ◌≤◌, true, false, cond, eqb, ltb, refl, arith}
use Rattle.std.proofs.lemmas.Bool.{ltb-false, eqb-true, le-ltb, lt-ltb, eq-eqb, ne_eqb}
use Rattle.octets.specs.Reading.{Reading, got, fault, fine, next, item}

-- a fault is no value
pub not-fine : {number at : ℕ} → fault number at ≡ fine → ⊥
not-fine e = let z : ◌≡◌ {A = ℕ} 0 1 = cc in omega arith

pub next-fine : (a b : Reading (Unit {0})) → next a b ≡ fine → (a ≡ fine) × (b ≡ fine)
next-fine (got x) b e = (refl, e)
next-fine (fault number at) b e = absurd (not-fine e)

pub fine-next : (a b : Reading (Unit {0})) → a ≡ fine → b ≡ fine → next a b ≡ fine
fine-next a b e f = rw (e, f)

pub item-short : (len at end number : ℕ) → len < end → item len at end number ≡ fault 1 at
unfolding item
item-short len at end number h = rw (lt-ltb len end h)

pub item-whole : (len at end number : ℕ) → end ≤ len → item len at end number ≡ cond (eqb number 0) fine (fault number at)
unfolding item
item-whole len at end number h = rw (le-ltb len end h)

pub item-fine : (len at end number : ℕ) → end ≤ len → number ≡ 0 → item len at end number ≡ fine
item-fine len at end number h e = rw (item-whole len at end number h, eq-eqb number 0 e)

pub item-told : (len at end number told : ℕ) → end ≤ len → number ≡ told → 0 < told → item len at end number ≡ fault told at
item-told len at end number told h e s = rw (item-whole len at end number h, ne_eqb number 0 (λ z. omega arith), e)

pub fine-item : (len at end number : ℕ) → item len at end number ≡ fine → (end ≤ len) × (number ≡ 0)
unfolding item
fine-item len at end number e =
    (elim (ltb len end) as (λ v. (ltb len end ≡ v → cond v (fault 1 at) (cond (eqb number 0) fine (fault number at)) ≡ fine → (end ≤ len) × (number ≡ 0))) [
      | true ↦ λ _ h. absurd (not-fine h)
      | false ↦ λ l. elim (eqb number 0) as (λ w. (eqb number 0 ≡ w → cond w fine (fault number at) ≡ fine → (end ≤ len) × (number ≡ 0)))
          [ true ↦ λ q _. (ltb-false len end l, eqb-true number 0 q) | false ↦ λ _ h. absurd (not-fine h) ] refl
    ]) refl e
