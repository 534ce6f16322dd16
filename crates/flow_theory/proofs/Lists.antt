-- The steps from a node: they are those that can be taken, all of them, each sooner than those behind it.
-- Links out of a node, and into it, are listed by rising number; of these the unused and the used are picked.
use Rattle.std.proofs.Common.{◌≡◌, ℕ, zero, suc, ◌<◌, Bool, true, false, cond, eqb, ◌⊎◌, List, [], ◌∷◌, ◌++◌, length, sym, refl, ap, ◌∙◌, inl, inr, arith}
use mathlib.Core.Bool.{beq}
use Rattle.std.proofs.lemmas.Bool.{cases_eq, eqb-true, eq-eqb}
use Rattle.network.specs.Network.{Link, link_at}
use Rattle.flow_theory.specs.Flow.{is_used, listed, out_of, into_of, flagged, steps, over}
use Rattle.flow_theory.specs.Order.{Goes, Sooner}

abbrev pub In : ℕ → List ℕ → Type 0
In k [] = ⊥
In k (x ∷ xs) = (k ≡ x) ⊎ In k xs

abbrev pub Every : (ℕ → Type 0) → List ℕ → Type 0
Every P [] = Unit {0}
Every P (x ∷ xs) = P x × Every P xs

-- each stands in the relation to those behind it
abbrev pub Sorted : (ℕ → ℕ → Type 0) → List ℕ → Type 0
Sorted R [] = Unit {0}
Sorted R (x ∷ xs) = Every (R x) xs × Sorted R xs

pub every_map : (P Q : ℕ → Type 0) (xs : List ℕ) → ((k : ℕ) → P k → Q k) → Every P xs → Every Q xs
every_map P Q [] f e = tt
every_map P Q (x ∷ xs) f e = (f x e.0, every_map P Q xs f e.1)

pub every_append : (P : ℕ → Type 0) (xs ys : List ℕ) → Every P xs → Every P ys → Every P (xs ++ ys)
every_append P [] ys a b = b
every_append P (x ∷ xs) ys a b = (a.0, every_append P xs ys a.1 b)

in_left : (k : ℕ) (xs ys : List ℕ) → In k xs → In k (xs ++ ys)
in_left k [] ys i = elim i [ ]
in_left k (x ∷ xs) ys (inl e) = inl e
in_left k (x ∷ xs) ys (inr i) = inr (in_left k xs ys i)

in_right : (k : ℕ) (xs ys : List ℕ) → In k ys → In k (xs ++ ys)
in_right k [] ys i = i
in_right k (x ∷ xs) ys i = inr (in_right k xs ys i)

sorted-append : (R : ℕ → ℕ → Type 0) (xs ys : List ℕ) → Sorted R xs → Sorted R ys → Every (λ x. Every (R x) ys) xs → Sorted R (xs ++ ys)
sorted-append R [] ys a b h = b
sorted-append R (x ∷ xs) ys a b h = (every_append (R x) xs ys a.0 h.0, sorted-append R xs ys a.1 b h.1)

-- lists by rising number
module _ (end : ℕ → ℕ) (q : ℕ) where
  abbrev Ends : ℕ → ℕ → Type 0
  Ends n k = (k < n) × (end k ≡ q)

  pub listed-every : (n : ℕ) → Every (Ends n) (listed end q n)
  unfolding listed
  listed-every zero = tt
  listed-every (suc n) = go (eqb q (end n)) refl (every_map (Ends n) (Ends (suc n)) (listed end q n) (λ k e. (omega arith, e.1)) (listed-every n))
    where
      go : (b : Bool) → eqb q (end n) ≡ b → Every (Ends (suc n)) (listed end q n) → Every (Ends (suc n)) (cond b (listed end q n ++ n ∷ []) (listed end q n))
      go true e r = every_append (Ends (suc n)) (listed end q n) (n ∷ []) r ((omega arith, sym (eqb-true q (end n) e)), tt)
      go false e r = r

  pub listed_in : (n k : ℕ) → k < n → end k ≡ q → In k (listed end q n)
  unfolding listed
  listed_in zero k l e = absurd (omega arith)
  listed_in (suc n) k l e =
      elim (cases_eq k n) [
        | inl m ↦ rw (eq-eqb q (end n) (sym e ∙ ap end m)) (in_right k (listed end q n) (n ∷ []) (inl m))
        | inr d ↦ old (eqb q (end n)) (listed_in n k (omega arith) e)
      ]
    where
      old : (b : Bool) → In k (listed end q n) → In k (cond b (listed end q n ++ n ∷ []) (listed end q n))
      old true i = in_left k (listed end q n) (n ∷ []) i
      old false i = i

  pub listed-rises : (n : ℕ) → Sorted (λ j k. j < k) (listed end q n)
  unfolding listed
  listed-rises zero = tt
  listed-rises (suc n) = go (eqb q (end n)) (listed-rises n)
    where
      go : (b : Bool) → Sorted (λ j k. j < k) (listed end q n) → Sorted (λ j k. j < k) (cond b (listed end q n ++ n ∷ []) (listed end q n))
      go true s = sorted-append (λ j k. j < k) (listed end q n) (n ∷ []) s (tt, tt) (every_map (Ends n) (λ k. Every (λ j. k < j) (n ∷ [])) (listed end q n) (λ k e. (e.0, tt)) (listed-every n))
      go false s = s

-- of these, those with a flag
pub beq_same : (a b : Bool) → beq a b ≡ true → a ≡ b
beq_same true true e = refl
beq_same true false e = sym e
beq_same false true e = e
beq_same false false e = refl

pub same-beq : (a b : Bool) → a ≡ b → beq a b ≡ true
same-beq true true e = refl
same-beq true false e = sym e
same-beq false true e = e
same-beq false false e = refl

module _ (us : List Bool) (u : Bool) where
  pub flagged-every : (P : ℕ → Type 0) (ks : List ℕ) → Every P ks → Every (λ k. P k × (is_used us k ≡ u)) (flagged us u ks)
  unfolding flagged
  flagged-every P [] e = tt
  flagged-every P (k ∷ ks) e = go (beq (is_used us k) u) refl (flagged-every P ks e.1)
    where
      go : (b : Bool) → beq (is_used us k) u ≡ b → Every (λ k. P k × (is_used us k ≡ u)) (flagged us u ks) → Every (λ k. P k × (is_used us k ≡ u)) (cond b (k ∷ flagged us u ks) (flagged us u ks))
      go true a r = ((e.0, beq_same (is_used us k) u a), r)
      go false a r = r

  pub flagged-in : (k : ℕ) (ks : List ℕ) → In k ks → is_used us k ≡ u → In k (flagged us u ks)
  unfolding flagged
  flagged-in k [] i e = elim i [ ]
  flagged-in k (x ∷ ks) (inl m) e = rw (same-beq (is_used us x) u (ap (is_used us) (sym m) ∙ e)) (inl m)
  flagged-in k (x ∷ ks) (inr i) e = old (beq (is_used us x) u) (flagged-in k ks i e)
    where
      old : (b : Bool) → In k (flagged us u ks) → In k (cond b (x ∷ flagged us u ks) (flagged us u ks))
      old true j = inr j
      old false j = j

  -- among links with one flag the lower is the sooner
  flagged-sooner : (ks : List ℕ) → Sorted (λ j k. j < k) ks → Sorted (Sooner us) (flagged us u ks)
  unfolding flagged
  flagged-sooner [] s = tt
  flagged-sooner (k ∷ ks) s = go (beq (is_used us k) u) refl (flagged-sooner ks s.1)
    where
      go : (b : Bool) → beq (is_used us k) u ≡ b → Sorted (Sooner us) (flagged us u ks) → Sorted (Sooner us) (cond b (k ∷ flagged us u ks) (flagged us u ks))
      go true a r =
          (every_map (λ j. (k < j) × (is_used us j ≡ u)) (Sooner us k) (flagged us u ks) (λ j p. inr (beq_same (is_used us k) u a ∙ sym p.1, p.0)) (flagged-every (λ j. k < j) ks s.0), r)
      go false a r = r

-- the steps from a node
module _ (ls : List Link) (us : List Bool) (q : ℕ) where
  abbrev from : ℕ → ℕ
  from k = (link_at ls k).from

  abbrev to : ℕ → ℕ
  to k = (link_at ls k).to

  unused-every : Every (λ k. Ends from q (length ls) k × (is_used us k ≡ false)) (flagged us false (out_of ls q))
  unused-every = flagged-every us false (Ends from q (length ls)) (out_of ls q) (listed-every from q (length ls))

  used-every : Every (λ k. Ends to q (length ls) k × (is_used us k ≡ true)) (flagged us true (into_of ls q))
  used-every = flagged-every us true (Ends to q (length ls)) (into_of ls q) (listed-every to q (length ls))

  pub steps-go : Every (λ k. Goes ls us k q (over ls us k)) (steps ls us q)
  steps-go =
      every_append (λ k. Goes ls us k q (over ls us k)) (flagged us false (out_of ls q)) (flagged us true (into_of ls q))
      (every_map (λ k. Ends from q (length ls) k × (is_used us k ≡ false)) (λ k. Goes ls us k q (over ls us k)) (flagged us false (out_of ls q)) (λ k e. (e.0.0, inl (e.1, e.0.1, rw e.1 refl))) unused-every)
      (every_map (λ k. Ends to q (length ls) k × (is_used us k ≡ true)) (λ k. Goes ls us k q (over ls us k)) (flagged us true (into_of ls q)) (λ k e. (e.0.0, inr (e.1, e.0.1, rw e.1 refl))) used-every)

  pub steps-in : (k r : ℕ) → Goes ls us k q r → In k (steps ls us q) × (over ls us k ≡ r)
  steps-in k r (l, inl a) = (in_left k (flagged us false (out_of ls q)) _ (flagged-in us false k (out_of ls q) (listed_in from q (length ls) k l a.1) a.0), rw a.0 a.2)
  steps-in k r (l, inr a) = (in_right k (flagged us false (out_of ls q)) _ (flagged-in us true k (into_of ls q) (listed_in to q (length ls) k l a.1) a.0), rw a.0 a.2)

  pub steps-sorted : Sorted (Sooner us) (steps ls us q)
  steps-sorted =
      sorted-append (Sooner us) (flagged us false (out_of ls q)) (flagged us true (into_of ls q))
      (flagged-sooner us false (out_of ls q) (listed-rises from q (length ls)))
      (flagged-sooner us true (into_of ls q) (listed-rises to q (length ls)))
      (every_map (λ k. Ends from q (length ls) k × (is_used us k ≡ false)) (λ j. Every (Sooner us j) (flagged us true (into_of ls q))) (flagged us false (out_of ls q))
      (λ j a. every_map (λ k. Ends to q (length ls) k × (is_used us k ≡ true)) (Sooner us j) (flagged us true (into_of ls q)) (λ k b. inl (a.1, b.1)) used-every) unused-every)
