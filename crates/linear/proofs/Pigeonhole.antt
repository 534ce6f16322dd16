-- Among more numbers than are taken, one is free.
-- By induction on how many are taken: if the highest candidate isn't taken, it is free; if it is, the place that takes it is given
-- the last value, and one of the lower candidates is free of the rest.
use Rattle.std.proofs.Common.{◌≡◌, ℕ, zero, suc, ◌-◌, ◌<◌, ◌≤◌, cond, eqb, sym, refl, ap, ◌∙◌, inl, inr, arith}
use native.Mathlib.Decide.{dec_lt}
use Rattle.std.proofs.lemmas.Bool.{cond-true, cond-false, eq-eqb, ne_eqb, eqb-true, eqb-false, cases_eq, cases_Bool}
use Rattle.linear.specs.Lowest.{lowest}
use Rattle.linear.specs.Choice.{SomeLeft}
use Rattle.linear.proofs.Lowest.{search-below, lowest-found}

-- with f 0, .., f (t - 1) taken, one of 0, .., t is free
pub free : (t : ℕ) (f : ℕ → ℕ) → (c : ℕ) × (c ≤ t) × ((k : ℕ) → k < t → f k ≡ c → ⊥)
free zero f = (0, omega arith, λ k h. absurd (omega arith))
free (suc t) f =
    elim (search-below (λ k. eqb (f k) (suc t)) (suc t)) [
      | inr none ↦ (suc t, omega arith, λ k lk. eqb-false _ _ (none k lk))
      | inl r ↦ skip r.0 r.1 (eqb-true _ _ r.2) (free t (moved r.0))
    ]
  where
    moved : ℕ → ℕ → ℕ
    moved j k = cond (eqb k j) (f t) (f k)

    skip : (j : ℕ) → j < suc t → f j ≡ suc t → (c : ℕ) × (c ≤ t) × ((k : ℕ) → k < t → moved j k ≡ c → ⊥)
        → (c : ℕ) × (c ≤ suc t) × ((k : ℕ) → k < suc t → f k ≡ c → ⊥)
    skip j lj e r = (
      r.0,
      omega (arith, r.1),
      λ k lk ek.
          elim (cases_eq k j) [
            | inl same ↦ let top : suc t ≡ r.0 = sym e ∙ ap f (sym same) ∙ ek in omega (arith, r.1)
            | inr ne ↦ elim (dec_lt k t) [
              | yes l ↦ r.2 k l (cond-false _ _ _ (ne_eqb k j ne) ∙ ek)
              | no g ↦ let last : k ≡ t = omega arith in
                  r.2 j (omega arith) (cond-true _ _ _ (eq-eqb j j refl) ∙ ap f (sym last) ∙ ek)
            ]
          ],
    )

-- 0 is taken, and for each k the lowest number that it forbids: it forbids no other
pub some_left : SomeLeft
some_left size n forbids room once =
    let p = free (suc n) taken in
    let pos : (p.0 ≡ 0 → ⊥) = λ e. p.2 0 (omega arith) (sym e) in
    let some : 0 < p.0 = omega arith in
    let below : p.0 < size = omega (arith, p.1) in
    record {
      value = p.0;
      some = some;
      below = below;
      allowed = λ k lk.
          elim (cases_Bool (forbids k p.0)) [
            | inl t ↦
                let low = lowest-found (forbids k) size p.0 some below t in
                absurd (p.2 (suc k) (omega arith) (once k (lowest (forbids k) (size - 1) 1) p.0 lk low.some low.below some below low.holds t))
            | inr f ↦ f
          ];
    }
  where
    taken : ℕ → ℕ
    taken zero = 0
    taken (suc k) = lowest (forbids k) (size - 1) 1
