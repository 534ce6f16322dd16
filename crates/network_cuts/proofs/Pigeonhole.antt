-- Where the first m numbers go to fewer than m places, two of them go to one place, and they are found.
-- By induction on the places: if another number goes where the last one goes, these two meet. If none does, the last place is given up,
-- what went there goes to the place of the last number, which is free now, and two of the other numbers meet.
use Rattle.std.proofs.Common.{◌≡◌, ℕ, zero, suc, ◌<◌, cond, eqb, ◌⊎◌, sym, ap, ◌∙◌, inl, inr, arith}
use Rattle.std.proofs.lemmas.Bool.{cases_eq}
use Rattle.std.proofs.lemmas.Bool.Decides.{nat_tests}

-- two numbers below m that go to one place
pub record Meet (g : ℕ → ℕ) (m : ℕ) : Type 0 where
  pub one : ℕ
  pub two : ℕ
  pub apart : one < two
  pub below : two < m
  pub same : g one ≡ g two

-- the first m numbers are looked through for one that goes to v
seek : (g : ℕ → ℕ) (v m : ℕ) → ((i : ℕ) × (i < m) × (g i ≡ v)) ⊎ ((i : ℕ) → i < m → g i ≡ v → ⊥)
seek g v zero = inr (λ i l e. omega arith)
seek g v (suc m) =
    elim (cases_eq (g m) v) [
      | inl e ↦ inl (m, omega arith, e)
      | inr d ↦
          elim (seek g v m) [
            | inl r ↦ inl (r.0, omega arith, r.2)
            | inr none ↦ inr (λ i l e. elim (cases_eq i m) [ inl q ↦ d (ap g (sym q) ∙ e) | inr q ↦ none i (omega arith) e ])
          ]
    ]

-- what went to n goes to w
abbrev moved : (ℕ → ℕ) → ℕ → ℕ → ℕ → ℕ
moved g n w i = cond (eqb (g i) n) w (g i)

moved-below : (g : ℕ → ℕ) (n w i : ℕ) → g i < suc n → w < suc n → (g i ≡ w → ⊥) → moved g n w i < n
moved-below g n w i l k d = grind (arith, nat_tests)

moved_same : (g : ℕ → ℕ) (n w i j : ℕ) → (g i ≡ w → ⊥) → (g j ≡ w → ⊥) → moved g n w i ≡ moved g n w j → g i ≡ g j
moved_same g n w i j d e s = grind (arith, nat_tests)

pub meet : (n m : ℕ) (g : ℕ → ℕ) → n < m → ((i : ℕ) → i < m → g i < n) → Meet g m
meet zero m g l all = absurd (omega (arith, all 0 l))
meet (suc n) zero g l all = absurd (omega arith)
meet (suc n) (suc m) g l all =
    elim (seek g (g m) m) [
      | inl r ↦ record { one = r.0; two = m; apart = r.1; below = omega arith; same = r.2 }
      | inr none ↦ back none (meet n m (moved g n (g m)) (omega arith) (λ i k. moved-below g n (g m) i (all i (omega arith)) (all m (omega arith)) (none i k)))
    ]
  where
    back : ((i : ℕ) → i < m → g i ≡ g m → ⊥) → Meet (moved g n (g m)) m → Meet g (suc m)
    back none t = record {
      one = t.one;
      two = t.two;
      apart = t.apart;
      below = omega arith;
      same = moved_same g n (g m) t.one t.two (none t.one (omega arith)) (none t.two t.below) t.same;
    }
