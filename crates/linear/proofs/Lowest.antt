-- The lowest number that passes a test: found by going up from the first, so it passes if any does, and none below it does.
use Rattle.std.proofs.Common.{◌≡◌, ℕ, zero, suc, ◌+◌, ◌-◌, ◌<◌, ◌≤◌, Bool, true, false, ◌⊎◌, ap, ◌∙◌, inl, inr, arith}
use Rattle.std.proofs.lemmas.Bool.{cond_both, cases_eq, cases_Bool, both_ways}
use Rattle.linear.specs.Lowest.{lowest, LowestFound}

module _ (test : ℕ → Bool) where
  -- one of the first n numbers passes, or none
  pub search-below : (n : ℕ) → ((k : ℕ) × (k < n) × (test k ≡ true)) ⊎ ((k : ℕ) → k < n → test k ≡ false)
  search-below zero = inr (λ k h. absurd (omega arith))
  search-below (suc n) =
      elim (cases_Bool (test n)) [
        | inl p ↦ inl (n, omega arith, p)
        | inr f ↦ elim (search-below n) [
          | inl r ↦ inl (r.0, omega (arith, r.1), r.2)
          | inr none ↦ inr (λ k h. elim (cases_eq k n) [ inl e ↦ ap test e ∙ f | inr ne ↦ none k (omega arith) ])
        ]
      ]

  pub lowest-passes : (n t c : ℕ) → t ≤ c → c < t + n → test c ≡ true → test (lowest test n t) ≡ true
  unfolding lowest
  lowest-passes zero t c le lt p = absurd (omega arith)
  lowest-passes (suc n) t c le lt p =
      cond_both (test t) t (lowest test n (suc t)) (λ x. test x ≡ true) (λ e. e)
      (λ e.
      elim (cases_eq t c) [
        | inl q ↦ absurd (both_ways (test t) e (ap test q ∙ p))
        | inr ne ↦ lowest-passes n (suc t) c (omega arith) (omega arith) p
      ])

  pub lowest-least : (n t c : ℕ) → t ≤ c → test c ≡ true → lowest test n t ≤ c
  unfolding lowest
  lowest-least zero t c le p = le
  lowest-least (suc n) t c le p =
      cond_both (test t) t (lowest test n (suc t)) (λ x. x ≤ c) (λ e. le)
      (λ e.
      elim (cases_eq t c) [
        | inl q ↦ absurd (both_ways (test t) e (ap test q ∙ p))
        | inr ne ↦ lowest-least n (suc t) c (omega arith) p
      ])

  pub lowest-from : (n t : ℕ) → t ≤ lowest test n t
  unfolding lowest
  lowest-from zero t = omega arith
  lowest-from (suc n) t =
      cond_both (test t) t (lowest test n (suc t)) (λ x. t ≤ x) (λ e. omega arith) (λ e. omega (arith, lowest-from n (suc t)))

pub lowest-found : LowestFound
lowest-found test size c pos lt p = record {
  some = omega (arith, lowest-from test (size - 1) 1);
  below = omega (arith, lowest-least test (size - 1) 1 c (omega arith) p);
  holds = lowest-passes test (size - 1) 1 c (omega arith) (omega arith) p;
  least = λ k pos p. lowest-least test (size - 1) 1 k (omega arith) p;
}
