-- A polynomial that no polynomial of a degree from 1 to half its own divides has no factors.
-- Of two factors one is of at most half the degree. Division by it leaves nothing, so that a trial of every polynomial
-- of such a degree, with one division each, would have found it.
use Rattle.std.proofs.Common.{◌≡◌, ℕ, zero, suc, ◌+◌, ◌-◌, ◌^◌, ◌<◌, ◌≤◌, Bool, true, not, eqb, ◌⊎◌, sym, ◌∙◌, ap₂, inl, inr, pow-suc, arith, pow_pos, pow_mono}
use native.Mathlib.Decide.{dec_lt}
use Rattle.std.proofs.lemmas.Bool.{eq-eqb, not-true, both_ways}
use Rattle.gf.specs.Polynomial.{product, Degree, NoFactors}
use Rattle.gf.proofs.Tests.{below, below_at}
use Rattle.gf.proofs.Product.{product-none, product-nil, product-comm, product_high, Top, degree}
use Rattle.gf.proofs.Division.{remainder, divides}

-- division of p by the polynomial of degree j with the lower bits m leaves something
unfoldable pub left : (d p j m : ℕ) → Bool
left d p j m = not (eqb (remainder j (suc d - j) (2 ^ j + m) p) 0)

-- no polynomial of a degree from 1 to h divides p
unfoldable pub tried : (d p h : ℕ) → Bool
tried d p h = below h (λ i. below (2 ^ suc i) (left d p (suc i)))

module _ (d p : ℕ) (deg : Degree d p) where
  -- a factor of a degree from 1 to h fails the trial
  caught : (h : ℕ) → tried d p h ≡ true → (i a b : ℕ) → Top (suc i) a → i < h → i ≤ d → product a b ≡ p → ⊥
  unfolding tried left
  caught h t i a b top lt le e =
      let m = a - 2 ^ suc i in
      let s = pow-suc 2 (suc i) in
      let is : a ≡ 2 ^ suc i + m = omega (arith, top.low) in
      let small : m < 2 ^ suc i = omega (arith, top.low, top.high) in
      let test = below_at (2 ^ suc i) (left d p (suc i)) (below_at h (λ i. below (2 ^ suc i) (left d p (suc i))) t i lt) m small in
      let size : suc i + (suc d - suc i) ≡ suc d = omega arith in
      let bound : product a b < 2 ^ (suc i + (suc d - suc i)) = rw (size, e) deg.high in
      let none : remainder (suc i) (suc d - suc i) (2 ^ suc i + m) p ≡ 0 =
      ap₂ (λ x y. remainder (suc i) (suc d - suc i) x y) (sym is) (sym e) ∙ divides (suc i) a top (suc d - suc i) b bound in
      both_ways (eqb (remainder (suc i) (suc d - suc i) (2 ^ suc i + m) p) 0)
      (not-true (eqb (remainder (suc i) (suc d - suc i) (2 ^ suc i + m) p) 0) test)
      (eq-eqb (remainder (suc i) (suc d - suc i) (2 ^ suc i + m) p) 0 none)

  pub no-factors : (h : ℕ) → d ≤ h + h + 1 → tried d p h ≡ true → NoFactors p
  no-factors h half t zero b e = absurd (let z = product-nil b in let l = deg.low in let o = pow_pos d in omega arith)
  no-factors h half t (suc a) zero e = absurd (let z = product-none (suc a) in let l = deg.low in let o = pow_pos d in omega arith)
  no-factors h half t (suc a) (suc b) e = by (degree (suc a) (omega arith)) (degree (suc b) (omega arith))
    where
      sum-le : (i j : ℕ) → Top i (suc a) → Top j (suc b) → i + j < suc d
      sum-le i j ta tb =
          elim (dec_lt (i + j) (suc d)) [
            | yes l ↦ l
            | no n ↦ absurd (let high = product_high i j (suc a) (suc b) ta tb in
                let m : 2 ^ suc d ≤ 2 ^ (i + j) = pow_mono (omega arith) in let hp = deg.high in omega arith)
          ]

      by : (i : ℕ) × Top i (suc a) → (j : ℕ) × Top j (suc b) → (suc a ≡ 1) ⊎ (suc b ≡ 1)
      by r s = cases r.0 s.0 r.1 s.1
        where
          cases : (i j : ℕ) → Top i (suc a) → Top j (suc b) → (suc a ≡ 1) ⊎ (suc b ≡ 1)
          cases zero j ta tb = inl (omega (arith, ta.low, ta.high))
          cases (suc i) zero ta tb = inr (omega (arith, tb.low, tb.high))
          cases (suc i) (suc j) ta tb =
              let l = sum-le (suc i) (suc j) ta tb in
              elim (dec_lt i h) [
                | yes li ↦ absurd (caught h t i (suc a) (suc b) ta li (omega arith) e)
                | no ni ↦ absurd (caught h t j (suc b) (suc a) tb (omega arith) (omega arith) (product-comm (suc b) (suc a) ∙ e))
              ]
