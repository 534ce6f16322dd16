-- Modulo a polynomial p with no factors every number but 0 has an inverse.
-- Divide p by a: the remainder r is below a, is not 0, and is the product of a with the quotient, modulo p. So an
-- inverse of r, times the quotient, is one of a; and the remainders fall until they are 1.
use Rattle.std.proofs.Common.{◌≡◌, ℕ, zero, suc, ◌+◌, ◌-◌, ◌^◌, ◌<◌, ◌≤◌, sym, ap, ◌∙◌, inl, inr, arith, pow_mono}
use native.Mathlib.Decide.{dec_lt}
use lib.Bits.{bit_xor}
use Rattle.gf.specs.Polynomial.{mul, product, Degree, NoFactors}
use Rattle.gf.proofs.Xor.{xor-zero-eq}
use Rattle.gf.proofs.Ring.{one-lt, mul-below, mul_assoc, mul-one}
use Rattle.gf.proofs.Product.{product-one, Top, degree}
use Rattle.gf.proofs.Division.{remainder, remainder-lt, divide}
use Rattle.gf.proofs.Modulo.{quotient}

module _ (d p : ℕ) (deg : Degree d p) where
  -- the remainder of p is not 0
  remainder-some : NoFactors p → (a q r : ℕ) → 1 < a → a < 2 ^ d → bit_xor (product a q) p ≡ r → 0 < r
  remainder-some none a q zero more h e =
      elim (none a q (xor-zero-eq (product a q) p e)) [
        | inl one ↦ absurd (omega arith)
        | inr one ↦ absurd (let same : a ≡ p = sym (product-one a) ∙ ap (product a) (sym one) ∙ xor-zero-eq (product a q) p e in omega (arith, deg.low))
      ]
  remainder-some none a q (suc r) more h e = omega arith

  -- from the inverse of each smaller number
  lower : NoFactors p → (a : ℕ) → 0 < a → a < 2 ^ d → ((r : ℕ) → r < a → 0 < r → (u : ℕ) × (u < 2 ^ d) × (mul d p r u ≡ 1)) → (u : ℕ) × (u < 2 ^ d) × (mul d p a u ≡ 1)
  lower none a pos h below = by-degree (degree a pos)
    where
      by-remainder : (j : ℕ) → Top (suc j) a → suc j ≤ d → (q r : ℕ) → q < 2 ^ (d - j) → r < 2 ^ suc j → bit_xor (product a q) p ≡ r → (u : ℕ) × (u < 2 ^ d) × (mul d p a u ≡ 1)
      by-remainder j t le q zero hq hr e =
          let big : 2 ≤ 2 ^ suc j = pow_mono {i = 1} (omega arith) in
          absurd (let pos' = remainder-some none a q zero (omega (arith, t.low)) h e in omega arith)
      by-remainder j t le q (suc r) hq hr e =
          let m : 2 ^ (d - j) ≤ 2 ^ d = pow_mono (omega arith) in
          let ih = below (suc r) (omega (arith, t.low)) (omega arith) in (
            mul d p q ih.0,
            mul-below d p deg q ih.0,
            sym (mul_assoc d p deg a q ih.0)
                ∙ ap (λ x. mul d p x ih.0) (quotient d p deg a q (suc r) h (omega arith) (omega (arith, t.low)) e)
                ∙ ih.2,
          )

      degree-lt : (j : ℕ) → Top j a → j < d
      degree-lt j t = elim (dec_lt j d) [ yes l ↦ l | no n ↦ absurd (let m : 2 ^ d ≤ 2 ^ j = pow_mono (omega arith) in omega (arith, t.low)) ]

      by_cases : (j : ℕ) → Top j a → j < d → (u : ℕ) × (u < 2 ^ d) × (mul d p a u ≡ 1)
      by_cases zero t l =
          let one : a ≡ 1 = omega (arith, t.low, t.high) in
          (1, one-lt d p deg, ap (λ x. mul d p x 1) one ∙ mul-one d p deg 1 (one-lt d p deg))
      by_cases (suc j) t l =
          let r = divide (suc j) a t (d - j) p in
          let size : suc j + (d - j) ≡ suc d = omega arith in
          let bound : p < 2 ^ (suc j + (d - j)) = rw size deg.high in
          by-remainder j t (omega arith) r.0 (remainder (suc j) (d - j) a p) r.1 (remainder-lt (suc j) a t (d - j) p bound) r.2

      by-degree : (j : ℕ) × Top j a → (u : ℕ) × (u < 2 ^ d) × (mul d p a u ≡ 1)
      by-degree r = by_cases r.0 r.1 (degree-lt r.0 r.1)

  counted : NoFactors p → (n a : ℕ) → a < n → 0 < a → a < 2 ^ d → (u : ℕ) × (u < 2 ^ d) × (mul d p a u ≡ 1)
  counted none zero a lt pos h = absurd (omega arith)
  counted none (suc n) a lt pos h = lower none a pos h (λ r less pos'. counted none n r (omega arith) pos' (omega arith))

  pub inverse : NoFactors p → (a : ℕ) → 0 < a → a < 2 ^ d → (u : ℕ) × (u < 2 ^ d) × (mul d p a u ≡ 1)
  inverse none a pos h = counted none (suc a) a (omega arith) pos h
