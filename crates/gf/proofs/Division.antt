-- Division of polynomials by one of degree j, as long division does it: at each place from the top down, the divisor
-- is taken off where its top bit meets a bit that is 1. What is left is below 2 ^ j and differs from the dividend by
-- a multiple of the divisor; of a multiple nothing is left, since no multiple but 0 is of a lower degree.
use Rattle.std.proofs.Common.{◌≡◌, ℕ, zero, suc, ◌+◌, ◌*◌, ◌/◌, ◌%◌, ◌^◌, ◌<◌, ◌≤◌, sym, ap, ◌∙◌, add-zero, add-suc, mul-le-mul_right, suc-add, mul-lt-mul_of_pos_right, pow-suc, arith, lit<, pow_pos, pow-add}
use lib.Bits.{bit_xor, xor_lt, xor_assoc, xor_comm}
use Rattle.gf.specs.Polynomial.{product}
use Rattle.gf.proofs.Xor.{additive-bit, bit-lt, low-lt}
use Rattle.gf.proofs.Product.{Top, product-none, product-over, product-pow, product_small}
use Rattle.gf.proofs.Ring.{off-lt}

-- What is left of s when a, of degree j, is taken off from place k down to place 0, for an s below 2 ^ (j + k).
unfoldable pub remainder : (j k a s : ℕ) → ℕ
remainder j zero a s = s
remainder j (suc k) a s = remainder j k a (bit_xor s (s / 2 ^ (j + k) % 2 * (a * 2 ^ k)))

module _ (j a : ℕ) (t : Top j a) where
  shift-low : (k : ℕ) → 2 ^ (j + k) ≤ a * 2 ^ k
  shift-low k = rw pow-add (mul-le-mul_right (2 ^ k) t.low)

  shift-high : (k : ℕ) → a * 2 ^ k < 2 ^ suc (j + k)
  shift-high k =
      let e : 2 ^ suc (j + k) ≡ 2 ^ suc j * 2 ^ k = ap (λ n. 2 ^ n) (sym (suc-add j k)) ∙ pow-add 2 (suc j) k in
      rw e (mul-lt-mul_of_pos_right t.high (pow_pos k))

  pub remainder-lt : (k s : ℕ) → s < 2 ^ (j + k) → remainder j k a s < 2 ^ j
  unfolding remainder
  remainder-lt zero s h = rw add-zero at h
  remainder-lt (suc k) s h =
      remainder-lt k (bit_xor s (s / 2 ^ (j + k) % 2 * (a * 2 ^ k))) (off-lt (j + k) (a * 2 ^ k) (shift-low k) (shift-high k) s (rw add-suc at h))

  -- the remainder differs from s by a multiple of a
  pub divide : (k s : ℕ) → (q : ℕ) × (q < 2 ^ k) × (bit_xor (product a q) s ≡ remainder j k a s)
  unfolding remainder
  divide zero s = (0, lit< tt, ap (λ n. bit_xor n s) (product-none a))
  divide (suc k) s =
      let b = s / 2 ^ (j + k) % 2 in
      let lb : b < 2 = low-lt (s / 2 ^ (j + k)) in
      let r = divide k (bit_xor s (b * (a * 2 ^ k))) in
      let e = pow-suc 2 k in
      let hq : r.0 < 2 ^ suc k = omega (arith, r.1) in
      let hb : b * 2 ^ k < 2 ^ suc k = bit-lt b (2 ^ k) (2 ^ suc k) lb (pow_pos (suc k)) (omega (arith, pow_pos k)) in (
        bit_xor r.0 (b * 2 ^ k),
        xor_lt (suc k) r.0 (b * 2 ^ k) hq hb,
        ap (λ n. bit_xor n s) (product-over a r.0 (b * 2 ^ k)
            ∙ ap (bit_xor (product a r.0)) (additive-bit (product a) (product-over a) b (2 ^ k) lb ∙ ap (λ n. b * n) (product-pow k a)))
            ∙ xor_assoc (product a r.0) (b * (a * 2 ^ k)) s
            ∙ ap (bit_xor (product a r.0)) (xor_comm (b * (a * 2 ^ k)) s)
            ∙ r.2,
      )

  -- what a divides leaves nothing
  pub divides : (k b : ℕ) → product a b < 2 ^ (j + k) → remainder j k a (product a b) ≡ 0
  divides k b h =
      let r = divide k (product a b) in
      let e : product a (bit_xor r.0 b) ≡ remainder j k a (product a b) = product-over a r.0 b ∙ r.2 in
      let z = product_small j a (bit_xor r.0 b) t (rw e (remainder-lt k (product a b) h)) in
      sym e ∙ ap (product a) z ∙ product-none a
