-- What a polynomial is modulo p, and that `mul` is the remainder of the product.
-- `residue n` sums the powers of x over the bits of n, each taken modulo p. It keeps sums and products, leaves what is
-- below degree d as it is, and is 0 at p. Bit by bit it differs from n by a multiple of p, so it is the remainder; no
-- other number below degree d differs from n by such a multiple.
use Rattle.std.proofs.Common.{◌≡◌, ℕ, suc, ◌-◌, ◌*◌, ◌/◌, ◌%◌, ◌^◌, ◌<◌, sym, ap, ◌∙◌, subst, ap₂, one-mul, pow-suc, mul-one as times-one, arith, pow_pos}
use native.Mathlib.Nat.{div_self}
use lib.Arith.{bin_ind}
use lib.Bits.{bit_xor, xor_lt, xor_zero_r, xor_self, xor_assoc, xor_comm}
use Rattle.gf.specs.Polynomial.{horner, xtime, mul, product, Degree, Remainder, MulIsRemainder}
use Rattle.gf.proofs.Xor.{xor-back, xor-double, xor-zero-eq, xor4, additive-bit, additive-zero, low-lt}
use Rattle.gf.proofs.Horner.{horner-none, horner-whole, whole-step, whole-over, whole-double}
use Rattle.gf.proofs.Ring.{xtime-sum, xor-top, horner-one, horner-below, one-lt, mul-horner, top-p}
use Rattle.gf.proofs.Product.{split, product-step, product-none, product-one, product-over, product-right, product_small}

module _ (d p : ℕ) (deg : Degree d p) where
  residue : ℕ → ℕ
  residue n = horner (xtime d p) n 1 n

  residue-low : (n : ℕ) → n < 2 ^ d → residue n ≡ n
  unfolding residue
  residue-low n h = horner-whole (xtime d p) (xtime-sum d p) d 1 n h ∙ horner-one d p deg d n (omega arith) h

  residue-sum : (a b : ℕ) → residue (bit_xor a b) ≡ bit_xor (residue a) (residue b)
  unfolding residue
  residue-sum a b = whole-over (xtime d p) (xtime-sum d p) 1 a b

  residue-double : (n : ℕ) → residue (n * 2) ≡ xtime d p (residue n)
  unfolding residue
  residue-double n = whole-double (xtime d p) (xtime-sum d p) 1 n

  residue-product : (a b : ℕ) → residue (product a b) ≡ horner (xtime d p) b (residue a) b
  residue-product a =
      bin_ind (λ b. residue (product a b) ≡ horner (xtime d p) b (residue a) b)
      (ap residue (product-none a) ∙ additive-zero residue residue-sum ∙ sym (horner-none (xtime d p) (xtime-sum d p) 0 (residue a)))
      (λ b ih. ap residue (product-step a b)
      ∙ residue-sum (product a (b / 2) * 2) (b % 2 * a)
      ∙ ap₂ bit_xor (residue-double (product a (b / 2)) ∙ ap (xtime d p) ih) (additive-bit residue residue-sum (b % 2) a (low-lt b))
      ∙ sym (whole-step (xtime d p) (xtime-sum d p) (residue a) b))

  xtime-top : (x : ℕ) → x * 2 ≡ 2 ^ d → xtime d p x ≡ bit_xor (2 ^ d) p
  unfolding xtime
  xtime-top x e =
      ap (λ n. bit_xor n (n / 2 ^ d % 2 * p)) e
      ∙ ap (λ n. bit_xor (2 ^ d) (n % 2 * p)) (div_self (pow_pos d))
      ∙ ap (bit_xor (2 ^ d)) (one-mul p)

  residue-p : residue p ≡ 0
  residue-p =
      let half : 2 ^ (d - 1) * 2 ≡ 2 ^ d = sym (pow-suc 2 (d - 1)) ∙ ap (λ n. 2 ^ n) (let o = deg.some in let e : suc (d - 1) ≡ d = omega arith in e) in
      let one : 2 ^ (d - 1) < 2 ^ d = let o = pow_pos (d - 1) in omega arith in
      let low : bit_xor p (2 ^ d) < 2 ^ d = xor-top d p (2 ^ d) (top-p d p deg.low deg.high ∙ sym (top-p d (2 ^ d) (omega arith) (let e = pow-suc 2 d in let o = pow_pos d in omega arith))) in
      let top : residue (2 ^ d) ≡ bit_xor (2 ^ d) p =
      ap residue (sym half) ∙ residue-double (2 ^ (d - 1)) ∙ ap (xtime d p) (residue-low (2 ^ (d - 1)) one) ∙ xtime-top (2 ^ (d - 1)) half in
      ap residue (sym (xor-back (2 ^ d) p) ∙ ap (bit_xor (2 ^ d)) (xor_comm (2 ^ d) p))
      ∙ residue-sum (2 ^ d) (bit_xor p (2 ^ d))
      ∙ ap₂ bit_xor top (residue-low (bit_xor p (2 ^ d)) low ∙ xor_comm p (2 ^ d))
      ∙ xor_self (bit_xor (2 ^ d) p)

  mul-residue : (a b : ℕ) → a < 2 ^ d → b < 2 ^ d → mul d p a b ≡ residue (product a b)
  mul-residue a b ha hb =
      mul-horner d p deg a b ha hb
      ∙ sym (horner-whole (xtime d p) (xtime-sum d p) d a b hb)
      ∙ ap (λ n. horner (xtime d p) b n b) (sym (residue-low a ha))
      ∙ sym (residue-product a b)

  -- the product with a quotient of p by a is the remainder
  pub quotient : (a q r : ℕ) → a < 2 ^ d → q < 2 ^ d → r < 2 ^ d → bit_xor (product a q) p ≡ r → mul d p a q ≡ r
  quotient a q r ha hq hr e =
      mul-residue a q ha hq
      ∙ sym (xor_zero_r (residue (product a q)))
      ∙ ap (bit_xor (residue (product a q))) (sym residue-p)
      ∙ sym (residue-sum (product a q) p)
      ∙ ap residue e
      ∙ residue-low r hr

  -- ---- the remainder

  residue-below : (n : ℕ) → residue n < 2 ^ d
  unfolding residue
  residue-below n = horner-below d p deg n 1 n (one-lt d p deg)

  residue-step : (n : ℕ) → residue n ≡ bit_xor (xtime d p (residue (n / 2))) (n % 2 * 1)
  unfolding residue
  residue-step n = whole-step (xtime d p) (xtime-sum d p) 1 n

  -- the product with x is one place up, less a multiple of p
  up : (r : ℕ) → r * 2 ≡ bit_xor (product p (r * 2 / 2 ^ d % 2)) (xtime d p r)
  unfolding xtime
  up r =
      let bit = r * 2 / 2 ^ d % 2 in
      let multiple : product p bit ≡ bit * p =
      ap (product p) (sym (times-one bit)) ∙ additive-bit (product p) (product-over p) bit 1 (low-lt (r * 2 / 2 ^ d)) ∙ ap (λ n. bit * n) (product-one p) in
      sym (ap₂ bit_xor multiple (xor_comm (r * 2) (bit * p)) ∙ xor-back (bit * p) (r * 2))

  residue-remainder : (n : ℕ) → Remainder d p n (residue n)
  residue-remainder =
      bin_ind (λ n. Remainder d p n (residue n))
      (record {
        quotient = 0;
        whole = sym (ap₂ bit_xor (product-none p) (additive-zero residue residue-sum));
        below = residue-below 0;
      })
      (λ n half. let r = residue (n / 2) in let bit = r * 2 / 2 ^ d % 2 in let q = half.quotient in record {
        quotient = bit_xor (q * 2) bit;
        whole =
            sym (split n)
            ∙ ap (λ m. bit_xor m (n % 2 * 1))
            (ap (λ m. m * 2) half.whole
            ∙ xor-double (product p q) r
            ∙ ap₂ bit_xor (sym (product-right p q)) (up r)
            ∙ sym (xor_assoc (product p (q * 2)) (product p bit) (xtime d p r))
            ∙ ap (λ m. bit_xor m (xtime d p r)) (sym (product-over p (q * 2) bit)))
            ∙ xor_assoc (product p (bit_xor (q * 2) bit)) (xtime d p r) (n % 2 * 1)
            ∙ ap (bit_xor (product p (bit_xor (q * 2) bit))) (sym (residue-step n));
        below = residue-below n;
      })

  only-remainder : (n r s : ℕ) → Remainder d p n r → Remainder d p n s → r ≡ s
  only-remainder n r s x y =
      let q = bit_xor x.quotient y.quotient in
      let same : bit_xor (product p q) (bit_xor r s) ≡ 0 =
      ap (λ m. bit_xor m (bit_xor r s)) (product-over p x.quotient y.quotient)
      ∙ xor4 (product p x.quotient) (product p y.quotient) r s
      ∙ ap₂ bit_xor (sym x.whole) (sym y.whole)
      ∙ xor_self n in
      let e = xor-zero-eq (product p q) (bit_xor r s) same in
      let small : product p q < 2 ^ d = rw e (xor_lt d r s x.below y.below) in
      let none = product_small d p q (record { low = deg.low; high = deg.high }) small in
      xor-zero-eq r s (sym e ∙ ap (product p) none ∙ product-none p)

  pub mul-remainder : MulIsRemainder d p
  mul-remainder a b ha hb =
      let is : Remainder d p (product a b) (mul d p a b) =
      subst (Remainder d p (product a b)) (sym (mul-residue a b ha hb)) (residue-remainder (product a b)) in
      (is, λ r other. only-remainder (product a b) r (mul d p a b) other is)
