-- Horner's rule for any product with x, `up`, that keeps sums: it keeps sums in each factor, the product with x passes
-- through it, and bits past the last one add nothing. Each law goes by induction over the number of bits; two sums of
-- two are then regrouped. Because extra bits add nothing, a number serves as its own count of bits (the laws `whole-`).
use Rattle.std.proofs.Common.{◌≡◌, ℕ, zero, suc, ◌+◌, ◌*◌, ◌/◌, ◌%◌, ◌^◌, ◌<◌, sym, refl, ap, ◌∙◌, ap₂, lt_of_lt_of_le, add_comm, suc-add, pow-suc, zero-add, zero-mul, mul-div_cancel, arith, lit<, pow_pos, pow_mono}
use native.Mathlib.Nat.{mul-mod_left}
use lib.Arith.{lt-one}
use lib.Bits.{bit_xor, xor_shr, xor_mod, xor_lt, xor_zero_r}
use Rattle.gf.specs.Polynomial.{horner}
use Rattle.gf.proofs.Xor.{xor4, bit-sum, sum-bit, Additive, additive-zero, additive-bit, bit-lt, low-lt}

pub lt-pow : (n : ℕ) → n < 2 ^ n
lt-pow zero = lit< tt
lt-pow (suc n) = let h = lt-pow n in let e = pow-suc 2 n in omega arith

module _ (up : ℕ → ℕ) (add : Additive up) where
  pub horner-sum : (k a a' b : ℕ) → horner up k (bit_xor a a') b ≡ bit_xor (horner up k a b) (horner up k a' b)
  unfolding horner
  horner-sum zero a a' b = refl
  horner-sum (suc k) a a' b =
      ap₂ bit_xor (ap up (horner-sum k a a' (b / 2)) ∙ add (horner up k a (b / 2)) (horner up k a' (b / 2))) (bit-sum (b % 2) a a' (low-lt b))
      ∙ xor4 (up (horner up k a (b / 2))) (up (horner up k a' (b / 2))) (b % 2 * a) (b % 2 * a')

  pub horner-over : (k a b b' : ℕ) → horner up k a (bit_xor b b') ≡ bit_xor (horner up k a b) (horner up k a b')
  unfolding horner
  horner-over zero a b b' = refl
  horner-over (suc k) a b b' =
      ap₂ (λ m n. bit_xor (up (horner up k a m)) (n * a)) (xor_shr b b' 1) (xor_mod b b' 1)
      ∙ ap₂ bit_xor (ap up (horner-over k a (b / 2) (b' / 2)) ∙ add (horner up k a (b / 2)) (horner up k a (b' / 2)))
      (sum-bit (b % 2) (b' % 2) a (low-lt b) (low-lt b'))
      ∙ xor4 (up (horner up k a (b / 2))) (up (horner up k a (b' / 2))) (b % 2 * a) (b' % 2 * a)

  -- the product with x passes through the first factor
  pub horner-up : (k a b : ℕ) → horner up k (up a) b ≡ up (horner up k a b)
  unfolding horner
  horner-up zero a b = sym (additive-zero up add)
  horner-up (suc k) a b =
      ap₂ bit_xor (ap up (horner-up k a (b / 2))) (sym (additive-bit up add (b % 2) a (low-lt b)))
      ∙ sym (add (up (horner up k a (b / 2))) (b % 2 * a))

  -- zero on either side
  pub horner-none : (k a : ℕ) → horner up k a 0 ≡ 0
  horner-none k a = additive-zero (horner up k a) (horner-over k a)

  pub horner-nil : (k b : ℕ) → horner up k 0 b ≡ 0
  horner-nil k b = additive-zero (λ a. horner up k a b) (λ x y. horner-sum k x y b)

  -- digits past the last one add nothing
  horner-more : (k a b : ℕ) → b < 2 ^ k → horner up (suc k) a b ≡ horner up k a b
  unfolding horner
  horner-more zero a b h = ap (horner up 1 a) (lt-one h) ∙ horner-none 1 a
  horner-more (suc k) a b h =
      let e = pow-suc 2 k in
      let half : b / 2 < 2 ^ k = omega arith in
      ap (λ n. bit_xor (up n) (b % 2 * a)) (horner-more k a (b / 2) half)

  horner-extra : (j k a b : ℕ) → b < 2 ^ k → horner up (j + k) a b ≡ horner up k a b
  horner-extra zero k a b h = ap (λ n. horner up n a b) (zero-add k)
  horner-extra (suc j) k a b h =
      ap (λ n. horner up n a b) (suc-add j k)
      ∙ horner-more (j + k) a b (lt_of_lt_of_le h (pow_mono (omega arith)))
      ∙ horner-extra j k a b h

  -- below a bound that `up` keeps
  pub horner-lt : (n k a b : ℕ) → ((x : ℕ) → x < 2 ^ n → up x < 2 ^ n) → a < 2 ^ n → horner up k a b < 2 ^ n
  unfolding horner
  horner-lt n zero a b keeps h = pow_pos n
  horner-lt n (suc k) a b keeps h =
      xor_lt n (up (horner up k a (b / 2))) (b % 2 * a) (keeps (horner up k a (b / 2)) (horner-lt n k a (b / 2) keeps h))
      (bit-lt (b % 2) a (2 ^ n) (low-lt b) (pow_pos n) h)

  -- as many digits as b has at most: b itself is enough
  pub horner-whole : (k a b : ℕ) → b < 2 ^ k → horner up b a b ≡ horner up k a b
  horner-whole k a b h =
      sym (horner-extra k b a b (lt-pow b)) ∙ ap (λ n. horner up n a b) (add_comm k b) ∙ horner-extra b k a b h

  pub whole-step : (a b : ℕ) → horner up b a b ≡ bit_xor (up (horner up (b / 2) a (b / 2))) (b % 2 * a)
  unfolding horner
  whole-step a b =
      let l = lt-pow b in
      let h : b / 2 < 2 ^ b = omega arith in
      sym (horner-more b a b l) ∙ ap (λ n. bit_xor (up n) (b % 2 * a)) (sym (horner-whole b a (b / 2) h))

  pub whole-over : (a b c : ℕ) → horner up (bit_xor b c) a (bit_xor b c) ≡ bit_xor (horner up b a b) (horner up c a c)
  whole-over a b c =
      let hb : b < 2 ^ (b + c) = lt_of_lt_of_le (lt-pow b) (pow_mono (omega arith)) in
      let hc : c < 2 ^ (b + c) = lt_of_lt_of_le (lt-pow c) (pow_mono (omega arith)) in
      horner-whole (b + c) a (bit_xor b c) (xor_lt (b + c) b c hb hc)
      ∙ horner-over (b + c) a b c
      ∙ sym (ap₂ bit_xor (horner-whole (b + c) a b hb) (horner-whole (b + c) a c hc))

  -- one place up in the second factor
  pub whole-double : (a b : ℕ) → horner up (b * 2) a (b * 2) ≡ up (horner up b a b)
  whole-double a b =
      whole-step a (b * 2)
      ∙ ap₂ (λ m n. bit_xor (up (horner up m a m)) (n * a)) (mul-div_cancel b (lit< tt)) (mul-mod_left b 2)
      ∙ ap (bit_xor (up (horner up b a b))) (zero-mul a) ∙ xor_zero_r (up (horner up b a b))
