-- The numbers below 2 ^ d, added by bit_xor and multiplied modulo any polynomial p of degree d ≥ 1, are a commutative ring.
-- A number is its half, times x, plus its lowest bit. Along that the factors are exchanged, which gives commutativity;
-- with it the product with x passes through either factor, which gives associativity. All else is Horner's rule.
use Rattle.std.proofs.Common.{◌≡◌, ℕ, zero, suc, ◌+◌, ◌*◌, ◌/◌, ◌%◌, ◌^◌, ◌<◌, ◌≤◌, sym, ap, ◌∙◌, subst, ap₂, le_refl, mod-lt, mod-eq_of_lt, div-lt_iff_lt-mul, one-mul, pow-suc, div-add-mod', le-div_iff_mul-le, zero-add, zero-mul, mul-one as times-one, arith, pow_pos, pow_mono}
use native.Mathlib.Nat.{div-eq_of_lt, zero-div}
use lib.Arith.{lt-one}
use lib.Pow.{pow-lt}
use lib.Bits.{bit_xor, xor_shr, xor_mod, xor_zero_r, xor_shifted, xor_self}
use Rattle.gf.specs.Polynomial.{horner, xtime, mul, Degree}
use Rattle.gf.proofs.Xor.{xor4, xor-double, sum-bit, Additive, additive-bit, low-lt}
use Rattle.gf.proofs.Horner.{horner-sum, horner-over, horner-up, horner-none, horner-nil, horner-lt}

pub xtime-sum : (d p : ℕ) → Additive (xtime d p)
unfolding xtime
xtime-sum d p x y =
    ap (λ n. bit_xor n (n / 2 ^ d % 2 * p)) (xor-double x y)
    ∙ ap (λ n. bit_xor (bit_xor (x * 2) (y * 2)) (n * p)) (ap (λ n. n % 2) (xor_shr (x * 2) (y * 2) d) ∙ xor_mod (x * 2 / 2 ^ d) (y * 2 / 2 ^ d) 1)
    ∙ ap (bit_xor (bit_xor (x * 2) (y * 2))) (sum-bit (x * 2 / 2 ^ d % 2) (y * 2 / 2 ^ d % 2) p (low-lt (x * 2 / 2 ^ d)) (low-lt (y * 2 / 2 ^ d)))
    ∙ xor4 (x * 2) (y * 2) (x * 2 / 2 ^ d % 2 * p) (y * 2 / 2 ^ d % 2 * p)

-- with room for one more bit, the product with x is one place up
xtime-low : (d p x : ℕ) → x * 2 < 2 ^ d → xtime d p x ≡ x * 2
unfolding xtime
xtime-low d p x h =
    ap (λ n. bit_xor (x * 2) (n % 2 * p)) (div-eq_of_lt h) ∙ ap (bit_xor (x * 2)) (zero-mul p) ∙ xor_zero_r (x * 2)

-- a number below 2 ^ (d + 1) whose bit d is off is below 2 ^ d
pub xor-top : (d x y : ℕ) → x / 2 ^ d ≡ y / 2 ^ d → bit_xor x y < 2 ^ d
xor-top d x y e =
    div-zero-lt (bit_xor x y) (xor_shr x y d ∙ ap (λ n. bit_xor n (y / 2 ^ d)) e ∙ xor_self (y / 2 ^ d))
  where
    div-zero-lt : (n : ℕ) → n / 2 ^ d ≡ 0 → n < 2 ^ d
    div-zero-lt n z = let s = div-add-mod' n (2 ^ d) in let m = mod-lt n (pow_pos d) in
        subst (λ k. k < 2 ^ d) (ap (λ k. k + n % 2 ^ d) (sym (ap (λ k. k * 2 ^ d) z ∙ zero-mul (2 ^ d))) ∙ s) (subst (λ k. k < 2 ^ d) (sym (zero-add (n % 2 ^ d))) m)

-- a number between 2 ^ d and 2 ^ (d + 1)
module _ (d p : ℕ) (low : 2 ^ d ≤ p) (high : p < 2 ^ suc d) where
  top_bit : (x : ℕ) → x < 2 ^ suc d → x / 2 ^ d < 2
  top_bit x h = (div-lt_iff_lt-mul (pow_pos d)).1 (let e = pow-suc 2 d in omega arith)

  pub top-p : p / 2 ^ d ≡ 1
  top-p =
      let l : 1 ≤ p / 2 ^ d = (le-div_iff_mul-le (pow_pos d)).1 (rw one-mul low) in
      let h = top_bit p high in
      omega arith

  top-off : (t : ℕ) → t < 2 → t ≡ t % 2 * p / 2 ^ d
  top-off zero h = sym (ap (λ n. n / 2 ^ d) (zero-mul p) ∙ zero-div (2 ^ d))
  top-off (suc zero) h = sym (ap (λ n. n / 2 ^ d) (one-mul p) ∙ top-p)
  top-off (suc (suc t)) h = absurd (omega arith)

  -- taken off where bit d is on, it leaves a number below 2 ^ d
  pub off-lt : (x : ℕ) → x < 2 ^ suc d → bit_xor x (x / 2 ^ d % 2 * p) < 2 ^ d
  off-lt x h = xor-top d x (x / 2 ^ d % 2 * p) (top-off (x / 2 ^ d) (top_bit x h))

module _ (d p : ℕ) (deg : Degree d p) where
  pub xtime-lt : (x : ℕ) → x < 2 ^ d → xtime d p x < 2 ^ d
  unfolding xtime
  xtime-lt x h = off-lt d p deg.low deg.high (x * 2) (let e = pow-suc 2 d in omega arith)

  halves : (k b : ℕ) → suc k ≤ d → b < 2 ^ suc k → (b / 2 < 2 ^ k) × (b / 2 * 2 < 2 ^ d)
  halves k b le h =
      let e = pow-suc 2 k in let m = pow_mono le in let s = div-add-mod' b 2 in
      (omega arith, omega arith)

  -- a number is its half one place up, and its lowest bit
  split : (k b : ℕ) → suc k ≤ d → b < 2 ^ suc k → bit_xor (xtime d p (b / 2)) (b % 2 * 1) ≡ b
  split k b le h =
      ap₂ bit_xor (xtime-low d p (b / 2) (halves k b le h).1) (times-one (b % 2))
      ∙ xor_shifted (b / 2) 1 (b % 2) (low-lt b) ∙ div-add-mod' b 2

  pub horner-one : (k b : ℕ) → k ≤ d → b < 2 ^ k → horner (xtime d p) k 1 b ≡ b
  unfolding horner
  horner-one zero b le h = sym (lt-one h)
  horner-one (suc k) b le h =
      ap (λ n. bit_xor (xtime d p n) (b % 2 * 1)) (horner-one k (b / 2) (omega arith) (halves k b le h).0) ∙ split k b le h

  swap : (k a b : ℕ) → k ≤ d → a < 2 ^ k → b < 2 ^ d → horner (xtime d p) d a b ≡ horner (xtime d p) k b a
  unfolding horner
  swap zero a b le h hb = ap (λ n. horner (xtime d p) d n b) (lt-one h) ∙ horner-nil (xtime d p) (xtime-sum d p) d b
  swap (suc k) a b le h hb =
      ap (λ n. horner (xtime d p) d n b) (sym (split k a le h))
      ∙ horner-sum (xtime d p) (xtime-sum d p) d (xtime d p (a / 2)) (a % 2 * 1) b
      ∙ ap₂ bit_xor
      (horner-up (xtime d p) (xtime-sum d p) d (a / 2) b ∙ ap (xtime d p) (swap k (a / 2) b (omega arith) (halves k a le h).0 hb))
      (additive-bit (λ n. horner (xtime d p) d n b) (λ x y. horner-sum (xtime d p) (xtime-sum d p) d x y b) (a % 2) 1 (low-lt a)
      ∙ ap (λ n. a % 2 * n) (horner-one d b (le_refl d) hb))

  horner-comm : (a b : ℕ) → a < 2 ^ d → b < 2 ^ d → horner (xtime d p) d a b ≡ horner (xtime d p) d b a
  horner-comm a b ha hb = swap d a b (le_refl d) ha hb

  pub horner-below : (k a b : ℕ) → a < 2 ^ d → horner (xtime d p) k a b < 2 ^ d
  horner-below k a b h = horner-lt (xtime d p) (xtime-sum d p) d k a b xtime-lt h

  -- the product with x passes through the second factor too
  horner-right : (a y : ℕ) → a < 2 ^ d → y < 2 ^ d → horner (xtime d p) d a (xtime d p y) ≡ xtime d p (horner (xtime d p) d a y)
  horner-right a y ha hy =
      horner-comm a (xtime d p y) ha (xtime-lt y hy) ∙ horner-up (xtime d p) (xtime-sum d p) d y a ∙ ap (xtime d p) (horner-comm y a hy ha)

  horner-assoc : (k a b c : ℕ) → a < 2 ^ d → b < 2 ^ d
      → horner (xtime d p) d a (horner (xtime d p) k b c) ≡ horner (xtime d p) k (horner (xtime d p) d a b) c
  unfolding horner
  horner-assoc zero a b c ha hb = horner-none (xtime d p) (xtime-sum d p) d a
  horner-assoc (suc k) a b c ha hb =
      horner-over (xtime d p) (xtime-sum d p) d a (xtime d p (horner (xtime d p) k b (c / 2))) (c % 2 * b)
      ∙ ap₂ bit_xor
      (horner-right a (horner (xtime d p) k b (c / 2)) ha (horner-below k b (c / 2) hb) ∙ ap (xtime d p) (horner-assoc k a b (c / 2) ha hb))
      (additive-bit (horner (xtime d p) d a) (horner-over (xtime d p) (xtime-sum d p) d a) (c % 2) b (low-lt c))

  cut : (a : ℕ) → a % 2 ^ d < 2 ^ d
  cut a = mod-lt a (pow_pos d)

  pub one-lt : 1 < 2 ^ d
  one-lt = pow-lt deg.some

  pub mul-below : (a b : ℕ) → mul d p a b < 2 ^ d
  unfolding mul
  mul-below a b = horner-below d (a % 2 ^ d) (b % 2 ^ d) (cut a)

  pub mul_comm : (a b : ℕ) → mul d p a b ≡ mul d p b a
  unfolding mul
  mul_comm a b = horner-comm (a % 2 ^ d) (b % 2 ^ d) (cut a) (cut b)

  pub mul_assoc : (a b c : ℕ) → mul d p (mul d p a b) c ≡ mul d p a (mul d p b c)
  unfolding mul
  mul_assoc a b c =
      ap (λ n. horner (xtime d p) d n (c % 2 ^ d)) (mod-eq_of_lt (mul-below a b))
      ∙ sym (horner-assoc d (a % 2 ^ d) (b % 2 ^ d) (c % 2 ^ d) (cut a) (cut b))
      ∙ ap (horner (xtime d p) d (a % 2 ^ d)) (sym (mod-eq_of_lt (mul-below b c)))

  pub mul-sum : (a b c : ℕ) → mul d p a (bit_xor b c) ≡ bit_xor (mul d p a b) (mul d p a c)
  unfolding mul
  mul-sum a b c =
      ap (horner (xtime d p) d (a % 2 ^ d)) (xor_mod b c d) ∙ horner-over (xtime d p) (xtime-sum d p) d (a % 2 ^ d) (b % 2 ^ d) (c % 2 ^ d)

  pub mul-one : (a : ℕ) → a < 2 ^ d → mul d p 1 a ≡ a
  unfolding mul
  mul-one a h =
      ap₂ (horner (xtime d p) d) (mod-eq_of_lt one-lt) (mod-eq_of_lt h) ∙ horner-one d a (le_refl d) h

  -- where nothing is cut
  pub mul-horner : (a b : ℕ) → a < 2 ^ d → b < 2 ^ d → mul d p a b ≡ horner (xtime d p) d a b
  unfolding mul
  mul-horner a b ha hb = ap₂ (horner (xtime d p) d) (mod-eq_of_lt ha) (mod-eq_of_lt hb)

  -- the product with x is that with 2, which is x where there is room for it
  pub mul-two : 1 < d → (a : ℕ) → a < 2 ^ d → mul d p 2 a ≡ xtime d p a
  mul-two more a h =
      let room : 2 < 2 ^ d = pow-lt more in
      mul-horner 2 a room h
      ∙ ap (λ n. horner (xtime d p) d n a) (sym (xtime-low d p 1 room))
      ∙ horner-up (xtime d p) (xtime-sum d p) d 1 a
      ∙ ap (xtime d p) (horner-one d a (le_refl d) h)
