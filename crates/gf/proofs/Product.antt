-- Products of polynomials, with nothing taken off: the laws, and degrees.
-- Each law of the product is one of Horner's rule with doubling for the product with x. Commutativity and the unit
-- go by induction over the bits of one factor. The degree of a product is the sum of the degrees, since the top bit
-- of the product is that of one factor, shifted by the degree of the other.
use Rattle.std.proofs.Common.{◌≡◌, ℕ, zero, suc, ◌+◌, ◌*◌, ◌/◌, ◌%◌, ◌^◌, ◌<◌, ◌≤◌, sym, refl, ap, ◌∙◌, ap₂, add-zero, add-suc, mul_assoc, one-mul, pow-suc, div-add-mod', le-div_iff_mul-le, mul-one, arith, pow_pos, pow_mono}
use native.Mathlib.Nat.{div-eq_of_lt}
use lib.Arith.{bin_ind}
use lib.Bits.{bit_xor, xor_shr, xor_zero_r, xor_shifted}
use Rattle.std.proofs.lemmas.Nat.{leading_top}
use Rattle.gf.specs.Polynomial.{product}
use Rattle.gf.proofs.Xor.{xor-double, additive-bit, additive-zero, bit-lt, low-lt}
use Rattle.gf.proofs.Horner.{lt-pow, horner-sum, horner-up, whole-step, whole-over, whole-double}

pub product-step : (a b : ℕ) → product a b ≡ bit_xor (product a (b / 2) * 2) (b % 2 * a)
unfolding product
product-step a b = whole-step (λ n. n * 2) xor-double a b

pub product-over : (a b c : ℕ) → product a (bit_xor b c) ≡ bit_xor (product a b) (product a c)
unfolding product
product-over a b c = whole-over (λ n. n * 2) xor-double a b c

product-sum : (a c b : ℕ) → product (bit_xor a c) b ≡ bit_xor (product a b) (product c b)
unfolding product
product-sum a c b = horner-sum (λ n. n * 2) xor-double b a c b

product-double : (a b : ℕ) → product (a * 2) b ≡ product a b * 2
unfolding product
product-double a b = horner-up (λ n. n * 2) xor-double b a b

pub product-right : (a b : ℕ) → product a (b * 2) ≡ product a b * 2
unfolding product
product-right a b = whole-double (λ n. n * 2) xor-double a b

pub product-none : (a : ℕ) → product a 0 ≡ 0
product-none a = additive-zero (product a) (product-over a)

pub product-nil : (b : ℕ) → product 0 b ≡ 0
product-nil b = additive-zero (λ a. product a b) (λ x y. product-sum x y b)

pub split : (b : ℕ) → bit_xor (b / 2 * 2) (b % 2 * 1) ≡ b
split b = ap (bit_xor (b / 2 * 2)) (mul-one (b % 2)) ∙ xor_shifted (b / 2) 1 (b % 2) (low-lt b) ∙ div-add-mod' b 2

one_product : (b : ℕ) → product 1 b ≡ b
one_product =
    bin_ind (λ b. product 1 b ≡ b) (product-none 1)
    (λ b ih. product-step 1 b ∙ ap (λ n. bit_xor (n * 2) (b % 2 * 1)) ih ∙ split b)

pub product-comm : (a b : ℕ) → product a b ≡ product b a
product-comm a b =
    bin_ind (λ n. product n b ≡ product b n) (product-nil b ∙ sym (product-none b))
    (λ n ih. ap (λ m. product m b) (sym (split n))
    ∙ product-sum (n / 2 * 2) (n % 2 * 1) b
    ∙ ap₂ bit_xor (product-double (n / 2) b ∙ ap (λ m. m * 2) ih)
    (additive-bit (λ m. product m b) (λ x y. product-sum x y b) (n % 2) 1 (low-lt n) ∙ ap (λ m. n % 2 * m) (one_product b))
    ∙ sym (product-step b n)) a

pub product-one : (a : ℕ) → product a 1 ≡ a
product-one a = product-comm a 1 ∙ one_product a

pub product-pow : (k a : ℕ) → product a (2 ^ k) ≡ a * 2 ^ k
product-pow zero a = product-one a ∙ sym (mul-one a)
product-pow (suc k) a =
    ap (product a) (pow-suc 2 k) ∙ product-right a (2 ^ k) ∙ ap (λ n. n * 2) (product-pow k a)
    ∙ mul_assoc a (2 ^ k) 2 ∙ ap (λ n. a * n) (sym (pow-suc 2 k))

-- ---- degrees

-- n has degree j
pub record Top (j n : ℕ) : Type 0 where
  pub low : 2 ^ j ≤ n
  pub high : n < 2 ^ suc j

pub degree : (n : ℕ) → 0 < n → (j : ℕ) × Top j n
degree n h = let t = leading_top n n h (lt-pow n) in (t.0, record { low = t.2; high = t.3 })

-- a digit past all of y stays
xor-ge : (m x y : ℕ) → 2 ^ m ≤ x → y < 2 ^ m → 2 ^ m ≤ bit_xor x y
xor-ge m x y hx hy =
    let e : bit_xor x y / 2 ^ m ≡ x / 2 ^ m = xor_shr x y m ∙ ap (bit_xor (x / 2 ^ m)) (div-eq_of_lt hy) ∙ xor_zero_r (x / 2 ^ m) in
    let l : 1 ≤ x / 2 ^ m = (le-div_iff_mul-le (pow_pos m)).1 (rw one-mul hx) in
    let l' : 1 ≤ bit_xor x y / 2 ^ m = rw e l in
    rw one-mul at ((le-div_iff_mul-le (pow_pos m)).0 l')

pub product_high : (i j f g : ℕ) → Top i f → Top j g → 2 ^ (i + j) ≤ product f g
product_high i zero f g tf tg =
    let one : g ≡ 1 = omega (arith, tg.low, tg.high) in
    rw (add-zero, one, product-one) tf.low
product_high i (suc j) f g tf tg =
    let e = pow-suc 2 j in
    let half : Top j (g / 2) = record { low = omega (arith, tg.low); high = let e' = pow-suc 2 (suc j) in omega (arith, tg.high) } in
    let ih = product_high i j f (g / 2) tf half in
    let s = pow-suc 2 (i + j) in
    let two : 2 ^ suc (i + j) ≤ product f (g / 2) * 2 = omega arith in
    let m : 2 ^ suc i ≤ 2 ^ suc (i + j) = pow_mono (omega arith) in
    rw (add-suc, product-step) (xor-ge (suc (i + j)) (product f (g / 2) * 2) (g % 2 * f) two
    (bit-lt (g % 2) f (2 ^ suc (i + j)) (low-lt g) (pow_pos (suc (i + j))) (omega (arith, tf.high))))

-- a product below a factor is of nothing
pub product_small : (j f g : ℕ) → Top j f → product f g < 2 ^ j → g ≡ 0
product_small j f zero t h = refl
product_small j f (suc g) t h =
    let deg = degree (suc g) (omega arith) in
    let l = product_high j deg.0 f (suc g) t deg.1 in
    let m : 2 ^ j ≤ 2 ^ (j + deg.0) = pow_mono (omega arith) in
    absurd (omega arith)
