-- Polynomials with coefficients 0 and 1, written as numbers: bit i is the coefficient of x^i, and the sum is bit_xor.
-- In the order in which they are needed:
--   horner           the sum of a, a·x, a·x², .. over the bits of b that are 1, for any meaning of "times x"
--   product          the product of two polynomials
--   xtime            the product with x modulo p, of degree d (FIPS 197, section 4.2, at d = 8 and p = 0x11b)
--   mul              the product of two polynomials below degree d, modulo p (FIPS 197, section 4.2)
--   Degree           p is of degree d
--   NoFactors        p is no product of two polynomials but for 1 and p
--   Remainder        r is what is left of n when it is divided by p
--   MulIsRemainder   `mul` is the remainder of the product, and the only one
use Rattle.std.specs.Prelude.{◌≡◌, ℕ, zero, suc, ◌*◌, ◌/◌, ◌%◌, ◌^◌, ◌<◌, ◌≤◌, ◌⊎◌, bit_xor}

-- Horner's rule over the k lowest bits of b; `up` takes the product with x.
unfoldable pub horner : (ℕ → ℕ) → ℕ → ℕ → ℕ → ℕ
horner up zero a b = 0
horner up (suc k) a b = bit_xor (up (horner up k a (b / 2))) (b % 2 * a)

-- No number b has more than b bits.
unfoldable pub product : ℕ → ℕ → ℕ
product a b = horner (λ n. n * 2) b a b

-- All bits one place up, and where bit d is then 1, p is added, which makes it 0.
unfoldable pub xtime : (d p : ℕ) → ℕ → ℕ
xtime d p a = bit_xor (a * 2) (a * 2 / 2 ^ d % 2 * p)

-- Each factor is first cut to its d lowest bits, so that every pair of numbers has a product.
unfoldable pub mul : (d p : ℕ) → ℕ → ℕ → ℕ
mul d p a b = horner (xtime d p) d (a % 2 ^ d) (b % 2 ^ d)

pub record Degree (d p : ℕ) : Type 0 where
  pub some : 0 < d
  pub low : 2 ^ d ≤ p
  pub high : p < 2 ^ suc d

abbrev pub NoFactors : ℕ → Type 0
NoFactors p = (a b : ℕ) → product a b ≡ p → (a ≡ 1) ⊎ (b ≡ 1)

pub record Remainder (d p n r : ℕ) : Type 0 where
  pub quotient : ℕ
  pub whole : n ≡ bit_xor (product p quotient) r
  pub below : r < 2 ^ d

abbrev pub MulIsRemainder : (d p : ℕ) → Type 0
MulIsRemainder d p =
    (a b : ℕ) → a < 2 ^ d → b < 2 ^ d
    → Remainder d p (product a b) (mul d p a b) × ((r : ℕ) → Remainder d p (product a b) r → r ≡ mul d p a b)
