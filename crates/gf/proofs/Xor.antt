-- Exclusive or as a sum: sums of four, one place up, the product of a bit with a number, and functions that keep sums.
-- Each law of a bit goes by its two cases; the others are associativity and commutativity.
use Rattle.std.proofs.Common.{◌≡◌, ℕ, zero, suc, ◌*◌, ◌%◌, ◌<◌, sym, ap, ◌∙◌, subst, ap₂, le_of_suc-le-suc, not-suc-le-zero, add-zero, mod-lt, one-mul, zero-mul, lit<}
use lib.Bits.{bit_xor, xor_assoc, xor_comm, xor_self, xor_zero_r, xor_block}

pub xor4 : (a b c e : ℕ) → bit_xor (bit_xor a b) (bit_xor c e) ≡ bit_xor (bit_xor a c) (bit_xor b e)
xor4 a b c e =
    xor_assoc a b (bit_xor c e)
    ∙ ap (bit_xor a) (sym (xor_assoc b c e) ∙ ap (λ x. bit_xor x e) (xor_comm b c) ∙ xor_assoc c b e)
    ∙ sym (xor_assoc a c (bit_xor b e))

-- a ⊕ (a ⊕ b) is b
pub xor-back : (a b : ℕ) → bit_xor a (bit_xor a b) ≡ b
xor-back a b = sym (xor_assoc a a b) ∙ ap (λ x. bit_xor x b) (xor_self a)

-- a number that adds to 0 is the other one
pub xor-zero-eq : (a b : ℕ) → bit_xor a b ≡ 0 → a ≡ b
xor-zero-eq a b e = sym (xor_zero_r a) ∙ ap (bit_xor a) (sym e) ∙ xor-back a b

pub xor-double : (a b : ℕ) → bit_xor a b * 2 ≡ bit_xor (a * 2) (b * 2)
xor-double a b =
    sym (ap₂ bit_xor (sym (add-zero (a * 2))) (sym (add-zero (b * 2))) ∙ xor_block 1 a b 0 0 (lit< tt) (lit< tt) ∙ add-zero (bit_xor a b * 2))

no-bit : {A : Type 0} {s : ℕ} → suc (suc s) < 2 → A
no-bit h = absurd (not-suc-le-zero (le_of_suc-le-suc (le_of_suc-le-suc h)))

-- a bit times a sum
pub bit-sum : (s x y : ℕ) → s < 2 → s * bit_xor x y ≡ bit_xor (s * x) (s * y)
bit-sum zero x y h = zero-mul (bit_xor x y) ∙ sym (ap₂ bit_xor (zero-mul x) (zero-mul y))
bit-sum (suc zero) x y h = one-mul (bit_xor x y) ∙ sym (ap₂ bit_xor (one-mul x) (one-mul y))
bit-sum (suc (suc s)) x y h = no-bit h

-- a sum of bits times a number
pub sum-bit : (s t x : ℕ) → s < 2 → t < 2 → bit_xor s t * x ≡ bit_xor (s * x) (t * x)
sum-bit zero t x h k = sym (ap (λ n. bit_xor n (t * x)) (zero-mul x))
sum-bit (suc zero) zero x h k = sym (ap (bit_xor (1 * x)) (zero-mul x) ∙ xor_zero_r (1 * x))
sum-bit (suc zero) (suc zero) x h k = zero-mul x ∙ sym (xor_self (1 * x))
sum-bit (suc zero) (suc (suc t)) x h k = no-bit k
sum-bit (suc (suc s)) t x h k = no-bit h

-- what keeps sums keeps 0, and the product with a bit
abbrev pub Additive : (ℕ → ℕ) → Type 0
Additive f = (x y : ℕ) → f (bit_xor x y) ≡ bit_xor (f x) (f y)

pub additive-zero : (f : ℕ → ℕ) → Additive f → f 0 ≡ 0
additive-zero f add = sym (xor-back (f 0) (f 0)) ∙ ap (bit_xor (f 0)) (sym (add 0 0)) ∙ xor_self (f 0)

pub additive-bit : (f : ℕ → ℕ) → Additive f → (s x : ℕ) → s < 2 → f (s * x) ≡ s * f x
additive-bit f add zero x h = ap f (zero-mul x) ∙ additive-zero f add ∙ sym (zero-mul (f x))
additive-bit f add (suc zero) x h = ap f (one-mul x) ∙ sym (one-mul (f x))
additive-bit f add (suc (suc s)) x h = no-bit h

pub bit-lt : (s x n : ℕ) → s < 2 → 0 < n → x < n → s * x < n
bit-lt zero x n h p k = subst (λ m. m < n) (sym (zero-mul x)) p
bit-lt (suc zero) x n h p k = subst (λ m. m < n) (sym (one-mul x)) k
bit-lt (suc (suc s)) x n h p k = no-bit h

pub low-lt : (b : ℕ) → b % 2 < 2
low-lt b = mod-lt b (lit< tt)
