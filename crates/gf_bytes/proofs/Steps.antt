-- The code's product with x, and the code's product one bit at a time, the lowest first.
-- With x: what the definition leaves is below 2 ^ d, so the bits that the code's shift drops may be dropped at once.
-- Bit by bit: the sum so far, with what the bits that are left will add to it, stays the same at each turn.
use Rattle.std.proofs.Common.{◌≡◌, ℕ, suc, ◌*◌, ◌/◌, ◌%◌, ◌^◌, ◌<◌, sym, ap, ◌∙◌, mod-eq_of_lt}
use lib.Bits.{bit_xor, xor_assoc, xor_comm, xor_mod, xor_zero_r}
use Rattle.gf.specs.Polynomial.{horner, xtime, Degree}
use Rattle.gf.proofs.Ring.{xtime-sum, xtime-lt}
use Rattle.gf.proofs.Horner.{horner-up}

module _ (d p : ℕ) where
  pub xtime-cut : Degree d p → (a : ℕ) → a < 2 ^ d → bit_xor (a * 2 % 2 ^ d) (a * 2 / 2 ^ d % 2 * p % 2 ^ d) ≡ xtime d p a
  unfolding xtime
  xtime-cut deg a h = sym (xor_mod (a * 2) (a * 2 / 2 ^ d % 2 * p) d) ∙ mod-eq_of_lt (xtime-lt d p deg a h)

  -- the sum so far, with the k bits of b that are left
  abbrev pub pending : (k sum power b : ℕ) → ℕ
  pending k sum power b = bit_xor sum (horner (xtime d p) k power b)

  pub turn : (k sum power b : ℕ) → pending (suc k) sum power b ≡ pending k (bit_xor sum (b % 2 * power)) (xtime d p power) (b / 2)
  unfolding horner
  turn k sum power b =
      ap (bit_xor sum) (xor_comm (xtime d p (horner (xtime d p) k power (b / 2))) (b % 2 * power))
      ∙ sym (xor_assoc sum (b % 2 * power) (xtime d p (horner (xtime d p) k power (b / 2))))
      ∙ ap (bit_xor (bit_xor sum (b % 2 * power))) (sym (horner-up (xtime d p) (xtime-sum d p) k power (b / 2)))

  pub no_bits : (sum power b : ℕ) → pending 0 sum power b ≡ sum
  unfolding horner
  no_bits sum power b = xor_zero_r sum
