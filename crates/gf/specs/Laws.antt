--   IsField   the numbers below `size`, added by bit_xor and multiplied by `times`, are a field
-- Of the sum only `sum_below` is asked: on all numbers bit_xor is commutative and associative, 0 adds nothing, and each
-- number is its own negative. All laws of `times` but `one` and `undo` are asked of every number, below `size` or not.
use Rattle.std.specs.Prelude.{◌≡◌, ℕ, ◌<◌, bit_xor}

pub record IsField (size : ℕ) (times : ℕ → ℕ → ℕ) : Type 0 where
  pub more : 1 < size
  pub sum_below : (a b : ℕ) → a < size → b < size → bit_xor a b < size
  pub times_below : (a b : ℕ) → times a b < size
  pub comm : (a b : ℕ) → times a b ≡ times b a
  pub assoc : (a b c : ℕ) → times (times a b) c ≡ times a (times b c)
  pub over-sum : (a b c : ℕ) → times a (bit_xor b c) ≡ bit_xor (times a b) (times a c)
  pub one : (a : ℕ) → a < size → times 1 a ≡ a
  pub undo : (a : ℕ) → 0 < a → a < size → (u : ℕ) × (u < size) × (times a u ≡ 1)
