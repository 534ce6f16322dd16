--   Field   a field whose elements are the numbers below `size`, added by bit_xor
use Rattle.std.specs.Prelude.{ℕ}
use Rattle.gf.specs.Laws.{IsField}

pub record Field : Type 0 where
  pub size : ℕ
  pub times : ℕ → ℕ → ℕ
  pub laws : IsField size times
