-- What a loop over the places of an array keeps: the places before the loop's are done, and the others are as they were.
use Rattle.std.proofs.Common.{◌≡◌, ℕ, ◌<◌, ◌≤◌, List, length, get_or}

-- `new` has `f k` at each place k below i, and what `old` has at the others
pub record Done (f : ℕ → ℕ) (i : ℕ) (old new : List ℕ) : Type 0 where
  pub front : (k : ℕ) → k < i → get_or new k 0 ≡ f k
  pub rest : (k : ℕ) → i ≤ k → get_or new k 0 ≡ get_or old k 0
  pub same : length new ≡ length old
