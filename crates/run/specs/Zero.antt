-- Packets that are all 0: zeros, the test. Assumes nothing.
use Rattle.std.specs.Prelude.{ℕ, Bool, List, ◌==◌}
use Rattle.std.specs.List.{list_all}

abbrev pub zeros : List ℕ → Bool
zeros xs = list_all (λ x. x == 0) xs
