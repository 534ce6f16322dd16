-- Networks whose coefficients over bytes were worked out by another program, which tests independence by elimination. In this order:
--   Example      a network, a rate, receivers with their paths, and what is to come out: for each link its coefficients and its vector,
--                for each receiver its current links and its rows
--   Worked       the premises of the theorems are met, and this is what comes out
--   butterfly    two receivers at rate 2; one link carries the sum of both packets
--   threefold    three receivers at rate 2; at the third link t = 1 would undo what the first receiver has, so t = 2
--   dense, wide  drawn at random: three receivers at rate 3, five receivers at rate 2
--   worked       all of these
-- Assumes nothing.
use Rattle.std.specs.Prelude.{◌≡◌, ℕ, ◌<◌, List, [], ◌∷◌, map, length}
use Rattle.gf.proofs.Fields.{byte_field}
use Rattle.network.specs.Network.{Link, Network, Sound}
use Rattle.std.specs.List.{All}
use Rattle.coding_theory.specs.Paths.{Aim, Given}
use Rattle.coding_theory.specs.Coding.{link, code, rows}

pub record Example : Type 0 where
  pub network : Network
  pub rate : ℕ
  pub aims : List Aim
  pub coefficients : List (List ℕ)
  pub vectors : List (List ℕ)
  pub current : List (List ℕ)
  pub rows : List (List (List ℕ))

pub record Worked (x : Example) : Type 0 where
  pub sound : Sound x.network
  pub few : length x.aims < byte_field.size
  pub given : All (Given x.network.links x.rate) x.aims
  pub coefficients : (code byte_field x.network x.rate x.aims).coefficients ≡ x.coefficients
  pub vectors : (code byte_field x.network x.rate x.aims).vectors ≡ x.vectors
  pub current : map (λ r. r.current) (code byte_field x.network x.rate x.aims).receivers ≡ map (map link) x.current
  pub rows : map (rows x.rate) (code byte_field x.network x.rate x.aims).receivers ≡ x.rows

abbrev l : ℕ → ℕ → Link
l a b = record { from = a; to = b }

abbrev pub butterfly : Example
butterfly =
    record {
      network = record { nodes = 7; links = l 0 1 ∷ l 0 2 ∷ l 1 3 ∷ l 1 5 ∷ l 2 3 ∷ l 2 6 ∷ l 3 4 ∷ l 4 5 ∷ l 4 6 ∷ [] };
      rate = 2;
      aims = record { node = 5; paths = (0 ∷ 3 ∷ []) ∷ (1 ∷ 4 ∷ 6 ∷ 7 ∷ []) ∷ [] } ∷ record { node = 6; paths = (0 ∷ 2 ∷ 6 ∷ 8 ∷ []) ∷ (1 ∷ 5 ∷ []) ∷ [] } ∷ [];
      coefficients = (1 ∷ 0 ∷ []) ∷ (0 ∷ 1 ∷ []) ∷ (1 ∷ []) ∷ (1 ∷ []) ∷ (1 ∷ []) ∷ (1 ∷ []) ∷ (1 ∷ 1 ∷ []) ∷ (1 ∷ []) ∷ (1 ∷ []) ∷ [];
      vectors = (1 ∷ 0 ∷ []) ∷ (0 ∷ 1 ∷ []) ∷ (1 ∷ 0 ∷ []) ∷ (1 ∷ 0 ∷ []) ∷ (0 ∷ 1 ∷ []) ∷ (0 ∷ 1 ∷ []) ∷ (1 ∷ 1 ∷ []) ∷ (1 ∷ 1 ∷ []) ∷ (1 ∷ 1 ∷ []) ∷ [];
      current = (3 ∷ 7 ∷ []) ∷ (8 ∷ 5 ∷ []) ∷ [];
      rows = ((1 ∷ 0 ∷ []) ∷ (1 ∷ 1 ∷ []) ∷ []) ∷ ((1 ∷ 1 ∷ []) ∷ (0 ∷ 1 ∷ []) ∷ []) ∷ [];
    }

abbrev pub threefold : Example
threefold =
    record {
      network = record { nodes = 4; links = l 0 2 ∷ l 0 1 ∷ l 0 3 ∷ l 0 3 ∷ l 3 1 ∷ l 1 2 ∷ [] };
      rate = 2;
      aims = record { node = 1; paths = (1 ∷ []) ∷ (2 ∷ 4 ∷ []) ∷ [] } ∷ record { node = 2; paths = (0 ∷ []) ∷ (1 ∷ 5 ∷ []) ∷ [] } ∷ record { node = 3; paths = (2 ∷ []) ∷ (3 ∷ []) ∷ [] } ∷ [];
      coefficients = (1 ∷ 0 ∷ []) ∷ (1 ∷ 1 ∷ []) ∷ (2 ∷ 1 ∷ []) ∷ (0 ∷ 1 ∷ []) ∷ (1 ∷ 0 ∷ []) ∷ (1 ∷ 0 ∷ []) ∷ [];
      vectors = (1 ∷ 0 ∷ []) ∷ (1 ∷ 1 ∷ []) ∷ (2 ∷ 1 ∷ []) ∷ (0 ∷ 1 ∷ []) ∷ (2 ∷ 1 ∷ []) ∷ (1 ∷ 1 ∷ []) ∷ [];
      current = (1 ∷ 4 ∷ []) ∷ (0 ∷ 5 ∷ []) ∷ (2 ∷ 3 ∷ []) ∷ [];
      rows = ((246 ∷ 246 ∷ []) ∷ (247 ∷ 246 ∷ []) ∷ []) ∷ ((1 ∷ 0 ∷ []) ∷ (1 ∷ 1 ∷ []) ∷ []) ∷ ((141 ∷ 141 ∷ []) ∷ (0 ∷ 1 ∷ []) ∷ []) ∷ [];
    }

abbrev pub dense : Example
dense =
    record {
      network = record { nodes = 6; links = l 0 1 ∷ l 0 2 ∷ l 0 3 ∷ l 0 3 ∷ l 0 4 ∷ l 0 5 ∷ l 1 3 ∷ l 1 3 ∷ l 2 3 ∷ l 2 5 ∷ l 3 4 ∷ l 3 4 ∷ l 4 5 ∷ [] };
      rate = 3;
      aims = record { node = 3; paths = (0 ∷ 6 ∷ []) ∷ (2 ∷ []) ∷ (3 ∷ []) ∷ [] } ∷ record { node = 4; paths = (2 ∷ 10 ∷ []) ∷ (3 ∷ 11 ∷ []) ∷ (4 ∷ []) ∷ [] } ∷ record { node = 5; paths = (1 ∷ 9 ∷ []) ∷ (4 ∷ 12 ∷ []) ∷ (5 ∷ []) ∷ [] } ∷ [];
      coefficients = (1 ∷ 0 ∷ 0 ∷ []) ∷ (1 ∷ 0 ∷ 0 ∷ []) ∷ (1 ∷ 1 ∷ 0 ∷ []) ∷ (0 ∷ 1 ∷ 1 ∷ []) ∷ (0 ∷ 2 ∷ 1 ∷ []) ∷ (0 ∷ 0 ∷ 1 ∷ []) ∷ (1 ∷ []) ∷ (0 ∷ []) ∷ (0 ∷ []) ∷ (1 ∷ []) ∷ (1 ∷ 0 ∷ 0 ∷ 0 ∷ 0 ∷ []) ∷ (0 ∷ 1 ∷ 0 ∷ 0 ∷ 0 ∷ []) ∷ (1 ∷ 0 ∷ 0 ∷ []) ∷ [];
      vectors = (1 ∷ 0 ∷ 0 ∷ []) ∷ (1 ∷ 0 ∷ 0 ∷ []) ∷ (1 ∷ 1 ∷ 0 ∷ []) ∷ (0 ∷ 1 ∷ 1 ∷ []) ∷ (0 ∷ 2 ∷ 1 ∷ []) ∷ (0 ∷ 0 ∷ 1 ∷ []) ∷ (1 ∷ 0 ∷ 0 ∷ []) ∷ (0 ∷ 0 ∷ 0 ∷ []) ∷ (0 ∷ 0 ∷ 0 ∷ []) ∷ (1 ∷ 0 ∷ 0 ∷ []) ∷ (1 ∷ 1 ∷ 0 ∷ []) ∷ (0 ∷ 1 ∷ 1 ∷ []) ∷ (0 ∷ 2 ∷ 1 ∷ []) ∷ [];
      current = (6 ∷ 2 ∷ 3 ∷ []) ∷ (10 ∷ 11 ∷ 4 ∷ []) ∷ (9 ∷ 12 ∷ 5 ∷ []) ∷ [];
      rows = ((1 ∷ 0 ∷ 0 ∷ []) ∷ (1 ∷ 1 ∷ 0 ∷ []) ∷ (1 ∷ 1 ∷ 1 ∷ []) ∷ []) ∷ ((1 ∷ 246 ∷ 246 ∷ []) ∷ (0 ∷ 246 ∷ 246 ∷ []) ∷ (0 ∷ 247 ∷ 246 ∷ []) ∷ []) ∷ ((1 ∷ 0 ∷ 0 ∷ []) ∷ (0 ∷ 141 ∷ 141 ∷ []) ∷ (0 ∷ 0 ∷ 1 ∷ []) ∷ []) ∷ [];
    }

abbrev pub wide : Example
wide =
    record {
      network = record { nodes = 7; links = l 0 1 ∷ l 0 2 ∷ l 0 2 ∷ l 0 5 ∷ l 0 6 ∷ l 1 2 ∷ l 1 3 ∷ l 1 4 ∷ l 2 3 ∷ l 2 4 ∷ l 2 4 ∷ l 2 5 ∷ l 5 6 ∷ [] };
      rate = 2;
      aims = record { node = 2; paths = (1 ∷ []) ∷ (2 ∷ []) ∷ [] } ∷ record { node = 3; paths = (0 ∷ 6 ∷ []) ∷ (1 ∷ 8 ∷ []) ∷ [] } ∷ record { node = 4; paths = (0 ∷ 7 ∷ []) ∷ (1 ∷ 9 ∷ []) ∷ [] } ∷ record { node = 5; paths = (1 ∷ 11 ∷ []) ∷ (3 ∷ []) ∷ [] } ∷ record { node = 6; paths = (3 ∷ 12 ∷ []) ∷ (4 ∷ []) ∷ [] } ∷ [];
      coefficients = (1 ∷ 0 ∷ []) ∷ (1 ∷ 1 ∷ []) ∷ (0 ∷ 1 ∷ []) ∷ (2 ∷ 1 ∷ []) ∷ (0 ∷ 1 ∷ []) ∷ (0 ∷ []) ∷ (1 ∷ []) ∷ (1 ∷ []) ∷ (1 ∷ 0 ∷ 0 ∷ []) ∷ (1 ∷ 0 ∷ 0 ∷ []) ∷ (0 ∷ 0 ∷ 0 ∷ []) ∷ (1 ∷ 0 ∷ 0 ∷ []) ∷ (1 ∷ 0 ∷ []) ∷ [];
      vectors = (1 ∷ 0 ∷ []) ∷ (1 ∷ 1 ∷ []) ∷ (0 ∷ 1 ∷ []) ∷ (2 ∷ 1 ∷ []) ∷ (0 ∷ 1 ∷ []) ∷ (0 ∷ 0 ∷ []) ∷ (1 ∷ 0 ∷ []) ∷ (1 ∷ 0 ∷ []) ∷ (1 ∷ 1 ∷ []) ∷ (1 ∷ 1 ∷ []) ∷ (0 ∷ 0 ∷ []) ∷ (1 ∷ 1 ∷ []) ∷ (2 ∷ 1 ∷ []) ∷ [];
      current = (1 ∷ 2 ∷ []) ∷ (6 ∷ 8 ∷ []) ∷ (7 ∷ 9 ∷ []) ∷ (11 ∷ 3 ∷ []) ∷ (12 ∷ 4 ∷ []) ∷ [];
      rows = ((1 ∷ 1 ∷ []) ∷ (0 ∷ 1 ∷ []) ∷ []) ∷ ((1 ∷ 0 ∷ []) ∷ (1 ∷ 1 ∷ []) ∷ []) ∷ ((1 ∷ 0 ∷ []) ∷ (1 ∷ 1 ∷ []) ∷ []) ∷ ((246 ∷ 246 ∷ []) ∷ (247 ∷ 246 ∷ []) ∷ []) ∷ ((141 ∷ 141 ∷ []) ∷ (0 ∷ 1 ∷ []) ∷ []) ∷ [];
    }

abbrev pub worked : List Example
worked = butterfly ∷ threefold ∷ dense ∷ wide ∷ []
