-- A table of inverses: its rule is one test that is computed at each byte but 0.
use Rattle.std.proofs.Common.{◌≡◌, ℕ, zero, suc, ◌<◌, Bool, true, eqb, List, get_or, arith}
use Rattle.std.proofs.lemmas.Bool.{eqb-true}
use Rattle.gf.proofs.Tests.{below, below_at}
use Rattle.gf_bytes.specs.Byte.{times}

-- what stands at a + 1 is its inverse
unfoldable pub undoes : List ℕ → ℕ → Bool
undoes table a = eqb (times (suc a) (get_or table (suc a) 0)) 1

pub inverse-at : (table : List ℕ) → below 255 (undoes table) ≡ true → (a : ℕ) → 0 < a → a < 256 → times a (get_or table a 0) ≡ 1
unfolding undoes
inverse-at table t zero pos h = absurd (omega arith)
inverse-at table t (suc a) pos h = eqb-true (times (suc a) (get_or table (suc a) 0)) 1 (below_at 255 (undoes table) t a (omega arith))
