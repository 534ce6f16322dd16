-- A receiver when link e with vector v is passed. Defines, in this order:
--   rate_of, place_on  how many paths it has, and on which of them the link lies
--   Ready              it can be served by v, if the link lies on one of its paths
--   Passed             what becomes of it: it goes on to stand for what the definition makes of what it stood for
-- Assumes nothing.
use Rattle.std.specs.Prelude.{◌≡◌, ℕ, ◌<◌, List, length, vec_items}
use Rattle.gf.proofs.Fields.{byte_field}
use Rattle.gf_bytes.specs.declared.vector.Vector.{Vector}
use Rattle.linear.specs.Vectors.{row, dot}
use Rattle.coding_theory.specs.Coding.{place, Receiver, passed}
use Rattle.coding_steps.specs.Rows.{bytes_of}
use Rattle.coding.specs.Aims.{aim_of}
use Rattle.coding.specs.State.{Stands}
use Rattle.coding.specs.declared.receiver.Receiver.{Receiver as Pending}

abbrev pub rate_of : Pending → ℕ
rate_of p = length (vec_items p.rows)

abbrev pub place_on : ℕ → Pending → ℕ
place_on e p = place e (aim_of p.aim.now).paths

pub record Ready (e : ℕ) (v : Vector) (p : Pending) : Type 0 where
  pub count : v.count ≡ rate_of p
  pub served : place_on e p < rate_of p → 0 < dot byte_field (rate_of p) (row (bytes_of (vec_items p.rows)) (place_on e p)) v.bytes

-- p before, and p' after
pub record Passed (e : ℕ) (v : List ℕ) (p p' : Pending) : Type 0 where
  pub aim : p'.aim.now ≡ p.aim.now
  pub stands : (r : Receiver) → Stands (rate_of p) p r → Stands (rate_of p) p' (passed byte_field (rate_of p) e v r)
