-- One more receiver on a link, by two numbers for each receiver so far. Defines, in this order:
--   product_of h v u row    what a row makes of the vector v, and of the vector u of which a multiple is to be added
--   all_served ps t         before + t · added is not 0 for any of the pairs
--   Added                   what becomes of coefficients and vector when t times the vector u is added
--   Extended                what becomes of coefficients and vector when one more receiver is to be served
-- Assumes nothing.
use Rattle.std.specs.Prelude.{◌≡◌, ℕ, ◌<◌, Bool, not, List, map, ◌==◌, ◌≢◌, bit_xor}
use Rattle.std.specs.List.{list_all}
use Rattle.gf.proofs.Fields.{byte_field}
use Rattle.gf_bytes.specs.Byte.{times}
use Rattle.gf_bytes.specs.declared.vector.Vector.{Vector}
use Rattle.linear.specs.Vectors.{at, plus, scale, dot}
use Rattle.linear.specs.Lowest.{lowest}
use Rattle.coding_steps.specs.declared.product.Product.{Product}

abbrev pub product_of : ℕ → List ℕ → List ℕ → List ℕ → Product
product_of h v u r = record { before = dot byte_field h r v; added = dot byte_field h r u }

abbrev pub all_served : List Product → ℕ → Bool
all_served ps t = list_all (λ p. not (bit_xor p.before (times t p.added) == 0)) ps

-- trial: the coefficients by which u is the mix of what is at hand; cs and v before, cs' and v' after
pub record Added (t : ℕ) (u trial cs : List ℕ) (v : Vector) (cs' : List ℕ) (v' : Vector) : Type 0 where
  pub coefficients : cs' ≡ plus cs (scale byte_field t trial)
  pub count : v'.count ≡ v.count
  pub bytes : (x : ℕ) → x < 32 → at v'.bytes x ≡ bit_xor (at v.bytes x) (times t (at u x))

-- rows: of the receivers on the link so far, of which `row` is the last
pub record Extended (rows : List (List ℕ)) (row u trial cs : List ℕ) (v : Vector) (cs' : List ℕ) (v' : Vector) : Type 0 where
  pub served : (dot byte_field v.count row v.bytes ≢ 0) → (cs' ≡ cs) × (v' ≡ v)
  pub added : dot byte_field v.count row v.bytes ≡ 0
      → Added (lowest (all_served (map (product_of v.count v.bytes u) rows)) 255 1) u trial cs v cs' v'
