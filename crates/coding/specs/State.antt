-- The code's state between two links, and what it stands for. Defines, in this order:
--   up_to             the definition's coefficients, vectors and receivers after the first e links
--   Stands            a receiver of the code stands for one of the definition
--   State             vectors and receivers of the code stand for those of the definition after e links
--   chosen_at         the definition's coefficients of link e
--   vector_at         the definition's vector of link e
--   Carries           a vector of the code is that one
-- Assumes nothing.
use Rattle.std.specs.Prelude.{◌≡◌, ℕ, ◌<◌, List, [], map, length, take, vec_items, slice_index_or}
use Rattle.gf.proofs.Fields.{byte_field}
use Rattle.gf_bytes.specs.declared.vector.Vector.{Vector}
use Rattle.linear.specs.Vectors.{at, row, units, mixed}
use Rattle.network.specs.Network.{Network, link_at}
use Rattle.network_cuts.specs.Scheme.{hand}
use Rattle.coding_theory.specs.Paths.{Aim}
use Rattle.coding_theory.specs.Coding.{Receiver, start, Coded, chosen, along}
use Rattle.coding_steps.specs.Rows.{bytes_of, AllCounted, SameRows}
use Rattle.coding_steps.specs.Carriers.{carrier}
use Rattle.coding.specs.Aims.{aim_of}
use Rattle.coding.specs.declared.receiver.Receiver.{Receiver as Pending}

abbrev pub up_to : Network → ℕ → List Aim → ℕ → Coded
up_to z h as' e = along byte_field h [] (take e z.links) (record { coefficients = []; vectors = []; receivers = map (start h) as' })

pub record Stands (h : ℕ) (p : Pending) (r : Receiver) : Type 0 where
  pub aim : aim_of p.aim.now ≡ r.aim
  pub many : length (vec_items p.rows) ≡ h
  pub current : map carrier (vec_items p.current) ≡ r.current
  pub rows : SameRows h (bytes_of (vec_items p.rows)) r.dual

pub record State (z : Network) (h : ℕ) (as' : List Aim) (e : ℕ) (vectors : List Vector) (pending : List Pending) : Type 0 where
  pub many : length vectors ≡ e
  pub counted : AllCounted h vectors
  pub vectors-same : (k x : ℕ) → k < e → x < h → at (row (bytes_of vectors) k) x ≡ at (row (up_to z h as' e).vectors k) x
  pub all : length pending ≡ length as'
  pub receivers : (i : ℕ) (p : Pending) (r : Receiver) → i < length as' → Stands h (slice_index_or pending i p) (slice_index_or (up_to z h as' e).receivers i r)

-- the coefficients, and the vector, of link e
abbrev pub chosen_at : Network → ℕ → List Aim → ℕ → List ℕ
chosen_at z h as' e = chosen byte_field h (take e z.links) (link_at z.links e) (up_to z h as' e)

abbrev pub vector_at : Network → ℕ → List Aim → ℕ → List ℕ
vector_at z h as' e = mixed byte_field h (chosen_at z h as' e) (hand (link_at z.links e).from (units h) (take e z.links) (up_to z h as' e).vectors)

pub record Carries (z : Network) (h : ℕ) (as' : List Aim) (e : ℕ) (v : Vector) : Type 0 where
  pub count : v.count ≡ h
  pub bytes : (x : ℕ) → x < h → at v.bytes x ≡ at (vector_at z h as' e) x
