-- What is promised of the coefficients. Each promise is a type; a proof of the type is the theorem. In this order:
--   Ends         the packet on a carrier is at hand at a node
--   Reads        by these rows a receiver reads every message of packets of n elements
--   Reader       a receiver that is served: its vectors, its links, its rows
--   Served       what holds of the coefficients, the vectors and the receivers of a network
--   AllAtOnce    the coefficients serve all receivers at once
--   OnlyOnes     coefficients and vectors are the prescribed ones, and the only ones
--   AsPrescribed this holds of the coefficients
-- Assumes nothing.
use Rattle.std.specs.Prelude.{◌≡◌, ℕ, ◌<◌, List, ◌∷◌, ◌++◌, map, length}
use Rattle.gf.specs.Field.{Field}
use Rattle.gf.specs.Sum.{sum}
use Rattle.linear.specs.Vectors.{at, row, units}
use Rattle.linear.specs.Independence.{Independent}
use Rattle.linear.specs.Transport.{Message}
use Rattle.linear.specs.Reading.{read_by, Square}
use Rattle.network.specs.Network.{Link, Network, Sound, link_at}
use Rattle.network_cuts.specs.Scheme.{Packet, carried}
use Rattle.std.specs.List.{All}
use Rattle.coding_theory.specs.Paths.{Aim, Given}
use Rattle.coding_theory.specs.Coding.{Carrier, message, link, on_carrier, at_hand, Receiver, current_at, Coded, code, linear, packets, rows}
use Rattle.coding_theory.specs.Rule.{Prescribed}

-- at the source a packet of the message, else that on one of the links so far, which leads there
abbrev pub Ends : List Link → ℕ → ℕ → Carrier → ℕ → Type 0
Ends ls h so_far (message i) p = (i < h) × (p ≡ 0)
Ends ls h so_far (link k) p = (k < so_far) × ((link_at ls k).to ≡ p)

module _ (F : Field) where
  open F use {times}

  abbrev pub Reads : ℕ → Network → ℕ → Coded → Receiver → List (List ℕ) → Type 0
  Reads n z h c r qs = (m : List Packet) → Message F n h m → read_by F n qs (packets h r m (carried z (linear F n c.coefficients) m)) ≡ m

  pub record Reader (z : Network) (h : ℕ) (c : Coded) (r : Receiver) : Type 0 where
    pub independent : Independent F h (λ j. on_carrier (units h) c.vectors (current_at r j))
    pub lead : (j : ℕ) → j < h → Ends z.links h (length z.links) (current_at r j) r.aim.node
    pub square : Square F h (rows h r)
    pub reads : (n : ℕ) → Reads n z h c r (rows h r)
    pub only : (n : ℕ) (qs : List (List ℕ)) → 0 < n → Square F h qs → Reads n z h c r qs → qs ≡ rows h r

  pub record Served (z : Network) (h : ℕ) (as' : List Aim) (c : Coded) : Type 0 where
    pub all : map (λ r. r.aim) c.receivers ≡ as'
    pub each-link : (length c.coefficients ≡ length z.links) × (length c.vectors ≡ length z.links)
    -- what link e carries is the mix of the message by its vector
    pub vectors : (n : ℕ) (m : List Packet) → Message F n h m → (e : ℕ) → e < length z.links → (i : ℕ) → i < n
        → at (row (carried z (linear F n c.coefficients) m) e) i ≡ sum h (λ k. times (at (row c.vectors e) k) (at (row m k) i))
    pub readers : All (Reader z h c) c.receivers

-- over any field, as long as there are fewer receivers than field elements
abbrev pub AllAtOnce : Type 0
AllAtOnce =
    (F : Field) (z : Network) → Sound z → (h : ℕ) (as' : List Aim) → length as' < F.size → All (Given z.links h) as'
    → Served F z h as' (code F z h as')

pub record OnlyOnes (F : Field) (z : Network) (h : ℕ) (as' : List Aim) (c : Coded) : Type 0 where
  pub prescribed : Prescribed F z h as' c.coefficients c.vectors
  pub only : (cs vs : List (List ℕ)) → Prescribed F z h as' cs vs → (cs ≡ c.coefficients) × (vs ≡ c.vectors)
  -- a coefficient for each packet at hand, and h elements in each vector
  pub long : (before : List Link) (l : Link) (after : List Link) → z.links ≡ before ++ l ∷ after
      → (length (row c.coefficients (length before)) ≡ length (at_hand h l.from before)) × (length (row c.vectors (length before)) ≡ h)

abbrev pub AsPrescribed : Type 0
AsPrescribed =
    (F : Field) (z : Network) → Sound z → (h : ℕ) (as' : List Aim) → length as' < F.size → All (Given z.links h) as'
    → OnlyOnes F z h as' (code F z h as')
