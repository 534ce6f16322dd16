-- THE MAIN PROMISE: every receiver reads every message, or one is named whom no scheme whatever could serve. Defines, in this order:
--   on_links    the packets on some links, by what the links carry
--   Serves     coefficients and readers by which every receiver reads every message
--   Unserved   a receiver behind a cut: two messages are alike to it, whatever the scheme
--   Main       one or the other
--   MainPromise   so it is for every accepted net
--   PlanFits      the plan fits its net
-- Assumes nothing.
use Rattle.std.specs.Prelude.{◌≡◌, ℕ, ◌<◌, Bool, List, [], map, length, get_or, slice_index, slice_index_or}
use Rattle.gf.proofs.Fields.{byte_field}
use Rattle.linear.specs.Vectors.{row, table}
use Rattle.linear.specs.Transport.{Message}
use Rattle.linear.specs.Reading.{read_by, Square}
use Rattle.network.specs.Network.{Multicast, link_at, Accepted}
use Rattle.network_cuts.specs.Scheme.{Packet, carried}
use Rattle.network_cuts.specs.Cut.{Cut}
use Rattle.network_cuts.specs.Across.{Confused}
use Rattle.flow_theory.specs.Promise.{Paths}
use Rattle.coding_theory.specs.Coding.{linear}
use Rattle.wire.specs.Plan.{Reader, Plan, served, unserved, Fits}
use Rattle.planner_theory.specs.Plan.{plan_of}

abbrev pub on_links : List Packet → List ℕ → List Packet
on_links bs ks = map (row bs) ks

abbrev pub reader_at : List Reader → ℕ → Reader
reader_at rs i = slice_index_or rs i (record { links = []; rows = [] })

-- by these rows the packets on these links give every message of packets of n bytes
abbrev pub ReadsBy : Multicast → List (List ℕ) → (n : ℕ) (links : List ℕ) (rows : List (List ℕ)) → Type 0
ReadsBy m cs n links rows =
    (msg : List Packet) → Message byte_field n m.rate msg → read_by byte_field n rows (on_links (carried m.network (linear byte_field n cs) msg) links) ≡ msg

pub record Serves (m : Multicast) (cs : List (List ℕ)) (rs : List Reader) : Type 0 where
  pub every-link : length cs ≡ length m.network.links
  pub every-receiver : length rs ≡ length m.receivers
  -- a receiver reads from links that lead to it
  pub lead : (i j : ℕ) → i < length m.receivers → j < m.rate
      → (slice_index (reader_at rs i).links j < length m.network.links) × ((link_at m.network.links (slice_index (reader_at rs i).links j)).to ≡ slice_index m.receivers i)
  -- whatever is in the packets, and however long they are
  pub reads : (i n : ℕ) → i < length m.receivers → ReadsBy m cs n (reader_at rs i).links (reader_at rs i).rows
  -- no other rows read
  pub only : (i n : ℕ) (rows : List (List ℕ)) → i < length m.receivers → 0 < n → Square byte_field m.rate rows
      → ReadsBy m cs n (reader_at rs i).links rows → rows ≡ (reader_at rs i).rows

pub record Unserved (m : Multicast) (p : ℕ) (side : List Bool) : Type 0 where
  -- it is the first of the receivers that has a cut: those before it have their paths
  pub place : ℕ
  pub within : place < length m.receivers
  pub named : get_or m.receivers place 0 ≡ p
  pub first : (i : ℕ) → i < place → (ws : List (List ℕ)) × Paths m.network m.rate (slice_index m.receivers i) ws
  pub behind : Cut m.network m.rate p
  pub same-side : table 256 behind.side ≡ side
  pub alike : Confused m.network m.rate p

abbrev pub Main : Multicast → Plan → Type 0
Main m (served cs rs) = Serves m cs rs
Main m (unserved p side) = Unserved m p side

abbrev pub MainPromise : Type 0
MainPromise = (m : Multicast) → Accepted m → Main m (plan_of m)

-- Such a plan fits its net: so it can be written, and read back.
abbrev pub PlanFits : Type 0
PlanFits = (m : Multicast) → Accepted m → Fits m (plan_of m)
