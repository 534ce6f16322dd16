-- The plan of a net. Defines, in this order:
--   Reader, Plan      those of `wire`: what a receiver reads by; coefficients and readers, or a receiver with its cut
--   Routed, route     the receivers in order: paths for each, or the first with a cut
--   reader_of         a receiver's current links and rows, when all links are passed
--   plan_of           the plan
-- Assumes nothing.
use Rattle.std.specs.Prelude.{ℕ, Bool, List, [], ◌∷◌, map}
use Rattle.gf.proofs.Fields.{byte_field}
use Rattle.linear.specs.Vectors.{table}
use Rattle.network.specs.Network.{Network, Multicast}
pub use Rattle.wire.specs.Plan.{Reader, Plan, served, unserved}
use Rattle.flow_theory.specs.Flow.{Found, paths, cut, paths_or_cut}
use Rattle.coding_theory.specs.Paths.{Aim}
use Rattle.coding_theory.specs.Coding.{Carrier, message, link, Receiver, current_at, Coded, code, rows}

pub data Routed : Type 0 where
  routed : List Aim → Routed
  stopped : (receiver : ℕ) (side : ℕ → Bool) → Routed

-- a receiver at node p, before those for which the answer is known
abbrev pub before : (p : ℕ) → Found → Routed → Routed
before p (cut side) rest = stopped p side
before p (paths ws) (routed aims) = routed (record { node = p; paths = ws } ∷ aims)
before p (paths ws) (stopped q side) = stopped q side

unfoldable pub route : Network → (h : ℕ) → List ℕ → Routed
route z h [] = routed []
route z h (p ∷ ps) = before p (paths_or_cut z h p) (route z h ps)

-- at the end no receiver's packet is one of the message itself: the last link of each path carries it
abbrev pub link_of : Carrier → ℕ
link_of (message i) = 0
link_of (link k) = k

abbrev pub reader_of : ℕ → Receiver → Reader
reader_of h r = record { links = table h (λ j. link_of (current_at r j)); rows = rows h r }

abbrev pub planned : Network → (h : ℕ) → Routed → Plan
planned z h (routed aims) = let c : Coded = code byte_field z h aims in served c.coefficients (map (reader_of h) c.receivers)
planned z h (stopped p side) = unserved p (table 256 side)

abbrev pub plan_of : Multicast → Plan
plan_of m = planned m.network m.rate (route m.network m.rate m.receivers)
