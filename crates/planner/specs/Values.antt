-- What the program's values stand for. Defines, in this order:
--   Finds         that a value is what the definition finds for all receivers
--   Serving       what it promises: paths for every receiver, or the first whom no scheme whatever could serve
--   reader, plan  those of `wire`: the reader, and the plan, that a value is
-- Assumes nothing.
use Rattle.std.specs.Prelude.{◌≡◌, ℕ, Bool, map, vec_items}
use Rattle.network.specs.Network.{Multicast}
pub use Rattle.wire.specs.Values.{reader, plan}
use Rattle.flow.specs.Augment.{Marks}
use Rattle.std.specs.List.{All}
use Rattle.coding_theory.specs.Paths.{Given}
use Rattle.coding.specs.Aims.{aims_of}
use Rattle.planner_theory.specs.Plan.{Routed, routed, stopped}
use Rattle.planner_theory.specs.Promise.{Unserved as Behind}
use Rattle.planner.specs.declared.routes.Routes.{Routes}
use Rattle.planner.specs.declared.routes.Routes.TheVariants.{Paths, Cut}

abbrev pub Finds : Routes → Routed → Type 0
Finds (Paths v) r = r ≡ routed (aims_of (vec_items v))
Finds (Cut p flags) r = (side : ℕ → Bool) × (r ≡ stopped p side) × Marks flags side

-- each receiver, in order, has as many paths as the rate that share no link; or one has a cut, and two messages are alike to it
abbrev pub Serving : Multicast → Routes → Type 0
Serving m (Paths v) = (map (λ a. a.node) (aims_of (vec_items v)) ≡ m.receivers) × All (Given m.network.links m.rate) (aims_of (vec_items v))
Serving m (Cut p flags) = Behind m p flags
