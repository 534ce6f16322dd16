-- A net and a plan that meet the premises of the theorems on delivery. Defines, in this order:
--   one_link                   the source, a receiver, and a link between them, over which each message's one packet goes
--   coefficients, readers      its plan
--   Met                        the plan is the prescribed one, serves the receiver, fits, and delivers
use Rattle.std.specs.Prelude.{◌≡◌, List, [], ◌∷◌, ℕ}
use Rattle.network.specs.Network.{Multicast, Accepted}
use Rattle.wire.specs.Plan.{Reader, served, Fits}
use Rattle.planner_theory.specs.Plan.{plan_of}
use Rattle.planner_theory.specs.Promise.{Serves}
use Rattle.delivery_theory.specs.Promise.{Named, Delivers}

abbrev pub one_link : Multicast
one_link = record { network = record { nodes = 2; links = record { from = 0; to = 1 } ∷ [] }; rate = 1; receivers = 1 ∷ [] }

abbrev pub coefficients : List (List ℕ)
coefficients = (1 ∷ []) ∷ []

abbrev pub readers : List Reader
readers = record { links = 0 ∷ []; rows = (1 ∷ []) ∷ [] } ∷ []

pub record Met : Type 0 where
  pub accepted : Accepted one_link
  pub planned : plan_of one_link ≡ served coefficients readers
  pub serves : Serves one_link coefficients readers
  pub fits : Fits one_link (served coefficients readers)
  pub named : Named one_link readers
  pub delivers : Delivers one_link coefficients readers
