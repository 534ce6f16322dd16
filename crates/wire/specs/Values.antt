-- What the program's values stand for. Defines, in this order:
--   reader, plan      the reader, and the plan, that a value is
--   Behind, Refuses, Reads    what a part of the reader tells of its items
--   Answers, Settled  what the answer of `read` says of the bytes, and that a fault it tells does not depend on what lies behind
-- Assumes nothing.
use Rattle.std.specs.Prelude.{◌≡◌, ℕ, ◌<◌, ◌≤◌, List, [], map, Ok, Err, vec_items, Result}
use Rattle.network.specs.Network.{Multicast}
use Rattle.wire.specs.Plan.{Reader, Plan, served, unserved}
use Rattle.wire.specs.Format.{Read, got, fault, read_plan, Local}
use Rattle.wire.specs.Faults.{number}
use Rattle.wire.specs.declared.fault.ReadError.{ReadError}
use Rattle.wire.specs.declared.fault.ReadError.TheVariants.{Faulty, Memory}
use Rattle.wire.specs.declared.plan.Decoder.{Decoder}
use Rattle.wire.specs.declared.plan.Plan.{Plan as Value}
use Rattle.wire.specs.declared.rest.Rest.{Rest}
use Rattle.wire.specs.declared.plan.Plan.TheVariants.{Served, Unserved}

abbrev pub reader : Decoder → Reader
reader d = record { links = vec_items d.links; rows = map vec_items (vec_items d.rows) }

abbrev pub plan : Value → Plan
plan (Served c) = served (map vec_items (vec_items c.coefficients)) (map reader (vec_items c.receivers))
plan (Unserved p side) = unserved p side

-- what was read ends behind b, or its fault lies there
abbrev pub Behind : {A : Type 0} → ℕ → Read A → Type 0
Behind b (got x at rest) = b < at
Behind b (fault n at stop) = b < at

-- where memory is wanted, nothing is at fault up to there
abbrev pub Refuses : {A : Type 0} → Read A → ReadError → Type 0
Refuses v (Faulty f at) = (stop : ℕ) × (v ≡ fault (number f) at stop)
Refuses v (Memory at) = Behind at v

-- the value, and what is left
abbrev pub Reads : {A V : Type 0} → (V → A) → Read A → Rest → Result V ReadError → Type 0
Reads value v rest (Ok x) = v ≡ got (value x) rest.at rest.bytes.now
Reads value v rest (Err e) = Refuses v e

abbrev pub Answers : Multicast → List ℕ → Result Value ReadError → Type 0
Answers m bs (Ok p) = (at : ℕ) × (read_plan m bs ≡ got (plan p) at [])
Answers m bs (Err e) = Refuses (read_plan m bs) e

abbrev pub Settled : Multicast → List ℕ → ReadError → Type 0
Settled m bs (Faulty f at) = (stop : ℕ) × (at ≤ stop) × Local m bs (number f) at stop
Settled m bs (Memory at) = Unit {0}
