-- The receivers with their paths. Defines, in this order:
--   aim_of, aims_of    as the definition has them
--   aims_on            those of receivers on the way
-- Assumes nothing.
use Rattle.std.specs.Prelude.{List, map, vec_items}
use Rattle.coding_theory.specs.Paths.{Aim}
use Rattle.coding.specs.declared.aim.Aim.{Aim as Target}
use Rattle.coding.specs.declared.receiver.Receiver.{Receiver as Pending}

abbrev pub aim_of : Target → Aim
aim_of a = record { node = a.node; paths = map vec_items (vec_items a.paths) }

abbrev pub aims_of : List Target → List Aim
aims_of as' = map aim_of as'

abbrev pub aims_on : List Pending → List Aim
aims_on ps = map (λ p. aim_of p.aim.now) ps
