-- What the next record of an input does at a node. Defines, in this order:
--   long    how long the records are that come in there
--   ended   how many rounds end; none where the record is refused
--   Takes   that the record which the input had next was taken in, or refused with the node as it was
-- Assumes nothing.
use Rattle.std.specs.Prelude.{◌≡◌, ℕ, ◌+◌, ◌*◌, cond, List, length, Ok, Err, Option, Result, vec_items}
use Rattle.std.specs.Io.KnownBytes.{Consumes}
use Rattle.relay_memory.specs.Values.{state, Tells}
use Rattle.relay_memory.specs.declared.refusal.Refusal.{Refusal}
use Rattle.relay_node.specs.Records.{take_record}
use Rattle.relay_node.specs.Values.{Alike}
use Rattle.relay_node.specs.declared.node.Node.{Node}

abbrev pub long : Node → ℕ
long d = cond d.source (5 + d.slots.width * 1024) 1031

abbrev pub ended : Result ℕ Refusal → ℕ
ended (Ok n) = n
ended (Err e) = 0

-- n: how many rounds end
pub record Takes (before after : Node) (input input' : Option (List ℕ)) (n : ℕ) : Type 0 where
  pub record_bytes : List ℕ
  pub whole : length record_bytes ≡ long before
  pub next : Consumes input input' record_bytes
  pub outcome : Result ℕ Refusal
  pub told : Tells before.slots after.slots outcome (take_record before.source before.slots.width (vec_items before.slots.ins) (state before.slots) record_bytes)
  pub same : Alike before after
  pub rounds : n ≡ ended outcome
