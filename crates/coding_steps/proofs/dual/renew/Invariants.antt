use Rattle.std.proofs.Common.{length}
use Rattle.gf.proofs.Fields.{byte_field}
use Rattle.linear.specs.Dual.{renew}
use Rattle.coding_steps.specs.Rows.{bytes_of}
use Rattle.coding_steps.proofs.Renewal.{Front}
use Rattle.coding_steps.proofs.dual.renew.Given as goal

abbrev pub invariant-loop-i : goal.invariant-loop-i
invariant-loop-i l = Front (length l.initial.rows) (renew byte_field (length l.initial.rows) l.j l.v.bytes (bytes_of l.initial.rows)) l.initial.rows l.i l.rows
