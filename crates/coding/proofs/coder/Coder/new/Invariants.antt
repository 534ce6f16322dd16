use Rattle.std.proofs.Common.{◌≡◌, ℕ, ◌<◌, length, get_or, vec_items}
use Rattle.coding_theory.specs.Coding.{start}
use Rattle.coding.specs.Aims.{aim_of}
use Rattle.coding.specs.State.{Stands}
use Rattle.coding.specs.declared.aim.Aim.{Aim}
use Rattle.coding.specs.declared.receiver.Receiver.{Receiver}
use Rattle.coding.proofs.coder.Coder.new.Given as goal

abbrev pub invariant-loop-aim : goal.invariant-loop-aim
invariant-loop-aim l = record {
  long : length (vec_items l.receivers) ≡ l.aim-index;
  stand : (i : ℕ) (p : Receiver) (a : Aim) → i < l.aim-index → Stands l.h (get_or (vec_items l.receivers) i p) (start l.h (aim_of (get_or l.aims i a)));
}
