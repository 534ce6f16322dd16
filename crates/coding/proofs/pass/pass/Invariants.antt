use Rattle.std.proofs.Common.{◌≡◌, ℕ, ◌<◌, ◌≤◌, length, get_or}
use Rattle.coding.specs.Passing.{Passed}
use Rattle.coding.specs.declared.receiver.Receiver.{Receiver}
use Rattle.coding.proofs.pass.pass.Given as goal

-- those so far are passed, and the others are as they were
abbrev pub invariant-loop-receiver : goal.invariant-loop-receiver
invariant-loop-receiver l = record {
  long : length l.receiver-items ≡ length l.initial.receiver-items;
  passed : (i : ℕ) (p : Receiver) → i < l.receiver-index → Passed l.e l.v.bytes (get_or l.initial.receiver-items i p) (get_or l.receiver-items i p);
  rest : (i : ℕ) (p : Receiver) → l.receiver-index ≤ i → get_or l.receiver-items i p ≡ get_or l.initial.receiver-items i p;
}
