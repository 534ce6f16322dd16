use Rattle.std.proofs.Common.{◌≡◌, ℕ, ◌<◌, length, get_or, vec_items}
use Rattle.wire.specs.declared.plan.Decoder.{Decoder}
use Rattle.coding.specs.Decoding.{Leaves}
use Rattle.coding.specs.declared.receiver.Receiver.{Receiver}
use Rattle.coding.proofs.coder.Coder.decoders.Given as goal

abbrev pub invariant-loop-receiver : goal.invariant-loop-receiver
invariant-loop-receiver l = record {
  long : length (vec_items l.decoders) ≡ l.receiver-index;
  leave : (i : ℕ) (p : Receiver) (d : Decoder) → i < l.receiver-index → Leaves (get_or (vec_items l.self.receivers) i p) (get_or (vec_items l.decoders) i d);
}
