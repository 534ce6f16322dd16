use Rattle.std.proofs.Common.{◌≡◌, length, take, drop, vec_items, vec_len, sym, ap, ◌∙◌, subst, arith}
use Rattle.std.proofs.lemmas.List.{take_all, take_at}
use Rattle.std.specs.Io.KnownBytes.{Consumes}
use Rattle.relay_memory.specs.Values.{Tells, state}
use Rattle.relay_node.specs.Records.{take_record}
use Rattle.relay_node.specs.Values.{Alike}
use Rattle.relay_console.specs.Taking.{ended}
use Rattle.relay_console.proofs.Passed.{passed}
use Rattle.relay_console.proofs.intake.Intake.take_next.Goals as goal

pub returns-in-Ok-clause-takes : goal.returns-in-Ok-clause-takes
returns-in-Ok-clause-takes g c =
    let bytes = c.deref.result.now in
    let was = g.R.Read.remaining c.args.input.now in
    let left = g.R.Read.remaining c.fill.new.input in
    let n = c.in_ok-count.count in
    let read = passed c.fill.result c.or_stop.result n (λ m. Consumes was left (take m c.fill.new.bytes)) c.or_stop.ensures c.in_ok-count.was c.fill.ensures.next in
    let long : length c.fill.new.bytes ≡ vec_len c.args.self.now.room = omega (arith, c.deref_mut.ensures.len, c.fill.auto.bytes) in
    let whole = sym (take_at c.fill.new.bytes (drop (length c.fill.new.bytes) (vec_items c.args.self.now.room)) (vec_len c.args.self.now.room) long) ∙ sym c.deref.ensures.value in
    record {
      record_bytes = bytes;
      whole = c.deref.ensures.len ∙ c.args.self.now.long;
      next = subst (Consumes was left) (take_all n c.fill.new.bytes (omega (arith, long, c.if-count-len.false, c.len.ensures)) ∙ whole) read;
      outcome = c.take_record.result;
      told = c.take_record.ensures.answer;
      same = c.in-Ok.ensures.code;
      rounds = ap ended (sym c.in-Ok.is);
    }

pub returns-in_ok-refuse-in-Err-clause-takes : goal.returns-in_ok-refuse-in-Err-clause-takes
returns-in_ok-refuse-in-Err-clause-takes g c =
    let bytes = c.deref.result.now in
    let was = g.R.Read.remaining c.args.input.now in
    let left = g.R.Read.remaining c.fill.new.input in
    let n = c.in_ok-count.count in
    let d = c.args.self.now.node in
    let read = passed c.fill.result c.or_stop.result n (λ m. Consumes was left (take m c.fill.new.bytes)) c.or_stop.ensures c.in_ok-count.was c.fill.ensures.next in
    let long : length c.fill.new.bytes ≡ vec_len c.args.self.now.room = omega (arith, c.deref_mut.ensures.len, c.fill.auto.bytes) in
    let whole = sym (take_at c.fill.new.bytes (drop (length c.fill.new.bytes) (vec_items c.args.self.now.room)) (vec_len c.args.self.now.room) long) ∙ sym c.deref.ensures.value in
    record {
      record_bytes = bytes;
      whole = c.deref.ensures.len ∙ c.args.self.now.long;
      next = subst (Consumes was left) (take_all n c.fill.new.bytes (omega (arith, long, c.if-count-len.false, c.len.ensures)) ∙ whole) read;
      outcome = c.take_record.result;
      told = subst (λ e. Tells d.slots e.slots c.take_record.result (take_record d.source d.slots.width (vec_items d.slots.ins) (state d.slots) bytes)) (sym c.refuse-in-Err.ensures) c.take_record.ensures.answer;
      same = subst (Alike d) (sym c.refuse-in-Err.ensures) c.in-Err.ensures.code;
      rounds = ap ended (sym c.in-Err.is);
    }
