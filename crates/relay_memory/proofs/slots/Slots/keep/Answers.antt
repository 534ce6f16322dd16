use Rattle.std.proofs.Common.{◌+◌, ◌-◌, ◌*◌, ◌/◌, length, vec_items, ◌∙◌, arith}
use borrow.Rule.Slice.PartMut.{put_mid, same_len_mid}
use Rattle.std.proofs.lemmas.List.{with_items_is}
use Rattle.relay_memory.specs.Memory.{slot}
use Rattle.relay_memory.proofs.Steps.{set_below, kept-state}
use Rattle.relay_memory.proofs.slots.Slots.keep.Goals as goal

pub invariant_of-self : goal.invariant_of-self
invariant_of-self c =
    let s = c.args.self.now in
    let here = slot c.len.result c.args.round c.args.i in
    record {
      rising = s.rising;
      few = s.few;
      narrow = s.narrow;
      tagged = s.tagged;
      level = s.level;
      recent = set_below _ _ _ _ (omega (arith, c.from.ensures, c.requires.window)) s.recent;
      bounded = λ j r e. omega (arith, set_below 4294967295 c.from.result (vec_items s.tags) here (omega (arith, c.from.ensures, c.ranges.round.fits)) (λ k q f. omega (arith, s.bounded k q f)) j r e);
      counted = s.counted;
    }

pub returns-clause-state : goal.returns-clause-state
returns-clause-state c =
    let s = c.args.self.now in
    let bs = c.args.bytes.now in
    let first = slot c.len.result c.args.round c.args.i * s.width in
    let count = first + s.width - first in
    let old = c.deref_mut.result.now in
    let new = c.copy_from_slice.new.self in
    kept-state s _ c.len.ensures c.args.i c.args.round c.from.result count (length bs / 1024) bs _ old new
    (with_items_is s.packets (put_mid first count old new) (same_len_mid first count old new c.copy_from_slice.ensures.len ∙ c.deref_mut.ensures.len)) c.deref_mut.ensures.value
    (c.copy_from_slice.ensures.after ∙ c.as_chunks.ensures.front) c.from.ensures c.requires.link c.requires.window.0 c.requires.window.1 c.requires.free (omega arith) (omega arith)
