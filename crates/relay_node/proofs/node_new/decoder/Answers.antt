use Rattle.std.proofs.Common.{map, vec_items, sym, ap, ◌∙◌}
use Rattle.relay_node.specs.Assembly.{current}
use Rattle.relay_node.proofs.Assembly.{rows-copied}
use Rattle.relay_node.proofs.Assembled.{no-decoder, decoder-links, decoder-at}
use Rattle.relay_node.proofs.node_new.decoder.Goals as goal

pub returns-in_default : goal.returns-in_default
returns-in_default c =
    let e = no-decoder c.args.place c.args.receivers.now c.args.decoders.now c.in_default.ensures in
    record {
      current = c.new.ensures.items ∙ sym (ap (λ r. current c.args.ins.now r.links) e);
      rows = ap (map vec_items) c.new-in_default.ensures.items ∙ sym (ap (λ r. r.rows) e);
    }

pub returns : goal.returns
returns c =
    let at = c.in-Some.ensures in
    let e = decoder-at c.args.place c.args.receivers.now c.args.decoders.now c.requires.level c.in-Some.i at.0 at.2 in
    let link = c.index-decoders-i.result in
    let row = c.index-decoders-i-2.result in
    record {
      current = decoder-links c.args.place c.args.receivers.now c.args.decoders.now c.args.ins.now _ _ link c.in_ok-current.ensures (c.deref.ensures.value ∙ ap (λ x. vec_items x.links) (sym c.index-decoders-i.is)) (e link c.index-decoders-i.is);
      rows = rows-copied _ _ c.in_ok-rows.ensures.cases.0 ∙ ap (λ x. map vec_items (vec_items x.rows)) (sym c.index-decoders-i-2.is) ∙ sym (ap (λ r. r.rows) (e row c.index-decoders-i-2.is));
    }
