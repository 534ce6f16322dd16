use Rattle.std.proofs.Common.{vec_items, sym, refl, ◌∙◌, arith}
use Rattle.std.proofs.lemmas.List.{take_rest}
use Rattle.relay_memory.specs.Values.{state}
use Rattle.relay_node.proofs.Heads.{word_read, packet-behind, takes-packet, takes-message, takes_none, told}
use Rattle.relay_node.proofs.node.Node.take_record.Goals as goal
use Rattle.relay_node.proofs.node.Node.take_record.Goals.{else-bytes-eq-PACKET_RECORD_LENGTH-via-then-bytes-eq-PACKET_RECORD_LENGTH+else-bytes-eq-PACKET, else-bytes-eq-PACKET_RECORD_LENGTH-via-else-bytes-eq-PACKET_RECORD_LENGTH, else-bytes-gt4-via-then-bytes-gt4+else-bytes-eq-MESSAGE, else-bytes-gt4-via-else-bytes-gt4}

pub returns-then-bytes-eq-PACKET-clause-answer : goal.returns-then-bytes-eq-PACKET-clause-answer
returns-then-bytes-eq-PACKET-clause-answer c =
    let d = c.args.self.now in
    let bs = c.args.bytes.now in
    told d.slots _ _ _ _
    (takes-packet d.source d.slots.width (vec_items d.slots.ins) (state d.slots) bs c.word-link.result c.long_at-round.result _ c.if-bytes-eq-PACKET_RECORD_LENGTH.true c.if-bytes-eq-PACKET.true
    (c.word-link.ensures ∙ word_read bs 1) c.long_at-round.ensures (packet-behind bs _ _ c.if-bytes-eq-PACKET_RECORD_LENGTH.true (take_rest bs 7) c.as_chunks.ensures.front)) c.take.ensures.answer

pub returns-then-bytes-eq-MESSAGE-clause-answer : goal.returns-then-bytes-eq-MESSAGE-clause-answer
returns-then-bytes-eq-MESSAGE-clause-answer c =
    let d = c.args.self.now in
    let bs = c.args.bytes.now in
    told d.slots _ _ _ _
    (takes-message d.source d.slots.width (vec_items d.slots.ins) (state d.slots) bs c.long_at-round-then-bytes-eq-MESSAGE.result _ c.if-bytes-gt4.true c.if-bytes-eq-MESSAGE.true
    c.long_at-round-then-bytes-eq-MESSAGE.ensures (take_rest bs 5)) c.take_message.ensures.answer

pub returns-clause-answer : goal.returns-clause-answer
returns-clause-answer c =
    let d = c.args.self.now in
    let bs = c.args.bytes.now in (
      sym (takes_none d.source d.slots.width (vec_items d.slots.ins) (state d.slots) bs
          (λ l k. elim c.else-bytes-eq-PACKET_RECORD_LENGTH.branch [
            | else-bytes-eq-PACKET_RECORD_LENGTH-via-then-bytes-eq-PACKET_RECORD_LENGTH+else-bytes-eq-PACKET w ↦ w.if-bytes-eq-PACKET.false k
            | else-bytes-eq-PACKET_RECORD_LENGTH-via-else-bytes-eq-PACKET_RECORD_LENGTH w ↦ w.if-bytes-eq-PACKET_RECORD_LENGTH.false l
          ])
          (λ l k. elim c.else-bytes-gt4.branch [
            | else-bytes-gt4-via-then-bytes-gt4+else-bytes-eq-MESSAGE w ↦ w.if-bytes-eq-MESSAGE.false k
            | else-bytes-gt4-via-else-bytes-gt4 w ↦ omega (arith, w.if-bytes-gt4.false)
          ])),
      refl,
    )
