use Rattle.std.proofs.Common.{◌≡◌, ◌/◌, ◌%◌, [], ◌∷◌, ◌∙◌}
use Rattle.relay_node.proofs.Heads.{word-written, long-written, record-written}
use Rattle.relay_node.proofs.records.write_record.Goals as goal

pub returns : goal.returns
returns c =
    let k = c.args.link in
    let r = c.args.round in
    let link : c.copy_from_slice.new.self ≡ k / 256 ∷ k % 256 ∷ [] = c.copy_from_slice.ensures.after ∙ c.to_be_bytes.ensures ∙ word-written k c.ranges.link.fits in
    let round : c.copy_from_slice-2.new.self ≡ r / 65536 / 256 ∷ r / 65536 % 256 ∷ r % 65536 / 256 ∷ r % 65536 % 256 ∷ [] = c.copy_from_slice-2.ensures.after ∙ c.to_be_bytes-2.ensures ∙ long-written r c.ranges.round.fits in
    rw (link, round, c.copy_from_slice-3.ensures.after) (record-written c.args.bytes.now _ _ _ _ _ _ _ c.args.packet.now c.told-bytes)
