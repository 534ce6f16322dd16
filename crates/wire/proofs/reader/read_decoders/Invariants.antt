use Rattle.std.proofs.Common.{◌≡◌, map, drop, vec_items}
use Rattle.network.specs.Values.{graph}
use Rattle.wire.specs.Format.{each, reader_item}
use Rattle.wire.specs.Values.{reader}
use Rattle.wire.proofs.Reading.{after_all}
use Rattle.wire.proofs.reader.read_decoders.Given as goal

-- the items so far, and what is left to read
abbrev pub invariant-loop-receiver : goal.invariant-loop-receiver
invariant-loop-receiver l =
    each (reader_item (graph l.net.network).links l.net.rate) (vec_items l.net.receivers) l.initial.rest.at l.initial.rest.bytes.now
    ≡ after_all (map reader (vec_items l.decoders)) (each (reader_item (graph l.net.network).links l.net.rate) (drop l.receiver-index (vec_items l.net.receivers)) l.rest.at l.rest.bytes.now)
