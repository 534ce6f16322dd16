use Rattle.std.proofs.Common.{◌≡◌, ◌++◌, map, take, vec_items}
use Rattle.std.specs.List.{flat_map}
use Rattle.wire.specs.Format.{reader_bytes}
use Rattle.wire.specs.Values.{reader}
use Rattle.wire.proofs.writer.put_decoders.Given as goal

abbrev pub invariant-loop-decoder : goal.invariant-loop-decoder
invariant-loop-decoder l = vec_items l.out ≡ vec_items l.initial.out ++ flat_map reader_bytes (map reader (take l.decoder-index l.decoders))
