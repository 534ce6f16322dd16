use Rattle.std.proofs.Common.{◌≡◌, map, drop, vec_items}
use Rattle.network.specs.Values.{value}
use Rattle.wire.specs.Plan.{hands}
use Rattle.wire.specs.Format.{each, link_item}
use Rattle.wire.proofs.Reading.{after_all}
use Rattle.wire.proofs.reader.read_coefficients.Given as goal

-- the items so far, and what is left to read
abbrev pub invariant-loop-link : goal.invariant-loop-link
invariant-loop-link l =
    each link_item (hands (value l.net)) l.initial.rest.at l.initial.rest.bytes.now
    ≡ after_all (map vec_items (vec_items l.rows)) (each link_item (drop l.link-index (hands (value l.net))) l.rest.at l.rest.bytes.now)
