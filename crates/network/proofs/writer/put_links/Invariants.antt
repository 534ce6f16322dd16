use Rattle.std.proofs.Common.{◌≡◌, ◌++◌, take, vec_items}
use Rattle.std.specs.List.{flat_map}
use Rattle.network.specs.Links.{links_of}
use Rattle.network.specs.Format.{link_bytes}
use Rattle.network.proofs.writer.put_links.Given as goal

abbrev pub invariant-loop-link : goal.invariant-loop-link
invariant-loop-link l = vec_items l.out ≡ vec_items l.initial.out ++ flat_map link_bytes (links_of (take l.link-index l.links))
