use Rattle.std.proofs.Common.{◌≡◌, length}
use Rattle.octets.specs.Reading.{fine}
use Rattle.network.specs.Format.{nodes_in, from_in, to_in, links}
use Rattle.network.proofs.Progress.{Marks}
use Rattle.network.proofs.reader.Headed.check_links.Given as goal

-- the links so far are good, and the flags tell which nodes they leave and which they come into
abbrev pub invariant-loop-k : goal.invariant-loop-k
invariant-loop-k l =
    (links (length l.self.bytes.now) (nodes_in l.self.bytes.now) (from_in l.self.bytes.now) (to_in l.self.bytes.now) l.k ≡ fine) × Marks (from_in l.self.bytes.now) l.k l.left × Marks (to_in l.self.bytes.now) l.k l.entered
