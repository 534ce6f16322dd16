use Rattle.std.proofs.Common.{◌≡◌, ◌+◌, ◌*◌, length}
use Rattle.octets.specs.Reading.{fine}
use Rattle.network.specs.Format.{nodes_in, links_in, receiver_in, previous, receivers}
use Rattle.network.proofs.reader.Headed.check_receivers.Given as goal

-- the receivers so far are good, and `before` is the last of them
abbrev pub invariant-loop-i : goal.invariant-loop-i
invariant-loop-i l =
    (receivers (length l.self.bytes.now) (7 + 4 * links_in l.self.bytes.now) (nodes_in l.self.bytes.now) (receiver_in l.self.bytes.now (links_in l.self.bytes.now)) l.i ≡ fine)
    × (l.before ≡ previous (receiver_in l.self.bytes.now (links_in l.self.bytes.now)) l.i)
