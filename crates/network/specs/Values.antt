-- What the program's values stand for. Defines, in this order:
--   graph, value   the network, and the net, that a value of the program is
--   Answers    what the answer of `read` says of the bytes
--   Settled    that a fault it tells does not depend on what lies behind
--   Refuses, Tells   what a part of the reader tells of its items
--   Names      what it tells of the faults of one item
-- Assumes nothing.
use Rattle.std.specs.Prelude.{◌≡◌, ℕ, List, Ok, Err, vec_items, Result}
use Rattle.network.specs.Network.{Network, Multicast}
use Rattle.network.specs.Links.{links_of}
use Rattle.octets.specs.Reading.{Reading, got, fault, fine}
use Rattle.network.specs.Format.{read_net, Local}
use Rattle.network.specs.Faults.{number}
use Rattle.network.specs.declared.net.Network.{Network as Graph}
use Rattle.network.specs.declared.net.Multicast.{Multicast as Net}
use Rattle.network.specs.declared.fault.Fault.{Fault}
use Rattle.network.specs.declared.fault.ReadError.{ReadError}
use Rattle.network.specs.declared.fault.ReadError.TheVariants.{Faulty, Memory}

abbrev pub graph : Graph → Network
graph z = record { nodes = z.nodes; links = links_of (vec_items z.links) }

abbrev pub value : Net → Multicast
value m = record { network = graph m.network; rate = m.rate; receivers = vec_items m.receivers }

-- memory is wanted only where the bytes are a net: no fault goes untold for it
abbrev pub Answers : List ℕ → Result Net ReadError → Type 0
Answers bs (Ok m) = read_net bs ≡ got (value m)
Answers bs (Err (Faulty f at)) = read_net bs ≡ fault (number f) at
Answers bs (Err Memory) = (m : Multicast) × (read_net bs ≡ got m)

abbrev pub Settled : List ℕ → ReadError → Type 0
Settled bs (Faulty f at) = Local bs (number f) at
Settled bs Memory = Unit {0}

abbrev pub Refuses : Reading (Unit {0}) → ReadError → Type 0
Refuses v (Faulty f at) = v ≡ fault (number f) at
Refuses v Memory = ⊥

abbrev pub Tells : {A : Type 0} → Reading (Unit {0}) → Result A ReadError → Type 0
Tells v (Ok x) = v ≡ fine
Tells v (Err e) = Refuses v e

-- 0 stands for no fault
abbrev pub Names : ℕ → Result (Unit {0}) Fault → Type 0
Names n (Ok x) = n ≡ 0
Names n (Err f) = n ≡ number f
