-- Worked examples, as the rows of one table. Bytes are written as the numbers 0 to 255. Defines, in this order:
--   net, casting            networks and nets, from columns of numbers
--   Told, told              paths, or a cut, as a row tells them
--   coefficients, readers   the parts of a plan in which every receiver is served
--   Row                     an example; there is a constructor for each kind
--   Holds                   what an example says
--   table                   the examples
use Rattle.std.specs.Prelude.{◌≡◌, Bool, true, false, List, [], ◌∷◌, ◌++◌, ℕ, get_or, set, replicate}
use Rattle.gf.specs.Polynomial.{mul}
use Rattle.gf.proofs.Fields.{byte_field}
use Rattle.linear.specs.Vectors.{table as flags, row, plus}
use Rattle.linear.specs.Transport.{Message}
use Rattle.linear.specs.Reading.{read_by}
use Rattle.network.specs.Network.{Network, Multicast, link_at, paired}
use Rattle.network_cuts.specs.Scheme.{Packet, carried}
use Rattle.network_cuts.specs.Cut.{out}
use Rattle.flow_theory.specs.Flow.{Found, paths, cut, paths_or_cut}
use Rattle.coding_theory.specs.Coding.{linear}
use Rattle.wire.specs.Plan.{Reader, Plan, served, unserved}
use Rattle.wire.specs.Format.{plan_bytes}
use Rattle.planner_theory.specs.Plan.{plan_of}
use Rattle.planner_theory.specs.Promise.{on_links, reader_at}

-- links from the nodes of one list to those of another
abbrev pub net : (nodes : ℕ) (from to : List ℕ) → Network
net nodes from to = record { nodes = nodes; links = paired from to }

abbrev pub casting : Network → (rate : ℕ) (receivers : List ℕ) → Multicast
casting z h ps = record { network = z; rate = h; receivers = ps }

-- paths that were found, or of a cut the flags of the nodes and how many links lead out
pub data Told : Type 0 where
  along : List (List ℕ) → Told
  across : (side : List Bool) (leads-out : ℕ) → Told

abbrev pub told : Network → Found → Told
told z (paths ws) = along ws
told z (cut side) = across (flags z.nodes side) (out side z.links)

abbrev pub coefficients : Plan → List (List ℕ)
coefficients (served cs rs) = cs
coefficients (unserved p side) = []

abbrev pub readers : Plan → List Reader
readers (served cs rs) = rs
readers (unserved p side) = []

pub data Row : Type 0 where
  -- a times b is c, in the field of bytes
  product : (a b c : ℕ) → Row
  -- what is found for a network, a rate and a receiver
  searched : (z : Network) (h p : ℕ) (answer : Told) → Row
  -- the plan of a net
  planned : (m : Multicast) (answer : Plan) → Row
  -- the plan of a net names a receiver and a cut, out of which so many links lead
  refused : (m : Multicast) (p : ℕ) (side : List Bool) (leads-out : ℕ) → Row
  -- the bytes of the plan of a net
  written : (m : Multicast) (answer : List ℕ) → Row
  -- by the plan of a net link k has these coefficients
  factors : (m : Multicast) (k : ℕ) (answer : List ℕ) → Row
  -- by the plan of a net link k carries the sum of both packets of every message of two
  sums : (m : Multicast) (k : ℕ) → Row
  -- link k leads to receiver i of a net, and whatever it carries, the receiver reads the same
  beside : (m : Multicast) (i k : ℕ) → Row

abbrev pub Holds : Row → Type 0
Holds (product a b c) = mul 8 0x11b a b ≡ c
Holds (searched z h p answer) = told z (paths_or_cut z h p) ≡ answer
Holds (planned m answer) = plan_of m ≡ answer
Holds (refused m p side leads-out) = (plan_of m ≡ unserved p side) × (out (λ q. get_or side q false) m.network.links ≡ leads-out)
Holds (written m answer) = plan_bytes (plan_of m) ≡ answer
Holds (factors m k answer) = row (coefficients (plan_of m)) k ≡ answer
Holds (sums m k) =
    (n : ℕ) (a b : Packet) → Message byte_field n 2 (a ∷ b ∷ [])
    → row (carried m.network (linear byte_field n (coefficients (plan_of m))) (a ∷ b ∷ [])) k ≡ plus a b
Holds (beside m i k) =
    let r : Reader = reader_at (readers (plan_of m)) i in
    ((link_at m.network.links k).to ≡ get_or m.receivers i 0)
    × ((n : ℕ) (bs : List Packet) (x : Packet)
    → read_by byte_field n r.rows (on_links (set bs k x) r.links) ≡ read_by byte_field n r.rows (on_links bs r.links))

-- 0-1, 0-2, 1-3, 1-5, 2-3, 2-6, 3-4, 4-5, 4-6
abbrev pub nine : Network
nine = net 7 (0 ∷ 0 ∷ 1 ∷ 1 ∷ 2 ∷ 2 ∷ 3 ∷ 4 ∷ 4 ∷ []) (1 ∷ 2 ∷ 3 ∷ 5 ∷ 3 ∷ 6 ∷ 4 ∷ 5 ∷ 6 ∷ [])

-- at rate 2, and at rate 3, which is too high
abbrev pub nine2 : Multicast
nine2 = casting nine 2 (5 ∷ 6 ∷ [])

abbrev pub nine3 : Multicast
nine3 = casting nine 3 (5 ∷ 6 ∷ [])

-- one link, two links, and a receiver that no link reaches
abbrev pub one : Multicast
one = casting (net 2 (0 ∷ []) (1 ∷ [])) 1 (1 ∷ [])

abbrev pub two : Multicast
two = casting (net 2 (0 ∷ 0 ∷ []) (1 ∷ 1 ∷ [])) 2 (1 ∷ [])

abbrev pub unreached : Multicast
unreached = casting (net 3 (0 ∷ []) (1 ∷ [])) 1 (2 ∷ [])

-- 0-1, 0-2, 0-3, 1-5, 1-11, 2-4, 3-6, 4-7, 5-7, 6-8, 7-9, 8-10, 9-11, 9-15, 10-11, 11-12, 12-13, 13-14, 14-15
abbrev pub nineteen : Multicast
nineteen =
    casting
    (net 16 (0 ∷ 0 ∷ 0 ∷ 1 ∷ 1 ∷ 2 ∷ 3 ∷ 4 ∷ 5 ∷ 6 ∷ 7 ∷ 8 ∷ 9 ∷ 9 ∷ 10 ∷ 11 ∷ 12 ∷ 13 ∷ 14 ∷ []) (1 ∷ 2 ∷ 3 ∷ 5 ∷ 11 ∷ 4 ∷ 6 ∷ 7 ∷ 7 ∷ 8 ∷ 9 ∷ 10 ∷ 11 ∷ 15 ∷ 11 ∷ 12 ∷ 13 ∷ 14 ∷ 15 ∷ []))
    2
    (11 ∷ 15 ∷ [])

abbrev pub nine_plan : Plan
nine_plan =
    served
    ((1 ∷ 0 ∷ []) ∷ (0 ∷ 1 ∷ []) ∷ (1 ∷ []) ∷ (1 ∷ []) ∷ (1 ∷ []) ∷ (1 ∷ []) ∷ (1 ∷ 1 ∷ []) ∷ (1 ∷ []) ∷ (1 ∷ []) ∷ [])
    (record { links = 3 ∷ 7 ∷ []; rows = (1 ∷ 0 ∷ []) ∷ (1 ∷ 1 ∷ []) ∷ [] } ∷ record { links = 8 ∷ 5 ∷ []; rows = (1 ∷ 1 ∷ []) ∷ (0 ∷ 1 ∷ []) ∷ [] } ∷ [])

abbrev pub nine_bytes : List ℕ
nine_bytes =
    2 ∷ 1 ∷ 0 ∷ 2 ∷ 1 ∷ 0 ∷ 0 ∷ 2 ∷ 0 ∷ 1 ∷ 0 ∷ 1 ∷ 1 ∷ 0 ∷ 1 ∷ 1 ∷ 0 ∷ 1 ∷ 1 ∷ 0 ∷ 1 ∷ 1 ∷ 0 ∷ 2 ∷ 1 ∷ 1 ∷ 0 ∷ 1 ∷ 1 ∷ 0 ∷ 1 ∷ 1
    ∷ 0 ∷ 3 ∷ 0 ∷ 7 ∷ 1 ∷ 0 ∷ 1 ∷ 1 ∷ 0 ∷ 8 ∷ 0 ∷ 5 ∷ 1 ∷ 1 ∷ 0 ∷ 1 ∷ []

-- 32 bytes of flags, of which the last has the flag of the source
abbrev pub cut_bytes : List ℕ
cut_bytes = 2 ∷ 2 ∷ 0 ∷ 5 ∷ replicate 31 0 ++ 1 ∷ []

abbrev pub nineteen_plan : Plan
nineteen_plan =
    served
    ((1 ∷ 0 ∷ []) ∷ (0 ∷ 1 ∷ []) ∷ (0 ∷ 1 ∷ []) ∷ (1 ∷ []) ∷ (1 ∷ []) ∷ (1 ∷ []) ∷ (1 ∷ []) ∷ (1 ∷ []) ∷ (1 ∷ []) ∷ (1 ∷ []) ∷ (1 ∷ 1 ∷ [])
    ∷ (1 ∷ []) ∷ (1 ∷ []) ∷ (1 ∷ []) ∷ (1 ∷ []) ∷ (0 ∷ 0 ∷ 1 ∷ []) ∷ (1 ∷ []) ∷ (1 ∷ []) ∷ (1 ∷ []) ∷ [])
    (record { links = 4 ∷ 12 ∷ []; rows = (1 ∷ 0 ∷ []) ∷ (1 ∷ 1 ∷ []) ∷ [] } ∷ record { links = 13 ∷ 18 ∷ []; rows = (1 ∷ 1 ∷ []) ∷ (0 ∷ 1 ∷ []) ∷ [] } ∷ [])

abbrev pub table : List Row
table =
    product 83 202 1
    ∷ product 2 128 27
    -- the two receivers of the nine-link network at rate 2, and its source alone as the cut at rate 3
    ∷ searched nine 2 5 (along ((0 ∷ 3 ∷ []) ∷ (1 ∷ 4 ∷ 6 ∷ 7 ∷ []) ∷ []))
    ∷ searched nine 2 6 (along ((0 ∷ 2 ∷ 6 ∷ 8 ∷ []) ∷ (1 ∷ 5 ∷ []) ∷ []))
    ∷ searched nine 3 5 (across (true ∷ false ∷ false ∷ false ∷ false ∷ false ∷ false ∷ []) 2)
    ∷ searched one.network 1 1 (along ((0 ∷ []) ∷ []))
    ∷ searched two.network 2 1 (along ((0 ∷ []) ∷ (1 ∷ []) ∷ []))
    ∷ searched unreached.network 1 2 (across (true ∷ true ∷ false ∷ []) 0)
    -- the nine-link net at rate 2: the whole plan, its bytes, and that the link from 3 to 4 carries the sum of both packets
    ∷ planned nine2 nine_plan
    ∷ written nine2 nine_bytes
    ∷ factors nine2 6 (1 ∷ 1 ∷ [])
    ∷ sums nine2 6
    -- the same at rate 3: receiver 5, the source alone, and two links out of it
    ∷ refused nine3 5 (true ∷ replicate 255 false) 2
    ∷ written nine3 cut_bytes
    -- one link, and two
    ∷ planned one (served ((1 ∷ []) ∷ []) (record { links = 0 ∷ []; rows = (1 ∷ []) ∷ [] } ∷ []))
    ∷ planned two (served ((1 ∷ 0 ∷ []) ∷ (0 ∷ 1 ∷ []) ∷ []) (record { links = 0 ∷ 1 ∷ []; rows = (1 ∷ 0 ∷ []) ∷ (0 ∷ 1 ∷ []) ∷ [] } ∷ []))
    -- a receiver with a link that is not on its paths; the link has a coefficient, for the sake of another receiver
    ∷ planned nineteen nineteen_plan
    ∷ beside nineteen 0 14
    -- a receiver that no link reaches: a cut out of which no link leads
    ∷ refused unreached 2 (true ∷ true ∷ replicate 254 false) 0
    ∷ []
