-- EVERY RECEIVER GETS EVERY MESSAGE: what the main promise says of one message in the synchronous network holds of all messages, whatever
-- the order in which packets arrive. Each promise is a type, whose proof is the theorem. Defines, in this order:
--   Named           each reader names as many links as a message has packets
--   FitNames        the readers of every plan that fits do
--   ReadsWhatCame   from all that came in over its links a receiver reads the message
--   Messages        all that was begun are messages of the net
--   Delivers        a plan at work: what is under way, what receivers have put out, and that nothing is refused
--   Delivered       every plan that serves all receivers delivers, made here or not
--   AtWork          a plan that delivers, or names a receiver whom no scheme whatever could serve
--   PlanDelivers    so does the plan of every accepted net
-- Assumes nothing.
use Rattle.std.specs.Prelude.{◌≡◌, ℕ, ◌+◌, ◌*◌, ◌<◌, ◌≤◌, Bool, true, ◌⊎◌, List, [], ◌∷◌, length, take, slice_index}
use mathlib.Core.List.{Memᴰ}
use Rattle.gf.proofs.Fields.{byte_field}
use Rattle.linear.specs.Transport.{Message}
use Rattle.network.specs.Network.{Multicast, link_at, Accepted}
use Rattle.network_cuts.specs.Scheme.{Packet, got}
use Rattle.wire.specs.Plan.{Reader, Plan, served, unserved, Fits}
use Rattle.planner_theory.specs.Plan.{plan_of}
use Rattle.planner_theory.specs.Promise.{reader_at, Serves, Unserved}
use Rattle.relay_theory.specs.Relay.{find}
use Rattle.run_theory.specs.Run.{Config, Event, deliver, went, refuses, third_before, step, run}
use Rattle.run_theory.specs.Promise.{Led, due, sent_by, Stage, arrivals}
use Rattle.delivery_theory.specs.Work.{working, reading}

abbrev pub Named : Multicast → List Reader → Type 0
Named m rs = (i : ℕ) → i < length m.receivers → length (reader_at rs i).links ≡ m.rate

abbrev pub FitNames : Type 0
FitNames = (m : Multicast) (cs : List (List ℕ)) (rs : List Reader) → Fits m (served cs rs) → Named m rs

-- i: which of the receivers; its packets are those of the synchronous network
abbrev pub ReadsWhatCame : Type 0
ReadsWhatCame =
    (m : Multicast) → Accepted m → (cs : List (List ℕ)) (rs : List Reader) → Serves m cs rs → Named m rs
    → (i : ℕ) → i < length m.receivers → (msg : List Packet) → Message byte_field 1024 m.rate msg
    → reading m rs (slice_index m.receivers i) (got m.network (working cs) (slice_index m.receivers i) msg) ≡ msg

abbrev pub Messages : Multicast → List (List Packet) → Type 0
Messages m msgs = (msg : List Packet) → Memᴰ msg msgs → Message byte_field 1024 m.rate msg

-- `may`: any rule of when the source begins the next message; c: any state to which a run has led
pub record Delivers (m : Multicast) (cs : List (List ℕ)) (rs : List Reader) : Type 0 where
  -- the packet of each link and round is unsent, under way, kept at the link's end or gone with its round, in one place, and it is what the synchronous network has on that link
  pub whereabouts : (may : Config → Bool) (c : Config) → Led m.network (working cs) (reading m rs) may c → (k r : ℕ) → k < length m.network.links
      → Stage (due m.network (working cs) c k r) r (sent_by c (link_at m.network.links k).from) (c.states (link_at m.network.links k).to).round
      (find c.way k r) ((c.states (link_at m.network.links k).to).kept k r)
  -- and nothing else is under way
  pub under-way : (may : Config → Bool) (c : Config) → Led m.network (working cs) (reading m rs) may c → (k r : ℕ)
      → (find c.way k r ≡ [])
      ⊎ ((k < length m.network.links) × (r < length c.begun) × (find c.way k r ≡ due m.network (working cs) c k r ∷ []))
  -- what a receiver has put out is the first messages, in order
  pub in_order : (may : Config → Bool) (c : Config) → Led m.network (working cs) (reading m rs) may c → Messages m c.begun
      → (i : ℕ) → i < length m.receivers
      → (n : ℕ) × (n ≤ length c.begun) × (c.out (slice_index m.receivers i) ≡ take n c.begun)
  -- when nothing is under way, it is all of them
  pub all : (may : Config → Bool) (c : Config) → Led m.network (working cs) (reading m rs) may c → Messages m c.begun → c.way ≡ []
      → (i : ℕ) → i < length m.receivers → c.out (slice_index m.receivers i) ≡ c.begun
  -- no more packets arrive than one for each link and message
  pub few : (may : Config → Bool) (es : List Event) (c : Config) → run m.network (working cs) (reading m rs) may es ≡ went c
      → arrivals es + length c.way ≤ length m.network.links * length c.begun
  -- where the source waits until each node has ended the third round before, nothing is ever refused,
  pub none-refused : (es : List Event) (n : ℕ) → run m.network (working cs) (reading m rs) (third_before m.network) es ≡ refuses n → ⊥
  -- each packet under way can arrive at any time,
  pub can-arrive : (c : Config) → Led m.network (working cs) (reading m rs) (third_before m.network) c → (j : ℕ) → j < length c.way
      → (c' : Config) × (step m.network (working cs) (reading m rs) (third_before m.network) c (deliver j) ≡ went c')
  -- and when none is, the source may begin the next message
  pub may-begin : (c : Config) → Led m.network (working cs) (reading m rs) (third_before m.network) c → c.way ≡ []
      → third_before m.network c ≡ true

abbrev pub Delivered : Type 0
Delivered = (m : Multicast) → Accepted m → (cs : List (List ℕ)) (rs : List Reader) → Serves m cs rs → Named m rs → Delivers m cs rs

abbrev pub AtWork : Multicast → Plan → Type 0
AtWork m (served cs rs) = Delivers m cs rs
AtWork m (unserved p side) = Unserved m p side

abbrev pub PlanDelivers : Type 0
PlanDelivers = (m : Multicast) → Accepted m → AtWork m (plan_of m)
