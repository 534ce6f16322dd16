-- A whole network at work: messages begin, and packets under way arrive in any order. Defines, in this order:
--   Reader            how each receiver reads what came in
--   Config, start     what the network holds at a moment: messages begun, states, packets under way, what was put out
--   Event, Outcome    the source begins a message, or a packet arrives; and what comes of it
--   ins, outs         the links into a node, and out of it
--   third_before      the rule by which the source waits: all have ended the third round before
--   step, run         one event, and all events from the start, by any rule of when the source may begin
-- Assumes nothing.
use Rattle.std.specs.Prelude.{ℕ, zero, suc, ◌+◌, Bool, true, cond, not, ◌&&◌, ◌||◌, List, [], ◌∷◌, ◌++◌, length, ◌==◌, nat_lt}
use Rattle.network.specs.Network.{Network, link_at}
use Rattle.network_cuts.specs.Scheme.{Packet, Scheme}
use Rattle.relay_theory.specs.Relay.{Parcel, State, fresh, Ended, Answer, refused, took, receive, send, sent, readings, numbers, any}

-- how the receiver at each node reads what came in
abbrev pub Reader : Type 0
Reader = ℕ → List Packet → List Packet

-- the messages begun, in order; the state of the relay and receiver at each node; what is under way; what each receiver has put out
pub record Config : Type 0 where
  pub begun : List (List Packet)
  pub states : ℕ → State Packet
  pub way : List (Parcel Packet)
  pub out : ℕ → List (List Packet)

abbrev pub start : Config
start = record { begun = []; states = λ _. fresh; way = []; out = λ _. [] }

-- the source begins a message; the packet at a place of the list of those under way arrives
pub data Event : Type 0 where
  begin : List Packet → Event
  deliver : ℕ → Event

-- it happens; it cannot; the packet that arrives is refused
pub data Outcome : Type 0 where
  went : Config → Outcome
  cannot : Outcome
  refuses : ℕ → Outcome

abbrev pub and_then : Outcome → (Config → Outcome) → Outcome
and_then (went c) go = go c
and_then cannot go = cannot
and_then (refuses n) go = refuses n

-- the numbers of the links that come into a node, and of those that go out
abbrev pub ins : Network → ℕ → List ℕ
ins z p = numbers (λ l. l.to) p 0 z.links

abbrev pub outs : Network → ℕ → List ℕ
outs z p = numbers (λ l. l.from) p 0 z.links

-- one node's value changed
unfoldable pub change : {A : Type 0} → ℕ → A → (ℕ → A) → ℕ → A
change p a g q = cond (q == p) a (g q)

pub data Picked : Type 0 where
  nothing : Picked
  picked : Parcel Packet → List (Parcel Packet) → Picked

abbrev pub beyond : Parcel Packet → Picked → Picked
beyond y nothing = nothing
beyond y (picked x xs) = picked x (y ∷ xs)

-- what is at a place of a list, and what is left
unfoldable pub pick : ℕ → List (Parcel Packet) → Picked
pick i [] = nothing
pick zero (x ∷ xs) = picked x xs
pick (suc i) (x ∷ xs) = beyond x (pick i xs)

-- the source may begin the next message when each node below n that links come into has ended the third round before
unfoldable pub caught_up : Network → Config → ℕ → Bool
caught_up z c zero = true
caught_up z c (suc p) = (not (any (ins z p)) || nat_lt (length c.begun) ((c.states p).round + 3)) && caught_up z c p

abbrev pub third_before : Network → Config → Bool
third_before z c = caught_up z c z.nodes

module _ (z : Network) (f : Scheme) (read : Reader) where
  abbrev pub beginning : Config → List Packet → Config
  beginning c m =
      record {
        begun = c.begun ++ (m ∷ []);
        states = c.states;
        way = c.way ++ send f (length c.begun) m (outs z 0);
        out = c.out;
      }

  -- a node has got on
  abbrev pub onward : Config → ℕ → List (Parcel Packet) → Ended Packet → Config
  onward c p xs e =
      record {
        begun = c.begun;
        states = change p e.state c.states;
        way = xs ++ sent f (outs z p) e.rounds;
        out = change p (c.out p ++ readings (read p) e.rounds) c.out;
      }

  abbrev pub answered : Config → ℕ → List (Parcel Packet) → Answer Packet → Outcome
  answered c p xs (refused n) = refuses n
  answered c p xs (took e) = went (onward c p xs e)

  abbrev pub arrive : Config → Picked → Outcome
  arrive c nothing = cannot
  arrive c (picked x xs) = let p : ℕ = (link_at z.links x.link).to in answered c p xs (receive (ins z p) (c.states p) x)

  -- an event; `may`: when the source may begin
  abbrev pub step : (Config → Bool) → Config → Event → Outcome
  step may c (begin m) = cond (may c) (went (beginning c m)) cannot
  step may c (deliver i) = arrive c (pick i c.way)

  -- events one after the other, and a run from the start
  abbrev pub steps : (Config → Bool) → List Event → Config → Outcome
  steps may [] c = went c
  steps may (e ∷ es) c = and_then (step may c e) (steps may es)

  abbrev pub run : (Config → Bool) → List Event → Outcome
  run may es = steps may es start
