-- One message at a time: it begins when nothing is under way, and its packets arrive in the order of the links. Defines, in this order:
--   Rests     a state to which a run has led by the source's rule, with nothing under way
--   Arrived   a message has begun, and then nothing happened but that n packets arrived
--   Passed    a message has begun, and its packets on the links before link k have arrived, and no others
--   Played    the message has begun and all its packets have arrived: nothing is under way
--   Passing   what happens when the packet of link k arrives
--   Began     where the network rests, the next message can begin
--   Passes    then the packet on the next link is under way, is not refused, and arrives
--   Plays     so all arrive, and the network rests again
--   AllEnded  at rest every node that links come into has ended the rounds of all messages
--   OneMore   each receiver has then put out what it reads of the message, and nothing else
-- `due` in a round is what the synchronous network carries: see network_cuts and run_theory.
-- Assumes nothing.
use Rattle.std.specs.Prelude.{◌≡◌, ℕ, ◌+◌, ◌<◌, ◌≤◌, true, ◌⊎◌, List, [], ◌∷◌, ◌++◌, length, ◌≢◌}
use Rattle.network.specs.Network.{Network, Sound, link_at}
use Rattle.network_cuts.specs.Scheme.{Packet, Scheme, got}
use Rattle.relay_theory.specs.Relay.{find, any, Ended, took, receive, readings}
use Rattle.run_theory.specs.Run.{Reader, Config, Event, begin, went, ins, change, third_before, steps}
use Rattle.run_theory.specs.Promise.{Supplied, Led, sent_by, arrivals}

module _ (z : Network) (f : Scheme) (read : Reader) where
  abbrev pub Rests : Config → Type 0
  Rests c = Led z f read (third_before z) c × (c.way ≡ [])

  -- the message begins, and then nothing happens but that n packets arrive
  pub record Arrived (c : Config) (msg : List Packet) (n : ℕ) (c' : Config) : Type 0 where
    pub events : List Event
    pub count : length events ≡ n
    pub only : arrivals events ≡ n
    pub leads : steps z f read (third_before z) (begin msg ∷ events) c ≡ went c'
    pub begun : c'.begun ≡ c.begun ++ msg ∷ []

  -- the round of the message is the number of messages begun before
  pub record Passed (c : Config) (msg : List Packet) (k : ℕ) (c' : Config) : Type 0 where
    pub arrived : Arrived c msg k c'
    -- what is sent over links before k is no longer under way
    pub past : (j : ℕ) → j < k → j < length z.links → (length c.begun < sent_by c' (link_at z.links j).from) × (find c'.way j (length c.begun) ≡ [])
    -- nothing has come over the other links
    pub ahead : (j : ℕ) → k ≤ j → j < length z.links
        → ((c'.states (link_at z.links j).to).round ≤ length c.begun) × ((c'.states (link_at z.links j).to).kept j (length c.begun) ≡ [])
    -- no other round is under way, and those before are over
    pub alone : (j r : ℕ) → (r ≢ length c.begun) → find c'.way j r ≡ []
    pub over : (p : ℕ) → any (ins z p) ≡ true → length c.begun ≤ (c'.states p).round

  abbrev pub Played : Config → List Packet → Config → Type 0
  Played c msg c' = Arrived c msg (length z.links) c' × (c'.way ≡ [])

  -- the packet of link k arrives at node p, which then is in a state with rounds ended: none, or the one of this message
  pub record Passing (c : Config) (msg : List Packet) (k : ℕ) (now : Config) (e : Ended Packet) (then' : Config) : Type 0 where
    pub passed : Passed c msg (k + 1) then'
    -- the link's beginning had sent it
    pub sent : length c.begun < sent_by now (link_at z.links k).from
    pub taken : receive (ins z (link_at z.links k).to) (now.states (link_at z.links k).to)
        (record { link = k; round = length c.begun; content = f k (got z f (link_at z.links k).from msg) })
        ≡ took e
    pub states : then'.states ≡ change (link_at z.links k).to e.state now.states
    pub out : then'.out ≡ change (link_at z.links k).to (now.out (link_at z.links k).to ++ readings (read (link_at z.links k).to) e.rounds) now.out
    pub ended : ((e.rounds ≡ []) × (e.state.round ≡ (now.states (link_at z.links k).to).round))
        ⊎ ((e.rounds ≡ record { number = length c.begun; came = got z f (link_at z.links k).to msg } ∷ []) × (e.state.round ≡ length c.begun + 1))

abbrev pub Began : Type 0
Began =
    (z : Network) → Sound z → Supplied z → (f : Scheme) (read : Reader) (c : Config) → Rests z f read c → (msg : List Packet)
    → (c' : Config) × Passed z f read c msg 0 c' × (c'.states ≡ c.states) × (c'.out ≡ c.out)

abbrev pub Passes : Type 0
Passes =
    (z : Network) → Sound z → Supplied z → (f : Scheme) (read : Reader) (c : Config) → Rests z f read c → (msg : List Packet)
    → (k : ℕ) → k < length z.links → (now : Config) → Passed z f read c msg k now
    → (then' : Config) × (e : Ended Packet) × Passing z f read c msg k now e then'

abbrev pub Plays : Type 0
Plays =
    (z : Network) → Sound z → Supplied z → (f : Scheme) (read : Reader) (c : Config) → Rests z f read c → (msg : List Packet)
    → ((c' : Config) → Passed z f read c msg (length z.links) c' → Played z f read c msg c' × Rests z f read c')
    × ((c' : Config) × Played z f read c msg c')

abbrev pub AllEnded : Type 0
AllEnded =
    (z : Network) → Sound z → Supplied z → (f : Scheme) (read : Reader) (c : Config) → Rests z f read c → (p : ℕ) → any (ins z p) ≡ true
    → length c.begun ≤ (c.states p).round

abbrev pub OneMore : Type 0
OneMore =
    (z : Network) → Sound z → Supplied z → (f : Scheme) (read : Reader) (c : Config) → Rests z f read c → (msg : List Packet)
    → (c' : Config) → Played z f read c msg c' → (j : ℕ) → j < length z.links
    → c'.out (link_at z.links j).to ≡ c.out (link_at z.links j).to ++ read (link_at z.links j).to (got z f (link_at z.links j).to msg) ∷ []
