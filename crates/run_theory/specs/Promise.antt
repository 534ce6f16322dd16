-- What is promised of whole runs. Each promise is a type, whose proof is the theorem. Defines, in this order:
--   Supplied        a link comes into every node, not the source, that one leaves: so it is in every accepted net
--   Led, due        a state to which a run has led; what the synchronous network has on a link in a round
--   Whereabouts     where the packet of each link and round is
--   UnderWay, PutOut, Prompt, AllOut     what is under way, and what receivers have put out
--   CanArrive, NoneRefused, MayBegin     nothing is refused where the source waits by its rule, and it never waits for good
--   FewArrivals, EachArrived, OnceOnly   how many packets arrive
--   MessagesThemselves                   what is put out are the messages, where the receiver reads them
-- The synchronous network carries one message over all links at once: `carried` and `got` of network_cuts.
-- Assumes nothing.
use Rattle.std.specs.Prelude.{◌≡◌, ℕ, ◌+◌, ◌*◌, ◌<◌, ◌≤◌, Bool, true, false, cond, ◌⊎◌, List, [], ◌∷◌, map, length, take, ◌==◌, ◌≢◌, slice_index_or}
use mathlib.Core.List.{Memᴰ}
use Rattle.network.specs.Network.{Network, Sound, link_at}
use Rattle.network_cuts.specs.Scheme.{Packet, Scheme, carried, got}
use Rattle.relay_theory.specs.Relay.{Parcel, find, is_over, refused, receive}
use Rattle.run_theory.specs.Run.{Reader, Config, Event, begin, deliver, went, refuses, ins, third_before, step, run}

abbrev pub Supplied : Network → Type 0
Supplied z =
    (k : ℕ) → k < length z.links → ((link_at z.links k).from ≢ 0)
    → (j : ℕ) × (j < length z.links) × ((link_at z.links j).to ≡ (link_at z.links k).from)

-- a run has led here, by whatever rule the source begins
abbrev pub Led : Network → Scheme → Reader → (Config → Bool) → Config → Type 0
Led z f read may c = (es : List Event) × (run z f read may es ≡ went c)

-- what the synchronous network has on a link in a round
abbrev pub due : Network → Scheme → Config → ℕ → ℕ → Packet
due z f c k r = slice_index_or (carried z f (slice_index_or c.begun r [])) k []

-- how many rounds a node has sent: the source those begun, any other those that are over there
abbrev pub sent_by : Config → ℕ → ℕ
sent_by c p = cond (p == 0) (length c.begun) (c.states p).round

-- where the packet v of round r on a link is, whose beginning has sent the rounds below a and at whose end those below b are over: what is under way, and what is kept
pub data Stage (v : Packet) (r a b : ℕ) (way kept : List Packet) : Type 0 where
  unsent : a ≤ r → b ≤ r → way ≡ [] → kept ≡ [] → Stage v r a b way kept
  under : r < a → b ≤ r → way ≡ v ∷ [] → kept ≡ [] → Stage v r a b way kept
  here : r < a → b ≤ r → way ≡ [] → kept ≡ v ∷ [] → Stage v r a b way kept
  gone : r < a → r < b → way ≡ [] → kept ≡ [] → Stage v r a b way kept

-- For each link and round: before it is sent nothing is under way or kept, then just the packet that the synchronous network has there, in one place, and nothing once the round is over.
abbrev pub Whereabouts : Type 0
Whereabouts =
    (z : Network) → Sound z → (f : Scheme) (read : Reader) (may : Config → Bool) (c : Config) → Led z f read may c → (k r : ℕ) → k < length z.links →
    Stage (due z f c k r) r (sent_by c (link_at z.links k).from) (c.states (link_at z.links k).to).round (find c.way k r) ((c.states (link_at z.links k).to).kept k r)

-- What is under way for a link and a round is what the synchronous network carries over it, and there is at most one; and it is of a round begun, and of a link of the network.
abbrev pub UnderWay : Type 0
UnderWay =
    (z : Network) → Sound z → (f : Scheme) (read : Reader) (may : Config → Bool) (c : Config) → Led z f read may c →
    (k r : ℕ) → (find c.way k r ≡ []) ⊎ ((k < length z.links) × (r < length c.begun) × (find c.way k r ≡ due z f c k r ∷ []))

-- What a receiver has put out is what it would read in the synchronous network, of the first n messages, in order.
abbrev pub PutOut : Type 0
PutOut =
    (z : Network) → Sound z → (f : Scheme) (read : Reader) (may : Config → Bool) (c : Config) → Led z f read may c →
    (p : ℕ) → (n : ℕ) × (n ≤ length c.begun) × (c.out p ≡ map (λ m. read p (got z f p m)) (take n c.begun))

-- A round ends as soon as all has come in: three at once are enough. A node that no link comes into ends none.
abbrev pub Prompt : Type 0
Prompt = (z : Network) → Sound z → (f : Scheme) (read : Reader) (may : Config → Bool) (c : Config) → Led z f read may c → (p : ℕ) → (is_over (ins z p) (c.states p) ≡ false) × (ins z p ≡ [] → c.out p ≡ [])

-- When nothing is under way, each receiver that a link leads to has put out all that was begun.
abbrev pub AllOut : Type 0
AllOut =
    (z : Network) → Sound z → Supplied z → (f : Scheme) (read : Reader) (may : Config → Bool) (c : Config) → Led z f read may c →
    c.way ≡ [] → (k : ℕ) → k < length z.links → c.out (link_at z.links k).to ≡ map (λ m. read (link_at z.links k).to (got z f (link_at z.links k).to m)) c.begun

-- Where the source waits until each node has ended the third round before, every packet under way can arrive at any time,
abbrev pub CanArrive : Type 0
CanArrive =
    (z : Network) → Sound z → (f : Scheme) (read : Reader) (c : Config) → Led z f read (third_before z) c →
    (i : ℕ) → i < length c.way → (c' : Config) × (step z f read (third_before z) c (deliver i) ≡ went c')

-- and none is ever refused.
abbrev pub NoneRefused : Type 0
NoneRefused = (z : Network) → Sound z → (f : Scheme) (read : Reader) (es : List Event) (n : ℕ) → run z f read (third_before z) es ≡ refuses n → ⊥

-- When nothing is under way, the source may begin the next message.
abbrev pub MayBegin : Type 0
MayBegin = (z : Network) → Sound z → Supplied z → (f : Scheme) (read : Reader) (may : Config → Bool) (c : Config) → Led z f read may c → c.way ≡ [] → third_before z c ≡ true

unfoldable pub arrivals : List Event → ℕ
arrivals [] = 0
arrivals (begin m ∷ es) = arrivals es
arrivals (deliver i ∷ es) = 1 + arrivals es

-- Arrivals come to an end: there are no more, with what is under way, than one for each link and message begun,
abbrev pub FewArrivals : Type 0
FewArrivals =
    (z : Network) → Sound z → (f : Scheme) (read : Reader) (may : Config → Bool) (es : List Event) (c : Config) → run z f read may es ≡ went c →
    arrivals es + length c.way ≤ length z.links * length c.begun

-- and when nothing is under way, there was just one for each.
abbrev pub EachArrived : Type 0
EachArrived =
    (z : Network) → Sound z → Supplied z → (f : Scheme) (read : Reader) (may : Config → Bool) (es : List Event) (c : Config) → run z f read may es ≡ went c → c.way ≡ [] →
    arrivals es ≡ length z.links * length c.begun

-- A second packet for a link and a round, when the first has arrived, is refused, as 7, whatever it holds.
abbrev pub OnceOnly : Type 0
OnceOnly =
    (z : Network) → Sound z → (f : Scheme) (read : Reader) (may : Config → Bool) (c : Config) → Led z f read may c → (x : Parcel Packet) → x.link < length z.links →
    x.round < sent_by c (link_at z.links x.link).from → find c.way x.link x.round ≡ [] → receive (ins z (link_at z.links x.link).to) (c.states (link_at z.links x.link).to) x ≡ refused 7

-- A receiver that reads each message in the synchronous network puts out the messages themselves, in order.
abbrev pub MessagesThemselves : Type 0
MessagesThemselves =
    (z : Network) → Sound z → (f : Scheme) (read : Reader) (may : Config → Bool) (c : Config) → Led z f read may c → (p : ℕ) → ((m : List Packet) → Memᴰ m c.begun → read p (got z f p m) ≡ m) →
    c.out p ≡ take (length (c.out p)) c.begun
