-- What a relay does, over any sequence of arrivals of which none is refused. Defines, in this order:
--   Distinct    no link stands twice in a list
--   Kept        the law of what has come in and of the rounds that ended
--   Sends       the law of what was sent
--   Lawful      both, of every sequence of what comes in, packets or messages
--   Begins      the source, to which messages come in order, sends the packets of each at once
-- Assumes nothing.
use Rattle.std.specs.Prelude.{◌≡◌, ℕ, ◌+◌, ◌<◌, ◌≤◌, true, false, ◌⊎◌, List, [], ◌∷◌, map}
use Rattle.std.specs.List.{range_with_len}
use Rattle.network_cuts.specs.Scheme.{Packet, Scheme}
use Rattle.relay_theory.specs.Relay.{Parcel, find, State, fresh, is_in, any, complete, came_in, Over, Ended, took, receive, receive_all, send, sent, at_source, origin}

abbrev pub Distinct : List ℕ → Type 0
Distinct [] = Unit {0}
Distinct (k ∷ ks) = (is_in k ks ≡ false) × Distinct ks

-- a round, and what came in for it, among all arrivals
abbrev pub round_of : {A : Type 0} → List ℕ → List (Parcel A) → ℕ → Over A
round_of ins xs r = record { number = r; came = came_in r ins (find xs) }

-- The arrivals xs led to e, and n is the round that the relay works at.
pub record Kept {A : Type 0} (ins : List ℕ) (xs : List (Parcel A)) (e : Ended A) (n : ℕ) : Type 0 where
  -- for a link and a round at most one packet came in
  pub single : (k r : ℕ) → (find xs k r ≡ []) ⊎ ((x : A) × (find xs k r ≡ x ∷ []))
  -- over links that come in, and for no round beyond the two that follow
  pub known : (k r : ℕ) → is_in k ins ≡ false → find xs k r ≡ []
  pub near : (k r : ℕ) → n + 3 ≤ r → find xs k r ≡ []
  -- the rounds that ended are 0, 1, .., n - 1, in order, each with what came in for it
  pub rounds : e.rounds ≡ map (round_of ins xs) (range_with_len 0 n)
  -- for each of them all came in, one packet from each link
  pub full : (r : ℕ) → r < n → (any ins ≡ true) × (complete r ins (find xs) ≡ true)
  -- for round n not all has come in: so each round ended when the last packet of it and of those before it came
  pub waits : any ins ≡ true → complete n ins (find xs) ≡ false

-- For a link that goes out, what was sent over it for round r is what the scheme makes of the packets that came in for r, sent once, if r has ended.
abbrev pub Sends : {A : Type 0} → List ℕ → List (Parcel A) → Ended A → ℕ → Type 0
Sends {A} ins xs e n =
    (f : ℕ → List A → Packet) (outs : List ℕ) → Distinct outs → (l r : ℕ)
    → (is_in l outs ≡ true → r < n → find (sent f outs e.rounds) l r ≡ f l (came_in r ins (find xs)) ∷ [])
    × (n ≤ r → find (sent f outs e.rounds) l r ≡ [])
    × (is_in l outs ≡ false → find (sent f outs e.rounds) l r ≡ [])

abbrev pub Lawful : Type 0 → Type 0
Lawful A =
    (ins : List ℕ) (xs : List (Parcel A)) (e : Ended A) → receive_all ins fresh xs ≡ took e
    → Kept ins xs e e.state.round × Sends ins xs e e.state.round

-- a source that has begun r messages and keeps none
abbrev pub begun : ℕ → State (List Packet)
begun r = record { round = r; kept = λ k r. [] }

abbrev pub Begins : Type 0
Begins =
    (r : ℕ) (m : List Packet) → (e : Ended (List Packet))
    × (receive origin (begun r) (record { link = 0; round = r; content = m }) ≡ took e)
    × (e.state ≡ begun (r + 1))
    × ((f : Scheme) (outs : List ℕ) → sent (at_source f) outs e.rounds ≡ send f r m outs)
