-- One relay or receiver, round by round. Defines, in this order:
--   Parcel             what comes in or goes out, with its link and its round
--   find               what there is for a link and a round
--   State, fresh       the round that a relay works at, and what it keeps
--   is_over, ends      when a round is over, and the rounds that end one after the other
--   receive            what comes of an arrival: the number of a refusal, or the new state and the rounds that ended
--   receive_all        the same of arrivals one after the other
--   sent, readings     what a relay sends for the rounds that ended, and what a receiver puts out for them
--   at_source, origin  the source, to which whole messages come in over the one link `origin`
--   numbers            the links at a node
-- A is the type of what comes in: a packet, and at the source a whole message.
-- Assumes nothing.
use Rattle.std.specs.Prelude.{ℕ, zero, suc, ◌+◌, Bool, true, false, cond, not, ◌&&◌, ◌||◌, List, [], ◌∷◌, ◌++◌, ◌==◌, nat_lt}
use Rattle.std.specs.List.{flat_map}
use Rattle.network.specs.Network.{Link}
use Rattle.network_cuts.specs.Scheme.{Packet, Scheme}

pub record Parcel (A : Type 0) : Type 0 where
  pub link : ℕ
  pub round : ℕ
  pub content : A

-- what there is for each link and round, and one parcel more
unfoldable pub added : {A : Type 0} → Parcel A → (ℕ → ℕ → List A) → ℕ → ℕ → List A
added x kept k r = cond (k == x.link && r == x.round) (x.content ∷ kept k r) (kept k r)

-- what parcels hold for a link and a round
unfoldable pub find : {A : Type 0} → List (Parcel A) → ℕ → ℕ → List A
find [] k r = []
find (x ∷ xs) k r = added x (find xs) k r

-- the round that it works at, before which all are over; what is kept for each link and round
pub record State (A : Type 0) : Type 0 where
  pub round : ℕ
  pub kept : (k r : ℕ) → List A

abbrev pub fresh : {A : Type 0} → State A
fresh = record { round = 0; kept = λ k r. [] }

unfoldable pub is_in : ℕ → List ℕ → Bool
is_in k [] = false
is_in k (j ∷ js) = k == j || is_in k js

unfoldable pub any : {A : Type 0} → List A → Bool
any [] = false
any (x ∷ xs) = true

-- whether there is something of the round for each of the links
unfoldable pub complete : {A : Type 0} → ℕ → List ℕ → (ℕ → ℕ → List A) → Bool
complete r [] kept = true
complete r (k ∷ ks) kept = any (kept k r) && complete r ks kept

-- what there is of the round, in the order of the links
unfoldable pub came_in : {A : Type 0} → ℕ → List ℕ → (ℕ → ℕ → List A) → List A
came_in r [] kept = []
came_in r (k ∷ ks) kept = kept k r ++ came_in r ks kept

-- whether its round is over; where no link comes in none ever is
unfoldable pub is_over : {A : Type 0} → List ℕ → State A → Bool
is_over ins s = any ins && complete s.round ins s.kept

-- a round that is over: its number, and what came in
pub record Over (A : Type 0) : Type 0 where
  pub number : ℕ
  pub came : List A

-- the state, and the rounds that have ended, in order
pub record Ended (A : Type 0) : Type 0 where
  pub state : State A
  pub rounds : List (Over A)

abbrev pub over_now : {A : Type 0} → List ℕ → State A → Over A
over_now ins s = record { number = s.round; came = came_in s.round ins s.kept }

-- all that is kept but that of a round
unfoldable pub except : {A : Type 0} → ℕ → (ℕ → ℕ → List A) → ℕ → ℕ → List A
except r₀ kept k r = cond (r == r₀) [] (kept k r)

abbrev pub next : {A : Type 0} → State A → State A
next s = record { round = s.round + 1; kept = except s.round s.kept }

-- rounds that ended before
abbrev pub after : {A : Type 0} → List (Over A) → Ended A → Ended A
after os e = record { state = e.state; rounds = os ++ e.rounds }

-- rounds end one after the other, while they are over, at most n
unfoldable pub ends : {A : Type 0} → ℕ → List ℕ → State A → Ended A
ends zero ins s = record { state = s; rounds = [] }
ends (suc n) ins s = cond (is_over ins s) (after (over_now ins s ∷ []) (ends n ins (next s))) (record { state = s; rounds = [] })

pub data Answer (A : Type 0) : Type 0 where
  refused : ℕ → Answer A
  took : Ended A → Answer A

abbrev pub keep : {A : Type 0} → Parcel A → State A → State A
keep x s = record { round = s.round; kept = added x s.kept }

-- 6: it comes over no link that comes in here; 7: there is one already, or the round is over; 8: it is more than two rounds early
unfoldable pub receive : {A : Type 0} → List ℕ → State A → Parcel A → Answer A
receive ins s x =
    cond (not (is_in x.link ins)) (refused 6)
    (cond (nat_lt x.round s.round || any (s.kept x.link x.round)) (refused 7)
    (cond (nat_lt (s.round + 2) x.round) (refused 8)
    (took (ends 3 ins (keep x s)))))

abbrev pub behind : {A : Type 0} → List (Over A) → Answer A → Answer A
behind os (refused n) = refused n
behind os (took e) = took (after os e)

abbrev pub and_then : {A : Type 0} → Answer A → (State A → Answer A) → Answer A
and_then (refused n) go = refused n
and_then (took e) go = behind e.rounds (go e.state)

-- the first refusal, or the state at the end and all rounds that ended
unfoldable pub receive_all : {A : Type 0} → List ℕ → State A → List (Parcel A) → Answer A
receive_all ins s [] = took (record { state = s; rounds = [] })
receive_all ins s (x ∷ xs) = and_then (receive ins s x) (λ t. receive_all ins t xs)

-- what goes out over links in a round, by what is at hand
unfoldable pub send : {A : Type 0} → (ℕ → A → Packet) → ℕ → A → List ℕ → List (Parcel Packet)
send f r bs [] = []
send f r bs (k ∷ ks) = record { link = k; round = r; content = f k bs } ∷ send f r bs ks

unfoldable pub sent : {A : Type 0} → (ℕ → List A → Packet) → List ℕ → List (Over A) → List (Parcel Packet)
sent f outs [] = []
sent f outs (o ∷ os) = send f o.number o.came outs ++ sent f outs os

unfoldable pub readings : {A : Type 0} → (List A → List Packet) → List (Over A) → List (List Packet)
readings read [] = []
readings read (o ∷ os) = read o.came ∷ readings read os

-- at the source the message is at hand: the packets of the one that came in
abbrev pub at_source : Scheme → ℕ → List (List Packet) → Packet
at_source f k ms = f k (flat_map (λ m. m) ms)

abbrev pub origin : List ℕ
origin = 0 ∷ []

-- the numbers of the links that have a node at one end, in order; k: the number of the first link of the list
unfoldable pub numbers : (Link → ℕ) → ℕ → ℕ → List Link → List ℕ
numbers end p k [] = []
numbers end p k (l ∷ ls) = cond (p == end l) (k ∷ numbers end p (k + 1) ls) (numbers end p (k + 1) ls)
