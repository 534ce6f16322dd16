-- A run over four nodes in which packets come early, so that three rounds end at once; and what one relay refuses. Defines, in this order:
--   diamond                   the source 0 to the relays 1 and 2, and both to the receiver 3
--   marked, plain             a scheme whose packets say over which link they went and what was at hand; a receiver that reads what came in
--   out_of_order              three messages begin, and all packets arrive, later rounds first
--   waiting                   a relay with the links 4 and 5 in, at work at round 3, that keeps one packet for round 5
--   Computed                  what comes of them; and the premises of the theorems on runs can be met
use Rattle.std.specs.Prelude.{◌≡◌, List, [], ◌∷◌, ◌++◌, ℕ}
use Rattle.network.specs.Network.{Network, Sound}
use Rattle.network_cuts.specs.Scheme.{Packet, Scheme, got}
use Rattle.relay_theory.specs.Relay.{find, State, Over, Answer, refused, took, receive}
use Rattle.run_theory.specs.Run.{Reader, Event, begin, deliver, Outcome, went, cannot, refuses, third_before, run}
use Rattle.run_theory.specs.Promise.{Supplied}

abbrev pub diamond : Network
diamond = record { nodes = 4; links = record { from = 0; to = 1 } ∷ record { from = 0; to = 2 } ∷ record { from = 1; to = 3 } ∷ record { from = 2; to = 3 } ∷ [] }

abbrev pub joined : List Packet → Packet
joined [] = []
joined (b ∷ bs) = b ++ joined bs

abbrev pub marked : Scheme
marked k bs = k ∷ joined bs

abbrev pub plain : Reader
plain p bs = bs

abbrev pub message : ℕ → List Packet
message n = (n ∷ []) ∷ []

abbrev pub out_of_order : List Event
out_of_order =
    begin (message 7) ∷ begin (message 8) ∷ begin (message 9)
    -- under way on links 0 1 0 1 0 1: all of link 1 first, the last round before the others
    ∷ deliver 5 ∷ deliver 3 ∷ deliver 1
    -- now 0 0 0 3 3 3: all of link 3, then link 0 from the last round on, and link 2
    ∷ deliver 3 ∷ deliver 3 ∷ deliver 3 ∷ deliver 2 ∷ deliver 1 ∷ deliver 0 ∷ deliver 2 ∷ deliver 1 ∷ deliver 0 ∷ []

abbrev pub four_messages : List Event
four_messages = begin (message 6) ∷ begin (message 7) ∷ begin (message 8) ∷ begin (message 9) ∷ []

-- what a receiver has put out in the end
abbrev pub put : ℕ → Outcome → List (List Packet)
put p (went c) = c.out p
put p cannot = []
put p (refuses n) = []

abbrev pub waiting : State Packet
waiting = record { round = 3; kept = find (record { link = 4; round = 5; content = [] } ∷ []) }

abbrev pub comes : ℕ → ℕ → Answer Packet
comes k r = receive (4 ∷ 5 ∷ []) waiting (record { link = k; round = r; content = 1 ∷ [] })

-- the round at which a relay works after an arrival, what it then keeps for a link and a round, and the rounds that ended
abbrev pub Leaves : Answer Packet → (round k r : ℕ) → List Packet → List (Over Packet) → Type 0
Leaves (refused n) round k r kept over = ⊥
Leaves (took e) round k r kept over = (e.state.round ≡ round) × (e.state.kept k r ≡ kept) × (e.rounds ≡ over)

pub record Computed : Type 0 where
  pub sound : Sound diamond
  pub supplied : Supplied diamond
  pub three-rounds : put 3 (run diamond marked plain (third_before diamond) out_of_order)
      ≡ ((2 ∷ 0 ∷ 7 ∷ []) ∷ (3 ∷ 1 ∷ 7 ∷ []) ∷ []) ∷ ((2 ∷ 0 ∷ 8 ∷ []) ∷ (3 ∷ 1 ∷ 8 ∷ []) ∷ []) ∷ ((2 ∷ 0 ∷ 9 ∷ []) ∷ (3 ∷ 1 ∷ 9 ∷ []) ∷ []) ∷ []
  pub synchronous : got diamond marked 3 (message 7) ≡ (2 ∷ 0 ∷ 7 ∷ []) ∷ (3 ∷ 1 ∷ 7 ∷ []) ∷ []
  pub fourth-waits : run diamond marked plain (third_before diamond) four_messages ≡ cannot
  pub foreign : comes 6 9 ≡ refused 6
  pub again : comes 4 5 ≡ refused 7
  pub past : comes 5 2 ≡ refused 7
  pub early : comes 5 6 ≡ refused 8
  pub kept : Leaves (comes 5 5) 3 5 5 ((1 ∷ []) ∷ []) []
