-- A relay doesn't look into what comes in. Defines, in this order:
--   map_parcel, map_state, map_over, map_ended, map_answer   what comes in, or came in, replaced by a function of it
--   alone   a packet as a list of one
--   Alone   a relay may take in each packet as a list of one: what is received, sent and read is the same
-- Assumes nothing.
use Rattle.std.specs.Prelude.{◌≡◌, ℕ, List, [], ◌∷◌, map}
use Rattle.std.specs.List.{flat_map}
use Rattle.network_cuts.specs.Scheme.{Packet, Scheme}
use Rattle.relay_theory.specs.Relay.{Parcel, State, Over, Ended, Answer, refused, took, receive, sent, readings, at_source}

module _ {A B : Type 0} (g : A → B) where
  abbrev pub map_parcel : Parcel A → Parcel B
  map_parcel x = record { link = x.link; round = x.round; content = g x.content }

  abbrev pub map_state : State A → State B
  map_state s = record { round = s.round; kept = λ k r. map g (s.kept k r) }

  abbrev pub map_over : Over A → Over B
  map_over o = record { number = o.number; came = map g o.came }

  abbrev pub map_ended : Ended A → Ended B
  map_ended e = record { state = map_state e.state; rounds = map map_over e.rounds }

  abbrev pub map_answer : Answer A → Answer B
  map_answer (refused n) = refused n
  map_answer (took e) = took (map_ended e)

abbrev pub alone : Packet → List Packet
alone p = p ∷ []

pub record Alone : Type 0 where
  pub received : (ins : List ℕ) (s : State Packet) (x : Parcel Packet) → receive ins (map_state alone s) (map_parcel alone x) ≡ map_answer alone (receive ins s x)
  pub same_sent : (f : Scheme) (outs : List ℕ) (os : List (Over Packet)) → sent (at_source f) outs (map (map_over alone) os) ≡ sent f outs os
  pub same_read : (read : List Packet → List Packet) (os : List (Over Packet)) → readings (λ ms. read (flat_map (λ m. m) ms)) (map (map_over alone) os) ≡ readings read os
