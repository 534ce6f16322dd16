-- Whether a receiver has a message. Defines, in this order:
--   Tells    the answer of a test says just whether something holds
--   Hears    whether what the receiver reads of the last message is the message
--   HasAll   by a plan that serves all receivers, each has it
-- Assumes nothing.
use Rattle.std.specs.Prelude.{◌≡◌, ℕ, ◌*◌, Bool, true, List, [], ◌∷◌, ◌++◌, length, slice_index}
use Rattle.network.specs.Network.{Multicast}
use Rattle.network_cuts.specs.Scheme.{Packet, got}
use Rattle.wire.specs.Plan.{Reader}
use Rattle.planner_theory.specs.Promise.{Serves}
use Rattle.relay_theory.specs.Relay.{any}
use Rattle.run_theory.specs.Run.{Config, ins}
use Rattle.delivery_theory.specs.Promise.{Named}
use Rattle.delivery_theory.specs.Work.{working, reading}
use Rattle.relay_memory.specs.Memory.{cut}
use Rattle.run.specs.Stands.{Stands}
use Rattle.run.specs.declared.player.Player.{Player}

abbrev pub Tells : Bool → Type 0 → Type 0
Tells r A = (r ≡ true → A) × (A → r ≡ true)

-- i: which of the receivers; a link comes into the receiver wherever a plan fits
abbrev pub Hears : Multicast → Player → (i : ℕ) (bytes : List ℕ) → Bool → Type 0
Hears m y i bytes r =
    (cs : List (List ℕ)) (rs : List Reader) (c : Config) (msgs : List (List Packet)) → Stands m cs rs y c → c.begun ≡ msgs ++ cut m.rate bytes ∷ []
    → length bytes ≡ m.rate * 1024 → any (ins m.network (slice_index m.receivers i)) ≡ true
    → Tells r (reading m rs (slice_index m.receivers i) (got m.network (working cs) (slice_index m.receivers i) (cut m.rate bytes)) ≡ cut m.rate bytes)

abbrev pub HasAll : Multicast → Player → (bytes : List ℕ) → Bool → Type 0
HasAll m y bytes r =
    (cs : List (List ℕ)) (rs : List Reader) (c : Config) (msgs : List (List Packet)) → Stands m cs rs y c → c.begun ≡ msgs ++ cut m.rate bytes ∷ []
    → length bytes ≡ m.rate * 1024 → Serves m cs rs → Named m rs → r ≡ true
