-- What a player does, in terms of the run that it stands for. Defines, in this order:
--   Opens      a message comes in at the source
--   Crosses    the packets of links that follow each other go from their beginnings to their ends
--   Closes     all links are passed, and the round is over
--   PlaysOn    a whole message
--   AllOut     by a plan that serves all, each receiver has put out all messages
-- Messages are given by their bytes. Each holds whatever the plan, and whether or not it serves anyone.
-- Assumes nothing.
use Rattle.std.specs.Prelude.{◌≡◌, ℕ, ◌*◌, ◌<◌, List, length, slice_index}
use Rattle.network.specs.Network.{Multicast, Accepted}
use Rattle.network_cuts.specs.Scheme.{Packet}
use Rattle.wire.specs.Plan.{Reader}
use Rattle.run_theory.specs.Run.{Config}
use Rattle.play_theory.specs.Round.{Played}
use Rattle.planner_theory.specs.Promise.{Serves}
use Rattle.delivery_theory.specs.Promise.{Named, Messages}
use Rattle.delivery_theory.specs.Work.{working, reading}
use Rattle.relay_memory.specs.Memory.{cut}
use Rattle.run.specs.Stands.{Stands, Midway}
use Rattle.run.specs.declared.player.Player.{Player}

abbrev pub Opens : (before after : Player) (bytes : List ℕ) → Type 0
Opens before after bytes =
    (m : Multicast) → Accepted m → (cs : List (List ℕ)) (rs : List Reader) (c : Config) → Stands m cs rs before c → length bytes ≡ m.rate * 1024
    → (now : Config) × Midway m cs rs c (cut m.rate bytes) 0 after now

abbrev pub Crosses : Multicast → (first end : ℕ) (before after : Player) → Type 0
Crosses m first end before after =
    (cs : List (List ℕ)) (rs : List Reader) (c : Config) (msg : List Packet) (now : Config) → Midway m cs rs c msg first before now
    → (then' : Config) × Midway m cs rs c msg end after then'

abbrev pub Closes : (before after : Player) → Type 0
Closes before after =
    (m : Multicast) → Accepted m → (cs : List (List ℕ)) (rs : List Reader) (c : Config) (msg : List Packet) (now : Config)
    → Midway m cs rs c msg (length m.network.links) before now → Played m.network (working cs) (reading m rs) c msg now × Stands m cs rs after now

-- Where the player stands for a state of a run, it then stands for the state to which the run leads when the source begins the message and its packets arrive, each link's just once, none refused, until nothing is under way.
abbrev pub PlaysOn : Multicast → (before after : Player) (bytes : List ℕ) → Type 0
PlaysOn m before after bytes =
    (cs : List (List ℕ)) (rs : List Reader) (c : Config) → Stands m cs rs before c → length bytes ≡ m.rate * 1024
    → (then' : Config) × Played m.network (working cs) (reading m rs) c (cut m.rate bytes) then' × Stands m cs rs after then'

abbrev pub AllOut : Multicast → Player → Type 0
AllOut m y =
    (cs : List (List ℕ)) (rs : List Reader) (c : Config) → Stands m cs rs y c → Serves m cs rs → Named m rs → Messages m c.begun
    → (i : ℕ) → i < length m.receivers → c.out (slice_index m.receivers i) ≡ c.begun
