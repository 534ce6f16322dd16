-- The premises of the theorem on cuts can be met: messages of two packets of one bit, for which one link is too few. Defines, in this order:
--   net      two links from the source to a relay at node 1, and one from there to the receiver at node 2
--   parity   the scheme by which each of the two links carries one of the packets, and the third link the sum of both
--   bits     the message of two such packets
--   Met      the premises, the two messages that the theorem finds, and what the receiver gets for each message
use Rattle.std.specs.Prelude.{◌≡◌, cond, List, [], ◌∷◌, ℕ, ◌+◌, ◌%◌, eqb, get_or}
use Rattle.network.specs.Network.{Network, Sound}
use Rattle.network_cuts.specs.Scheme.{Packet, Scheme, got}
use Rattle.network_cuts.specs.Cut.{Cut}
use Rattle.network_cuts.specs.Across.{Message, Honest, Collision}

abbrev pub net : Network
net = record { nodes = 3; links = record { from = 0; to = 1 } ∷ record { from = 0; to = 1 } ∷ record { from = 1; to = 2 } ∷ [] }

-- the bit in packet i
abbrev pub bit : List Packet → ℕ → ℕ
bit bs i = get_or (get_or bs i []) 0 0

abbrev pub parity : Scheme
parity k bs = cond (eqb k 2) (bit bs 0 + bit bs 1) (bit bs k) % 2 ∷ []

abbrev pub bits : ℕ → ℕ → List Packet
bits a b = (a ∷ []) ∷ (b ∷ []) ∷ []

pub record Met : Type 0 where
  pub sound : Sound net
  pub cut : Cut net 2 2
  pub honest : Honest 1 2 parity
  pub found : Collision (Message 1 2 2) (got net parity 2)
  pub even : got net parity 2 (bits 0 0) ≡ (0 ∷ []) ∷ []
  pub odd : got net parity 2 (bits 0 1) ≡ (1 ∷ []) ∷ []
  pub odd-too : got net parity 2 (bits 1 0) ≡ (1 ∷ []) ∷ []
  pub even-too : got net parity 2 (bits 1 1) ≡ (0 ∷ []) ∷ []
