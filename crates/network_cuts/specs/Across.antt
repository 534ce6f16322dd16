-- Nothing gets across a cut. Defines, in this order:
--   Tuple               a list of n elements, of each of which something holds
--   IsPacket, Message   a packet of n symbols out of q, and a message of h such packets
--   Honest              a scheme that, given such packets, makes such packets
--   Collision           two different elements that a function takes to the same
--   Confused, Alike     behind a cut, two different messages are found for which the receiver gets the same packets
--   NoneReads           so no function of what the receiver got gives back every message
-- Packets have at least one symbol, out of at least two. Of the network nothing more is asked than the cut, which also says that the
-- receiver is not the source: the links may stand in any order.
-- Assumes nothing.
use Rattle.std.specs.Prelude.{◌≡◌, ℕ, ◌<◌, ◌≤◌, List, length}
use Rattle.std.specs.List.{AllByRecursion}
use Rattle.network.specs.Network.{Network}
use Rattle.network_cuts.specs.Scheme.{Packet, Scheme, got}
use Rattle.network_cuts.specs.Cut.{Cut}

pub record Tuple {A : Type 0} (n : ℕ) (P : A → Type 0) (xs : List A) : Type 0 where
  pub count : length xs ≡ n
  pub each : AllByRecursion P xs

-- the symbols are the numbers below q
abbrev pub IsPacket : (n q : ℕ) → Packet → Type 0
IsPacket n q = Tuple n (λ s. s < q)

abbrev pub Message : (n q h : ℕ) → List Packet → Type 0
Message n q h = Tuple h (IsPacket n q)

abbrev pub Honest : (n q : ℕ) → Scheme → Type 0
Honest n q f = (k : ℕ) (bs : List Packet) → AllByRecursion (IsPacket n q) bs → IsPacket n q (f k bs)

-- two different elements of which P holds, and that F takes to the same
pub record Collision {A B : Type 0} (P : A → Type 0) (F : A → B) : Type 0 where
  pub one : A
  pub two : A
  pub first : P one
  pub second : P two
  pub differ : one ≡ two → ⊥
  pub same : F one ≡ F two

-- whatever the scheme, two different messages give the node p the same packets
abbrev pub Confused : Network → (h p : ℕ) → Type 0
Confused z h p = (n q : ℕ) → 1 ≤ n → 2 ≤ q → (f : Scheme) → Honest n q f → Collision (Message n q h) (got z f p)

abbrev pub Alike : Type 0
Alike = (z : Network) (h p : ℕ) → Cut z h p → Confused z h p

abbrev pub NoneReads : Type 0
NoneReads =
    (z : Network) (h p : ℕ) → Cut z h p
    → (n q : ℕ) → 1 ≤ n → 2 ≤ q → (f : Scheme) → Honest n q f → (read : List Packet → List Packet)
    → ((m : List Packet) → Message n q h m → read (got z f p m) ≡ m) → ⊥
