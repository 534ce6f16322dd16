-- Schemes by which packets go along the links of a network. Defines, in this order:
--   Packet, Scheme   a packet, and what goes over each link: any function whatever of what is at hand at its beginning
--   into, hand       what comes into a node, and what is at hand there
--   carried, got     what each link carries for a message, and what a node gets
-- Assumes nothing.
use Rattle.std.specs.Prelude.{ℕ, ◌+◌, cond, List, [], ◌∷◌, ◌++◌, ◌==◌}
use Rattle.network.specs.Network.{Link, Network}

-- a packet is a list of symbols
abbrev pub Packet : Type 0
Packet = List ℕ

-- what goes over a link, by its number and what is at hand at its beginning
abbrev pub Scheme : Type 0
Scheme = ℕ → List Packet → Packet

-- the packets on the links that lead to a node, in the order of links
unfoldable pub into : ℕ → List Link → List Packet → List Packet
into p [] bs = []
into p (l ∷ ls) [] = []
into p (l ∷ ls) (b ∷ bs) = cond (p == l.to) (b ∷ into p ls bs) (into p ls bs)

-- what is at hand at a node: the message at the source, else what came in
abbrev pub hand : ℕ → List Packet → List Link → List Packet → List Packet
hand p m ls bs = cond (p == 0) m (into p ls bs)

-- the packets on all links, one after the other; k: the number of the next link
unfoldable pub carry : Scheme → List Packet → ℕ → List Link → List Link → List Packet → List Packet
carry f m k before [] bs = bs
carry f m k before (l ∷ ls) bs = carry f m (k + 1) (before ++ (l ∷ [])) ls (bs ++ (f k (hand l.from m before bs) ∷ []))

abbrev pub carried : Network → Scheme → List Packet → List Packet
carried z f m = carry f m 0 [] z.links []

-- what a receiver at a node gets
abbrev pub got : Network → Scheme → ℕ → List Packet → List Packet
got z f p m = hand p m z.links (carried z f m)
