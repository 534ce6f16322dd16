-- Coefficients for all receivers at once: which mix of what is at hand each link carries, and by which rows each receiver reads.
-- The definition can be run: dual rows test whether a vector serves a receiver. Defines, in this order:
--   Carrier          what carries a packet: the message itself, or a link
--   on_carrier       the packet, or the vector, that it carries
--   at_hand          the carriers of the packets at hand at a node
--   trial            1 for one carrier, and 0 for all others
--   place            on which of a receiver's paths a link lies
--   Receiver, start  a receiver with its current carriers and dual rows, and how it begins
--   Want, wants      what the receivers on whose paths a link lies want of it
--   next, choose     the coefficients after one more receiver, and after all
--   passed           a receiver when a link is passed
--   Coded, one_more  coefficients, vectors and receivers after the links so far, and after one more
--   along, code      after all links of a network
--   linear           the scheme: each link carries the mix of what is at hand by its coefficients
--   packets, rows    the packets on a receiver's current carriers, and the rows by which they are mixed to give the message
-- Assumes nothing.
use Rattle.std.specs.Prelude.{ℕ, suc, ◌-◌, Bool, false, cond, List, [], ◌∷◌, ◌++◌, map, length, ◌==◌, nat_lt, slice_index_or}
use Rattle.gf.specs.Field.{Field}
use Rattle.linear.specs.Vectors.{row, table, units, plus, scale, mix, mixed}
use Rattle.linear.specs.Lowest.{lowest}
use Rattle.linear.specs.Dual.{serves, renew}
use Rattle.linear.specs.Choice.{serves_all}
use Rattle.linear.specs.Reading.{transpose}
use Rattle.network.specs.Network.{Link, Network}
use Rattle.network_cuts.specs.Scheme.{Packet, Scheme, hand}
use Rattle.coding_theory.specs.Paths.{is_on, Aim}

-- WHAT IS AT HAND

pub data Carrier : Type 0 where
  message : ℕ → Carrier
  link : ℕ → Carrier

abbrev pub same : Carrier → Carrier → Bool
same (message i) (message j) = i == j
same (message i) (link j) = false
same (link i) (message j) = false
same (link i) (link j) = i == j

-- by what the message and the links carry
abbrev pub on_carrier : List (List ℕ) → List (List ℕ) → Carrier → List ℕ
on_carrier m bs (message j) = row m j
on_carrier m bs (link k) = row bs k

-- the links into node p, in their order; k: the number of the first of the list
unfoldable pub incoming : ℕ → ℕ → List Link → List Carrier
incoming p k [] = []
incoming p k (l ∷ ls) = cond (p == l.to) (link k ∷ incoming p (suc k) ls) (incoming p (suc k) ls)

-- in the order of `hand`
abbrev pub at_hand : ℕ → ℕ → List Link → List Carrier
at_hand h p ls = cond (p == 0) (table h message) (incoming p 0 ls)

abbrev pub trial : Carrier → List Carrier → List ℕ
trial c names = map (λ n. cond (same n c) 1 0) names

-- RECEIVERS

-- past the last path if the link lies on none
unfoldable pub place : ℕ → List (List ℕ) → ℕ
place e [] = 0
place e (w ∷ ws) = cond (is_on e w) 0 (suc (place e ws))

-- current: what now carries each path's packet
-- dual: row i times the vector of path j's carrier is 1 for i = j, and 0 otherwise
pub record Receiver : Type 0 where
  pub aim : Aim
  pub current : List Carrier
  pub dual : List (List ℕ)

abbrev pub current_at : Receiver → ℕ → Carrier
current_at r j = slice_index_or r.current j (message 0)

-- at first the packets of the message themselves
abbrev pub start : ℕ → Aim → Receiver
start h a = record { aim = a; current = table h message; dual = units h }

-- a vector v serves a receiver if test · v is not 0; the trial set is to help
pub record Want : Type 0 where
  pub test : List ℕ
  pub trial : List ℕ

unfoldable pub wants : ℕ → ℕ → List Carrier → List Receiver → List Want
wants h e names [] = []
wants h e names (r ∷ rs) =
    let j : ℕ = place e r.aim.paths in
    cond (nat_lt j h) (record { test = row r.dual j; trial = trial (current_at r j) names } ∷ wants h e names rs) (wants h e names rs)

-- THE LINKS IN ORDER

pub record Coded : Type 0 where
  pub coefficients : List (List ℕ)
  pub vectors : List (List ℕ)
  pub receivers : List Receiver

module _ (F : Field) where
  open F use {size}

  -- hands: the vectors at hand; done: the tests of the receivers before this one
  unfoldable pub next : ℕ → List Packet → List (List ℕ) → List ℕ → Want → List ℕ
  next h hands done cs w =
      let more : ℕ → List ℕ = λ t. plus cs (scale F t w.trial) in
      cond (serves F h (mix F cs hands) w.test) cs
      (more (lowest (λ t. serves_all F h (mix F (more t) hands) (w.test ∷ done)) (size - 1) 1))

  unfoldable pub choose : ℕ → List Packet → List (List ℕ) → List ℕ → List Want → List ℕ
  choose h hands done cs [] = cs
  choose h hands done cs (w ∷ ws) = choose h hands (w.test ∷ done) (next h hands done cs w) ws

  -- link e with vector v takes its place on the receiver's path
  unfoldable pub passed : ℕ → ℕ → List ℕ → Receiver → Receiver
  passed h e v r =
      let j : ℕ = place e r.aim.paths in
      cond (nat_lt j h)
      (record { aim = r.aim; current = table h (λ i. cond (i == j) (link e) (current_at r i)); dual = renew F h j v r.dual })
      r

  -- the coefficients of the link l that follows those of `before`
  unfoldable pub chosen : ℕ → List Link → Link → Coded → List ℕ
  chosen h before l c =
      let names : List Carrier = at_hand h l.from before in
      choose h (hand l.from (units h) before c.vectors) [] (map (λ n. 0) names) (wants h (length before) names c.receivers)

  unfoldable pub one_more : ℕ → List Link → Link → Coded → Coded
  one_more h before l c =
      let cs : List ℕ = chosen h before l c in
      let v : List ℕ = mixed F h cs (hand l.from (units h) before c.vectors) in
      record {
        coefficients = c.coefficients ++ cs ∷ [];
        vectors = c.vectors ++ v ∷ [];
        receivers = map (passed h (length before) v) c.receivers;
      }

  unfoldable pub along : ℕ → List Link → List Link → Coded → Coded
  along h before [] c = c
  along h before (l ∷ ls) c = along h (before ++ l ∷ []) ls (one_more h before l c)

  -- for a network, a rate and all who are to be served
  abbrev pub code : Network → ℕ → List Aim → Coded
  code z h as' = along h [] z.links (record { coefficients = []; vectors = []; receivers = map (start h) as' })

  -- packets of n elements
  abbrev pub linear : ℕ → List (List ℕ) → Scheme
  linear n coefficients k bs = mixed F n (row coefficients k) bs

-- by what the message and the links carry
abbrev pub packets : ℕ → Receiver → List Packet → List Packet → List Packet
packets h r m bs = table h (λ j. on_carrier m bs (current_at r j))

-- packet k of the message is the mix by row k
abbrev pub rows : ℕ → Receiver → List (List ℕ)
rows h r = transpose h (row r.dual)
