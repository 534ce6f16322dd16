-- Networks, and what is to be sent over them. Defines, in this order:
--   Link, Network, Multicast   nodes and links; with them a rate and the receivers
--   Limits to Rising           what holds of every accepted net, one by one
--   Sound, Accepted            all of it together
-- Assumes nothing.
use Rattle.std.specs.Prelude.{◌≡◌, ℕ, ◌<◌, ◌≤◌, List, [], ◌∷◌, length, ◌≢◌, slice_index, slice_index_or}

-- a link goes from one node to another, and carries one packet in each round
pub record Link : Type 0 where
  pub from : ℕ
  pub to : ℕ

-- nodes are numbered from 0, which is the source; links are numbered from 0 in the order of the list
pub record Network : Type 0 where
  pub nodes : ℕ
  pub links : List Link

-- the source is to send `rate` packets in each round to every receiver
pub record Multicast : Type 0 where
  pub network : Network
  pub rate : ℕ
  pub receivers : List ℕ

abbrev pub link_at : List Link → ℕ → Link
link_at ls k = slice_index_or ls k (record { from = 0; to = 0 })

-- the links whose beginnings and ends stand in two columns
unfoldable pub paired : List ℕ → List ℕ → List Link
paired [] ts = []
paired (f ∷ fs) [] = []
paired (f ∷ fs) (t ∷ ts) = record { from = f; to = t } ∷ paired fs ts

-- What follows speaks of n links by the numbers of their beginnings and ends, `from k` and `to k` for k below n.

abbrev pub Limits : (nodes n : ℕ) → Type 0
Limits nodes n = (1 ≤ nodes) × (nodes ≤ 256) × (n ≤ 1024)

-- both ends of each link are nodes
abbrev pub Within : (nodes n : ℕ) (from to : ℕ → ℕ) → Type 0
Within nodes n from to = (k : ℕ) → k < n → (from k < nodes) × (to k < nodes)

-- no link leads into the source, or from a node to itself
abbrev pub Apart : (n : ℕ) (from to : ℕ → ℕ) → Type 0
Apart n from to = (k : ℕ) → k < n → (to k ≢ 0) × (from k ≢ to k)

-- every link into a node stands before every link out of it
abbrev pub InOrder : (n : ℕ) (from to : ℕ → ℕ) → Type 0
InOrder n from to = (j k : ℕ) → (j < n) × (k < n) → to j ≡ from k → j < k

-- where a link leaves a node other than the source, it is not so that no link comes into the node
abbrev pub Fed : (n : ℕ) (from to : ℕ → ℕ) → Type 0
Fed n from to = (k : ℕ) → k < n → (from k ≢ 0) → ((j : ℕ) → j < n → to j ≢ from k) → ⊥

abbrev pub Rates : (rate n : ℕ) → Type 0
Rates rate n = (1 ≤ rate) × (rate ≤ 32) × (1 ≤ n) × (n ≤ 64)

-- each of n receivers is a node, and not the source
abbrev pub Placed : (nodes n : ℕ) (place : ℕ → ℕ) → Type 0
Placed nodes n place = (i : ℕ) → i < n → (0 < place i) × (place i < nodes)

-- their numbers rise strictly
abbrev pub Rising : (n : ℕ) (place : ℕ → ℕ) → Type 0
Rising n place = (i j : ℕ) → i < j → j < n → place i < place j

-- what the search for paths, the coefficients and the rounds rest on
pub record Sound (z : Network) : Type 0 where
  pub some : 1 ≤ z.nodes
  pub within : Within z.nodes (length z.links) (λ k. (link_at z.links k).from) (λ k. (link_at z.links k).to)
  pub apart : Apart (length z.links) (λ k. (link_at z.links k).from) (λ k. (link_at z.links k).to)
  pub order : InOrder (length z.links) (λ k. (link_at z.links k).from) (λ k. (link_at z.links k).to)

pub record Accepted (m : Multicast) : Type 0 where
  pub limits : Limits m.network.nodes (length m.network.links)
  pub sound : Sound m.network
  -- a link that comes into the beginning of each link that does not leave the source
  pub fed : (k : ℕ) → k < length m.network.links → ((link_at m.network.links k).from ≢ 0)
      → (j : ℕ) × (j < length m.network.links) × ((link_at m.network.links j).to ≡ (link_at m.network.links k).from)
  pub rates : Rates m.rate (length m.receivers)
  pub placed : Placed m.network.nodes (length m.receivers) (λ i. slice_index m.receivers i)
  pub rising : Rising (length m.receivers) (λ i. slice_index m.receivers i)
