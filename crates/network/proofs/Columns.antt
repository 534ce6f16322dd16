-- Columns of numbers that were read from bytes: they have the properties that the judged bytes have.
use Rattle.std.proofs.Common.{◌≡◌, ℕ, ◌+◌, ◌*◌, ◌<◌, true, List, [], ◌∷◌, map, length, get_or, sym, refl, ap, ap₂, ◌∙◌, arith}
use Rattle.std.specs.List.{range_with_len}
use Rattle.std.proofs.lemmas.List.FromFn.{length-map-range_with_len, get_or-map-range_with_len}
use Rattle.network.specs.Network.{Link, Within, Apart, InOrder, Fed, Placed, Rising}
use Rattle.network.specs.Links.{link_of, links_of}
use Rattle.network.specs.declared.net.Link.{Link as Joined}
use Rattle.network.specs.Format.{nodes_in, links_in, from_in, to_in, receivers_in, receiver_in, among, previous}
use Rattle.network.proofs.Items.{Good, among-at, among-found, each-link, links-within, links-apart, links-in-order, fed-each, each-receiver, above-previous, receivers-rise}
use Rattle.network.proofs.Judged.{Judged}

pub length-column : (f : ℕ → ℕ) (n : ℕ) (xs : List ℕ) → xs ≡ map f (range_with_len 0 n) → length xs ≡ n
length-column f n xs e = ap length e ∙ length-map-range_with_len f 0 n

pub column-at : (f : ℕ → ℕ) (n : ℕ) (xs : List ℕ) → xs ≡ map f (range_with_len 0 n) → (k : ℕ) → k < n → get_or xs k 0 ≡ f k
column-at f n xs e k h = ap (λ l. get_or l k 0) e ∙ get_or-map-range_with_len f 0 n k k 0 h (omega arith)

-- what holds of numbers holds of the same numbers
module _ (n : ℕ) (f t f' t' : ℕ → ℕ) (e : (k : ℕ) → k < n → f' k ≡ f k) (g : (k : ℕ) → k < n → t' k ≡ t k) where
  pub within-like : (nodes : ℕ) → Within nodes n f t → Within nodes n f' t'
  within-like nodes w k h = rw (e k h, g k h) (w k h)

  pub apart-like : Apart n f t → Apart n f' t'
  apart-like a k h = rw (e k h, g k h) (a k h)

  pub order-like : InOrder n f t → InOrder n f' t'
  order-like o j k h q = o j k h (sym (g j h.0) ∙ q ∙ e k h.1)

  pub fed-like : Fed n f t → Fed n f' t'
  fed-like w k h z none = w k h (λ q. z (e k h ∙ q)) (λ j l q. none j l (g j l ∙ q ∙ sym (e k h)))

module _ (n : ℕ) (p p' : ℕ → ℕ) (e : (i : ℕ) → i < n → p' i ≡ p i) where
  pub placed-like : (nodes : ℕ) → Placed nodes n p → Placed nodes n p'
  placed-like nodes w i h = rw (e i h) (w i h)

  pub rising-like : Rising n p → Rising n p'
  rising-like r i j h l = let m : i < n = omega arith in rw (e i m, e j l) (r i j h l)

module _ (bs : List ℕ) (j : Judged bs) where
  good-in : (k : ℕ) → k < links_in bs → Good (nodes_in bs) (from_in bs) (to_in bs) k
  good-in k h = (each-link (length bs) (nodes_in bs) (from_in bs) (to_in bs) (links_in bs) k j.links-fine h).1

  pub within_in : Within (nodes_in bs) (links_in bs) (from_in bs) (to_in bs)
  within_in = links-within (nodes_in bs) (links_in bs) (from_in bs) (to_in bs) good-in

  pub apart_in : Apart (links_in bs) (from_in bs) (to_in bs)
  apart_in = links-apart (nodes_in bs) (links_in bs) (from_in bs) (to_in bs) good-in

  pub order-in : InOrder (links_in bs) (from_in bs) (to_in bs)
  order-in = links-in-order (nodes_in bs) (links_in bs) (from_in bs) (to_in bs) good-in

  pub fed-in : Fed (links_in bs) (from_in bs) (to_in bs)
  fed-in k h z none =
      let n : ℕ = links_in bs in
      let left : among (from_in bs) n (from_in bs k) ≡ true = among-at (from_in bs) n (from_in bs k) k h refl in
      let into = among-found (to_in bs) n (from_in bs k)
      (fed-each (among (from_in bs) n) (among (to_in bs) n) (nodes_in bs) (from_in bs k) j.all-fed (good-in k h).begins z left) in
      none into.0 into.1 (sym into.2)

  receiver-in : (i : ℕ) → i < receivers_in bs (links_in bs)
      → (receiver_in bs (links_in bs) i < nodes_in bs) × (previous (receiver_in bs (links_in bs)) i < receiver_in bs (links_in bs) i)
  receiver-in i h =
      let r = each-receiver (length bs) (7 + 4 * links_in bs) (nodes_in bs) (receiver_in bs (links_in bs)) (receivers_in bs (links_in bs)) i j.receivers-fine h in (r.1, r.2)

  pub placed-in : Placed (nodes_in bs) (receivers_in bs (links_in bs)) (receiver_in bs (links_in bs))
  placed-in i h = (above-previous (receiver_in bs (links_in bs)) i (receiver-in i h).1, (receiver-in i h).0)

  pub rising-in : Rising (receivers_in bs (links_in bs)) (receiver_in bs (links_in bs))
  rising-in = receivers-rise (receivers_in bs (links_in bs)) (receiver_in bs (links_in bs)) (λ i h. (receiver-in i h).1)

-- the links that were read stand for those in the bytes
pub links-read : (f : ℕ → Joined) (g : ℕ → Link) → ((k : ℕ) → link_of (f k) ≡ g k) → (xs : List ℕ) → links_of (map f xs) ≡ map g xs
links-read f g e [] = refl
links-read f g e (x ∷ xs) = ap₂ (λ y ys. y ∷ ys) (e x) (links-read f g e xs)

module _ (bs : List ℕ) (n : ℕ) (ls : List Joined) (e : ls ≡ map (λ k. record { from = from_in bs k; to = to_in bs k }) (range_with_len 0 n)) where
  pub length-read : length ls ≡ n
  length-read = ap length e ∙ length-map-range_with_len (λ k. record { from = from_in bs k; to = to_in bs k }) 0 n

  pub read-at : (k : ℕ) → k < n → get_or ls k (record { from = 0; to = 0 }) ≡ record { from = from_in bs k; to = to_in bs k }
  read-at k h = ap (λ l. get_or l k (record { from = 0; to = 0 })) e ∙ get_or-map-range_with_len _ 0 n k k (record { from = 0; to = 0 }) h (omega arith)
