-- Which coefficients are prescribed, in the subject's own words: with independent vectors in place of dual rows. In this order:
--   last_before, now    what carries a path's packet when it is the turn of link e: the last of the path's links before e
--   Claim, claims       the receivers on one of whose paths a link lies
--   Serves              when a vector serves such a receiver
--   Leads               how the receivers, one after the other, lead to the coefficients of a link
--   Prescribed          the coefficients and the vectors of all links are those prescribed
-- Assumes nothing.
use Rattle.std.specs.Prelude.{◌≡◌, ℕ, cond, List, [], ◌∷◌, ◌++◌, map, length, take, nat_lt}
use Rattle.gf.specs.Field.{Field}
use Rattle.linear.specs.Vectors.{row, units, plus, scale, mix, mixed}
use Rattle.linear.specs.Independence.{Independent}
use Rattle.linear.specs.Lowest.{Lowest}
use Rattle.linear.specs.Dual.{put}
use Rattle.network.specs.Network.{Link, Network}
use Rattle.network_cuts.specs.Scheme.{Packet, hand}
use Rattle.std.specs.List.{All}
use Rattle.coding_theory.specs.Paths.{Aim}
use Rattle.coding_theory.specs.Coding.{place, Carrier, message, link, on_carrier, at_hand, trial}

-- c if none of the path's links stands before e
unfoldable pub last_before : ℕ → Carrier → List ℕ → Carrier
last_before e c [] = c
last_before e c (x ∷ xs) = cond (nat_lt x e) (last_before e (link x) xs) c

-- at first path j's packet is packet j of the message
abbrev pub now : ℕ → Aim → ℕ → Carrier
now e a j = last_before e (message j) (row a.paths j)

-- the receiver's current vectors, the place of the path on which the link lies, and the trial set
pub record Claim : Type 0 where
  pub vectors : ℕ → List ℕ
  pub place : ℕ
  pub trial : List ℕ

-- in the order of receivers; vs: the vectors of the links before link e
unfoldable pub claims : ℕ → ℕ → List Carrier → List (List ℕ) → List Aim → List Claim
claims h e names vs [] = []
claims h e names vs (a ∷ as') =
    let j : ℕ = place e a.paths in
    cond (nat_lt j h)
    (record { vectors = λ i. on_carrier (units h) vs (now e a i); place = j; trial = trial (now e a j) names } ∷ claims h e names vs as')
    (claims h e names vs as')

module _ (F : Field) where
  open F use {size}

  -- with the vector in place of the path's, none of the current vectors is a mix of the others
  abbrev pub Serves : ℕ → List ℕ → Claim → Type 0
  Serves h v q = Independent F h (put q.vectors q.place v)

  -- from the coefficients so far, with the claims before, the claims that follow lead to these coefficients
  pub data Leads (h : ℕ) (hands : List Packet) : List Claim → List ℕ → List Claim → List ℕ → Type 0 where
    over : {done : List Claim} {cs : List ℕ} → Leads h hands done cs [] cs
    -- the receiver is served already
    serves : {done : List Claim} {cs : List ℕ} {q : Claim} {qs : List Claim} {out : List ℕ}
        → Serves h (mix F cs hands) q → Leads h hands (q ∷ done) cs qs out → Leads h hands done cs (q ∷ qs) out
    -- it is not: the lowest t from 1 on for which it and those before it are served
    adds : {done : List Claim} {cs : List ℕ} {q : Claim} {qs : List Claim} {out : List ℕ}
        → (Serves h (mix F cs hands) q → ⊥)
        → (t : ℕ) → Lowest size (λ k. All (Serves h (mix F (plus cs (scale F k q.trial)) hands)) (q ∷ done)) t
        → Leads h hands (q ∷ done) (plus cs (scale F t q.trial)) qs out → Leads h hands done cs (q ∷ qs) out

  pub record Prescribed (z : Network) (h : ℕ) (as' : List Aim) (cs vs : List (List ℕ)) : Type 0 where
    pub coefficients : length cs ≡ length z.links
    pub vectors : length vs ≡ length z.links
    -- link l stands after those of `before`; each vector is the mix of those at hand
    pub mixes : (before : List Link) (l : Link) (after : List Link) → z.links ≡ before ++ l ∷ after
        → row vs (length before) ≡ mixed F h (row cs (length before)) (hand l.from (units h) before (take (length before) vs))
    -- from all 0 the claims lead to the coefficients
    pub rule : (before : List Link) (l : Link) (after : List Link) → z.links ≡ before ++ l ∷ after
        → Leads h (hand l.from (units h) before (take (length before) vs)) [] (map (λ n. 0) (at_hand h l.from before))
        (claims h (length before) (at_hand h l.from before) (take (length before) vs) as') (row cs (length before))
