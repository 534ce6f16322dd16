-- What is given for the coefficients of a network. Defines, in this order:
--   Served         a rate, not too many receivers, and paths to each
--   Served-prop    it is a fact: two proofs of it are the same
-- Assumes nothing.
use Rattle.std.specs.Prelude.{◌≡◌, ℕ, ◌<◌, ◌≤◌, true, List, [], ◌∷◌, length, slice_index_or}
use Rattle.std.specs.Coded.{Π_prop, →_prop, le_prop, Coded-set, coded_ℕ}
use Rattle.linear.specs.Vectors.{row}
use Rattle.network.specs.Network.{Link, Network, link_at}
use Rattle.std.specs.List.{All}
use Rattle.wire.specs.Fitted.{made}
use Rattle.coding_theory.specs.Paths.{is_on, IsPath, Aim, Given}

pub record Served (z : Network) (h : ℕ) (as' : List Aim) : Type 0 where
  pub rate : h ≤ 32
  pub few : length as' ≤ 255
  pub given : All (Given z.links h) as'

path-prop : (ls : List Link) (n p : ℕ) (w : List ℕ) → IsProp (IsPath ls n p w)
path-prop ls n p [] = Coded-set coded_ℕ n p
path-prop ls n p (k ∷ ks) = λ x y.
    made (λ (a : k < length ls) (b : (link_at ls k).from ≡ n) (c : IsPath ls (link_at ls k).to p ks). (a, b, c)) le_prop (Coded-set coded_ℕ _ _) (path-prop ls (link_at ls k).to p ks) x.0 y.0 x.1 y.1 x.2 y.2

given-prop : (ls : List Link) (h : ℕ) (a : Aim) → IsProp (Given ls h a)
given-prop ls h a x y =
    let f : length a.paths ≡ h → ((j : ℕ) → j < h → IsPath ls 0 a.node (row a.paths j))
    → ((i j e : ℕ) → i < h → j < h → is_on e (row a.paths i) ≡ true → is_on e (row a.paths j) ≡ true → i ≡ j) → Given ls h a = λ m l d. record { many = m; lead = l; apart = d } in
    made f (Coded-set coded_ℕ _ _) (Π_prop (λ j. →_prop (path-prop ls 0 a.node (row a.paths j))))
    (Π_prop (λ i. Π_prop (λ j. Π_prop (λ e. →_prop (→_prop (→_prop (→_prop (Coded-set coded_ℕ i j)))))))) x.many y.many x.lead y.lead x.apart y.apart

pub Served-prop : (z : Network) (h : ℕ) (as' : List Aim) → IsProp (Served z h as')
Served-prop z h as' x y =
    let f : h ≤ 32 → length as' ≤ 255 → All (Given z.links h) as' → Served z h as' = λ r l g. record { rate = r; few = l; given = g } in
    made f le_prop le_prop (Π_prop (λ k. Π_prop (λ d. →_prop (given-prop z.links h (slice_index_or as' k d))))) x.rate y.rate x.few y.few x.given y.given
