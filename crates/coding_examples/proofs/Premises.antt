-- The premises of the theorems by tests that compute: a network is sound (`well`), and paths lead to a receiver and share no link (`served`).
-- Each test is a conjunction along a list, and each lemma takes it apart the same way.
use Rattle.std.proofs.Common.{◌≡◌, ℕ, zero, suc, ◌<◌, ◌≤◌, Bool, true, false, not, ◌&&◌, eqb, ltb, List, [], ◌∷◌, length, sym, refl, ap, ◌∙◌, inl, inr, arith}
use Rattle.std.proofs.lemmas.Bool.{and_parts, or_cases, eqb-true, eqb-false, both_ways, not-true, ltb-true}
use Rattle.linear.specs.Vectors.{row}
use Rattle.network.specs.Network.{Link, Network, link_at, Within, Apart, InOrder, Sound}
use Rattle.std.specs.List.{All}
use Rattle.std.proofs.lemmas.List.Elements.{All-nil, All-cons}
use Rattle.coding_theory.specs.Paths.{is_on, IsPath, Aim, Given}

-- A SOUND NETWORK

unfoldable pub none_into : ℕ → List Link → Bool
none_into p [] = true
none_into p (l ∷ ls) = not (eqb l.to p) && none_into p ls

-- one link, and those behind it
unfoldable pub fits : ℕ → Link → List Link → Bool
fits n l ls = (ltb l.from n && ltb l.to n) && ((not (eqb l.to 0) && not (eqb l.from l.to)) && none_into l.from ls)

unfoldable pub well : ℕ → List Link → Bool
well n [] = true
well n (l ∷ ls) = fits n l ls && well n ls

none-into : (p : ℕ) (ls : List Link) → none_into p ls ≡ true → (k : ℕ) → k < length ls → (link_at ls k).to ≡ p → ⊥
unfolding none_into
none-into p [] t k lk e = absurd (omega arith)
none-into p (l ∷ ls) t zero lk e = eqb-false l.to p (not-true _ (and_parts _ (none_into p ls) t).0) e
none-into p (l ∷ ls) t (suc k) lk e = none-into p ls (and_parts (not (eqb l.to p)) _ t).1 k (omega arith) e

pub record Fits (n : ℕ) (l : Link) (ls : List Link) : Type 0 where
  pub from : l.from < n
  pub to : l.to < n
  pub source : l.to ≡ 0 → ⊥
  pub itself : l.from ≡ l.to → ⊥
  pub behind : none_into l.from ls ≡ true

fits-of : (n : ℕ) (l : Link) (ls : List Link) → fits n l ls ≡ true → Fits n l ls
unfolding fits
fits-of n l ls t =
    let a = and_parts (ltb l.from n && ltb l.to n) _ t in
    let b = and_parts (ltb l.from n) (ltb l.to n) a.0 in
    let c = and_parts (not (eqb l.to 0) && not (eqb l.from l.to)) (none_into l.from ls) a.1 in
    let d = and_parts (not (eqb l.to 0)) (not (eqb l.from l.to)) c.0 in
    record {
      from = ltb-true _ _ b.0;
      to = ltb-true _ _ b.1;
      source = eqb-false _ _ (not-true _ d.0);
      itself = eqb-false _ _ (not-true _ d.1);
      behind = c.1;
    }

module _ (n : ℕ) where
  head_of : (l : Link) (ls : List Link) → well n (l ∷ ls) ≡ true → Fits n l ls
  unfolding well
  head_of l ls t = fits-of n l ls (and_parts (fits n l ls) (well n ls) t).0

  tail_of : (l : Link) (ls : List Link) → well n (l ∷ ls) ≡ true → well n ls ≡ true
  unfolding well
  tail_of l ls t = (and_parts (fits n l ls) (well n ls) t).1

  within_of : (ls : List Link) → well n ls ≡ true → Within n (length ls) (λ k. (link_at ls k).from) (λ k. (link_at ls k).to)
  within_of [] t k lk = absurd (omega arith)
  within_of (l ∷ ls) t zero lk = ((head_of l ls t).from, (head_of l ls t).to)
  within_of (l ∷ ls) t (suc k) lk = within_of ls (tail_of l ls t) k (omega arith)

  apart_of : (ls : List Link) → well n ls ≡ true → Apart (length ls) (λ k. (link_at ls k).from) (λ k. (link_at ls k).to)
  apart_of [] t k lk = absurd (omega arith)
  apart_of (l ∷ ls) t zero lk = ((head_of l ls t).source, (head_of l ls t).itself)
  apart_of (l ∷ ls) t (suc k) lk = apart_of ls (tail_of l ls t) k (omega arith)

  order-of : (ls : List Link) → well n ls ≡ true → InOrder (length ls) (λ k. (link_at ls k).from) (λ k. (link_at ls k).to)
  order-of [] t j k lt e = absurd (omega (arith, lt.0))
  order-of (l ∷ ls) t zero zero lt e = absurd ((head_of l ls t).itself (sym e))
  order-of (l ∷ ls) t zero (suc k) lt e = omega arith
  order-of (l ∷ ls) t (suc j) zero lt e = absurd (none-into l.from ls (head_of l ls t).behind j (omega (arith, lt.0)) e)
  order-of (l ∷ ls) t (suc j) (suc k) lt e =
      let q : j < k = order-of ls (tail_of l ls t) j k (omega (arith, lt.0), omega (arith, lt.1)) e in
      omega arith

pub sound-of : (z : Network) → 1 ≤ z.nodes → well z.nodes z.links ≡ true → Sound z
sound-of z some t =
    record { some = some; within = within_of z.nodes z.links t; apart = apart_of z.nodes z.links t; order = order-of z.nodes z.links t }

-- PATHS

unfoldable pub shares_none : List ℕ → List ℕ → Bool
shares_none [] ys = true
shares_none (x ∷ xs) ys = not (is_on x ys) && shares_none xs ys

unfoldable pub shares_none_of : List ℕ → List (List ℕ) → Bool
shares_none_of w [] = true
shares_none_of w (u ∷ us) = shares_none w u && shares_none_of w us

unfoldable pub are_apart : List (List ℕ) → Bool
are_apart [] = true
are_apart (w ∷ ws) = shares_none_of w ws && are_apart ws

shares-not : (e : ℕ) (xs ys : List ℕ) → shares_none xs ys ≡ true → is_on e xs ≡ true → is_on e ys ≡ true → ⊥
unfolding shares_none is_on
shares-not e [] ys t p q = both_ways false refl p
shares-not e (x ∷ xs) ys t p q =
    let a = and_parts (not (is_on x ys)) (shares_none xs ys) t in
    elim (or_cases (eqb e x) (is_on e xs) p) [
      | inl s ↦ both_ways (is_on x ys) (not-true (is_on x ys) a.0) (ap (λ n. is_on n ys) (sym (eqb-true e x s)) ∙ q)
      | inr s ↦ shares-not e xs ys a.1 s q
    ]

none_of : (e : ℕ) (w : List ℕ) (us : List (List ℕ)) (j : ℕ) → shares_none_of w us ≡ true → is_on e w ≡ true → is_on e (row us j) ≡ true → ⊥
unfolding shares_none_of is_on
none_of e w [] j t p q = both_ways false refl q
none_of e w (u ∷ us) zero t p q = shares-not e w u (and_parts (shares_none w u) (shares_none_of w us) t).0 p q
none_of e w (u ∷ us) (suc j) t p q = none_of e w us j (and_parts (shares_none w u) (shares_none_of w us) t).1 p q

share-no-link : (ws : List (List ℕ)) → are_apart ws ≡ true → (i j e : ℕ) → is_on e (row ws i) ≡ true → is_on e (row ws j) ≡ true → i ≡ j
unfolding are_apart is_on
share-no-link [] t i j e p q = absurd (both_ways false refl p)
share-no-link (w ∷ ws) t zero zero e p q = refl
share-no-link (w ∷ ws) t zero (suc j) e p q = absurd (none_of e w ws j (and_parts (shares_none_of w ws) (are_apart ws) t).0 p q)
share-no-link (w ∷ ws) t (suc i) zero e p q = absurd (none_of e w ws i (and_parts (shares_none_of w ws) (are_apart ws) t).0 q p)
share-no-link (w ∷ ws) t (suc i) (suc j) e p q = ap suc (share-no-link ws (and_parts (shares_none_of w ws) (are_apart ws) t).1 i j e p q)

module _ (ls : List Link) where
  unfoldable pub leads : ℕ → ℕ → List ℕ → Bool
  leads n p [] = eqb n p
  leads n p (k ∷ ks) = (ltb k (length ls) && eqb (link_at ls k).from n) && leads (link_at ls k).to p ks

  unfoldable pub all_lead : ℕ → List (List ℕ) → Bool
  all_lead p [] = true
  all_lead p (w ∷ ws) = leads 0 p w && all_lead p ws

  unfoldable pub served : ℕ → List Aim → Bool
  served h [] = true
  served h (a ∷ as') = (eqb (length a.paths) h && (all_lead a.node a.paths && are_apart a.paths)) && served h as'

  path-of : (n p : ℕ) (w : List ℕ) → leads n p w ≡ true → IsPath ls n p w
  unfolding leads
  path-of n p [] t = eqb-true n p t
  path-of n p (k ∷ ks) t =
      let a = and_parts (ltb k (length ls) && eqb (link_at ls k).from n) _ t in
      let b = and_parts (ltb k (length ls)) (eqb (link_at ls k).from n) a.0 in
      (ltb-true _ _ b.0, eqb-true _ _ b.1, path-of (link_at ls k).to p ks a.1)

  paths-of : (p : ℕ) (ws : List (List ℕ)) → all_lead p ws ≡ true → (j : ℕ) → j < length ws → IsPath ls 0 p (row ws j)
  unfolding all_lead
  paths-of p [] t j lj = absurd (omega arith)
  paths-of p (w ∷ ws) t zero lj = path-of 0 p w (and_parts (leads 0 p w) (all_lead p ws) t).0
  paths-of p (w ∷ ws) t (suc j) lj = paths-of p ws (and_parts (leads 0 p w) (all_lead p ws) t).1 j (omega arith)

  pub given-of : (h : ℕ) (as' : List Aim) → served h as' ≡ true → All (Given ls h) as'
  unfolding served
  given-of h [] t = All-nil (Given ls h)
  given-of h (a ∷ as') t =
      let q = and_parts (eqb (length a.paths) h && (all_lead a.node a.paths && are_apart a.paths)) (served h as') t in
      let u = and_parts (eqb (length a.paths) h) (all_lead a.node a.paths && are_apart a.paths) q.0 in
      let v = and_parts (all_lead a.node a.paths) (are_apart a.paths) u.1 in
      let many : length a.paths ≡ h = eqb-true _ _ u.0 in
      All-cons (Given ls h) a as'
      (record { many = many; lead = λ j lj. paths-of a.node a.paths v.0 j (omega arith); apart = λ i j e li lj. share-no-link a.paths v.1 i j e })
      (given-of h as' q.1)
