-- Paths one after the other: where the receiver stands in the queue, the links that led there, and what turning them gives.
use Rattle.std.proofs.Common.{◌≡◌, ℕ, zero, suc, ◌+◌, ◌<◌, ◌≤◌, Bool, true, false, not, cond, List, [], ◌∷◌, ◌++◌, length, get_or, eqb, Some, None, sym, refl, ap, ◌∙◌, inl, inr, arith, length-append}
use Rattle.std.proofs.lemmas.List.{get_or_append_left, get_or_push, get_or_past}
use Rattle.std.proofs.lemmas.Bool.{both_ways, cases_lt, cases_Bool, eq-eqb, eqb-true, lt-ltb, ne_eqb, not-true}
use Rattle.std.proofs.lemmas.Option.{none-some}
use Rattle.std.proofs.lemmas.List.Sums.{prefix_len_passes}
use Rattle.std.proofs.lemmas.List.Quantifiers.{position-Some}
use Rattle.std.specs.List.{position, position_or_len}
use Rattle.network.specs.Network.{Network, Sound}
use Rattle.flow_theory.specs.Flow.{Way, start, is_reached, links_to, reached, turn, turn_all, augment, cut}
use Rattle.flow_theory.specs.Order.{Walk}
use Rattle.flow_theory.proofs.Search.{place}
use Rattle.flow_theory.proofs.Stands.{first_found}
use Rattle.flow_search.specs.Queue.{reached_at, ways_on, ways_of, Marked, Sought}
use Rattle.flow.specs.Augment.{StandsAt, Marks}
use Rattle.flow_search.specs.declared.reached.Reached.{Reached}
use Rattle.flow_search.proofs.Queued.{ways-length}
use Rattle.flow_search.proofs.Visited.{node_at}
use Rattle.flow_search.proofs.Searched.{over_below}

-- the first way to a node
first-at : (ws : List Way) (q i : ℕ) → i < length ws → (get_or ws i start).node ≡ q → ((j : ℕ) → j < i → (get_or ws j start).node ≡ q → ⊥) → (is_reached q ws ≡ true) × (links_to q ws ≡ (get_or ws i start).links)
unfolding is_reached links_to
first-at [] q i l e n = absurd (omega arith)
first-at (w ∷ ws) q zero l e n = rw (eq-eqb q w.node (sym e)) (refl, refl)
first-at (w ∷ ws) q (suc i) l e n = rw (ne_eqb q w.node (λ a. n 0 (omega arith) (sym a))) (first-at ws q i (omega arith) e (λ j a. n (suc j) (omega arith)))

-- the first place at which a node stands in the queue
module _ (rs : List Reached) (q : ℕ) where
  abbrev is : Reached → Bool
  is r = eqb r.node q

  pub stands_at : (i : ℕ) → position is rs ≡ Some i → StandsAt rs q i
  stands_at i e =
      let p = position-Some is rs i (record { node = 0; link = 0; place = 0 }) e in
      let f = first-at (ways_of rs) q i (omega (arith, ways-length rs, p.0)) (node_at rs i p.0 ∙ eqb-true _ _ p.1)
      (λ j a b. both_ways (is (reached_at rs j)) (p.2 j a) (eq-eqb _ _ (sym (node_at rs j (omega (arith, p.0))) ∙ b))) in
      record { within = p.0; found = f.0; links = f.1 }

  none-passes : position is rs ≡ None → (j : ℕ) → j < length rs → is (reached_at rs j) ≡ false
  none-passes e j l =
      elim (cases_lt (position_or_len is rs) (length rs)) [
        | inl a ↦ absurd (none-some (position_or_len is rs) (sym e ∙ ap (λ b. cond b (Some (position_or_len is rs)) None) (lt-ltb (position_or_len is rs) (length rs) a)))
        | inr a ↦ not-true _ (prefix_len_passes (λ r. not (is r)) rs j (record { node = 0; link = 0; place = 0 }) (omega (arith, a, l)))
      ]

  pub not_there : position is rs ≡ None → is_reached q (ways_of rs) ≡ false
  not_there e =
      elim (cases_Bool (is_reached q (ways_of rs))) [
        | inl h ↦
            let p = place (ways_of rs) q h in
            let l : p.0 < length rs = omega (arith, ways-length rs, p.1) in
            absurd (both_ways (is (reached_at rs p.0)) (none-passes e p.0 l) (eq-eqb _ _ (sym (node_at rs p.0 l) ∙ p.2)))
        | inr h ↦ h
      ]

-- the links that led to a place
abbrev way_of : List Way → Reached → Way
way_of ws r = record { node = r.node; links = r.link ∷ (get_or ws r.place start).links }

on_same : (ws : List Way) (rs : List Reached) (j : ℕ) → j < length ws → get_or (ways_on ws rs) j start ≡ get_or ws j start
unfolding ways_on
on_same ws [] j l = refl
on_same ws (r ∷ rs) j l = on_same (ws ++ way_of ws r ∷ []) rs j (simp length-append (omega arith)) ∙ get_or_append_left ws (way_of ws r ∷ []) start j l

on-links : (ws : List Way) (rs : List Reached) (i : ℕ) → i < length rs → (reached_at rs i).place < length ws + i → (get_or (ways_on ws rs) (length ws + i) start).links ≡ (reached_at rs i).link ∷ (get_or (ways_on ws rs) (reached_at rs i).place start).links
unfolding ways_on
on-links ws [] i l p = absurd (omega arith)
on-links ws (r ∷ rs) zero l p =
    let x : Way = way_of ws r in
    let long : length (ws ++ x ∷ []) ≡ suc (length ws) = simp length-append (omega arith) in
    let here : length ws + 0 ≡ length ws = omega arith in
    let b : r.place < length ws = omega arith in
    let last : get_or (ways_on (ws ++ x ∷ []) rs) (length ws + 0) start ≡ x = ap (λ n. get_or (ways_on (ws ++ x ∷ []) rs) n start) here ∙ on_same (ws ++ x ∷ []) rs (length ws) (omega arith) ∙ get_or_push ws x start (length ws) refl in
    ap (λ (w : Way). w.links) last
    ∙ ap (λ (w : Way). r.link ∷ w.links) (sym (on_same (ws ++ x ∷ []) rs r.place (omega arith) ∙ get_or_append_left ws (x ∷ []) start r.place b))
on-links ws (r ∷ rs) (suc i) l p =
    let x : Way = way_of ws r in
    let long : length (ws ++ x ∷ []) ≡ suc (length ws) = simp length-append (omega arith) in
    let here : length ws + suc i ≡ length (ws ++ x ∷ []) + i = omega arith in
    rw here (on-links (ws ++ x ∷ []) rs i (omega arith) (omega arith))

pub links-at : (rs : List Reached) (j : ℕ) → 0 < j → j < length rs → (reached_at rs j).place < j → (get_or (ways_of rs) j start).links ≡ (reached_at rs j).link ∷ (get_or (ways_of rs) (reached_at rs j).place start).links
unfolding ways_of
links-at [] j a l p = absurd (omega arith)
links-at (r ∷ rs) zero a l p = absurd (omega arith)
links-at (r ∷ rs) (suc i) a l p =
    let here : suc i ≡ 1 + i = omega arith in
    ap (λ n. (get_or (ways_on (record { node = r.node; links = [] } ∷ []) rs) n start).links) here ∙ on-links (record { node = r.node; links = [] } ∷ []) rs i (omega arith) (omega arith)

pub links-first : (rs : List Reached) → (get_or (ways_of rs) 0 start).links ≡ []
unfolding ways_of
links-first [] = refl
links-first (r ∷ rs) = ap (λ (w : Way). w.links) (on_same (record { node = r.node; links = [] } ∷ []) rs 0 (omega arith))

-- what is left to turn
pub turn_more : (rs : List Reached) (at : ℕ) (us : List Bool) → 0 < at → at < length rs → (reached_at rs at).place < at
    → turn_all (get_or (ways_of rs) (reached_at rs at).place start).links (turn (reached_at rs at).link us) ≡ turn_all (get_or (ways_of rs) at start).links us
unfolding turn_all
turn_more rs at us a l p = sym (ap (λ ks. turn_all ks us) (links-at rs at a l p))

pub turn-none : (rs : List Reached) (us : List Bool) → turn_all (get_or (ways_of rs) 0 start).links us ≡ us
unfolding turn_all
turn-none rs us = ap (λ ks. turn_all ks us) (links-first rs)

-- one path more, or the cut
module _ (z : Network) (sound : Sound z) (h p : ℕ) where
  pub grown-more : (m : ℕ) (us us' : List Bool) (rs : List Reached) (i : ℕ) → Sought z us p (ways_of rs) → StandsAt rs p i → us' ≡ turn_all (get_or (ways_of rs) i start).links us → augment z h p m us' ≡ augment z h p (suc m) us
  unfolding augment
  grown-more m us us' rs i s a e =
      let y : is_reached p (reached z us) ≡ true = sym s.found ∙ a.found in
      rw y (ap (augment z h p m) (e ∙ ap (λ ks. turn_all ks us) (sym a.links ∙ s.links)))

  walk-below : (us : List Bool) (ks : List ℕ) (q : ℕ) → Walk z.links us ks q → q < z.nodes
  walk-below us [] q w = omega (arith, sound.some)
  walk-below us (k ∷ ks) q (r, g, w) = over_below z sound us k r q g

  pub grown-cut : (m : ℕ) (us : List Bool) (rs : List Reached) (marks : List Bool) → z.nodes ≤ length marks → Sought z us p (ways_of rs) → is_reached p (ways_of rs) ≡ false → Marked marks (ways_of rs)
      → (augment z h p (suc m) us ≡ cut (λ q. is_reached q (reached z us))) × Marks marks (λ q. is_reached q (reached z us))
  unfolding augment
  grown-cut m us rs marks b s n k = (
    rw (sym s.found ∙ n),
    λ q. elim (cases_lt q (length marks)) [
      | inl l ↦ ap (is_reached q) (sym (s.whole n)) ∙ sym (k q l)
      | inr l ↦ elim (cases_Bool (is_reached q (reached z us))) [
        | inl y ↦ absurd (omega (arith, walk-below us _ q ((first_found z sound us).walks q y).0.walk))
        | inr y ↦ y ∙ sym (get_or_past marks q false l)
      ]
    ],
  )
