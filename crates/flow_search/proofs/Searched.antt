-- The search turn by turn: what is left of it is always what the whole gives. It may stop when the receiver is reached,
-- since a node that is reached keeps its links.
use Rattle.std.proofs.Common.{◌≡◌, ℕ, zero, suc, ◌+◌, ◌-◌, ◌<◌, ◌≤◌, Bool, true, false, cond, ◌||◌, eqb, ltb, List, [], ◌∷◌, ◌++◌, length, get_or, set, replicate, sym, refl, ap, ◌∙◌, inl, inr, add-one, arith, length-append, length-set, get_or-set_other, get_or-set_same}
use Rattle.std.proofs.lemmas.List.{get_or_append_left, get_or_push}
use Rattle.std.proofs.lemmas.Bool.{both_ways, cases_lt, cond_both, lt-ltb, le-ltb, ne_eqb}
use Rattle.network.specs.Network.{Link, Network, Sound}
use Rattle.flow_theory.specs.Flow.{Way, start, is_reached, links_to, add, over, steps, onward, search, reached}
use Rattle.flow_theory.specs.Order.{Goes}
use Rattle.flow_theory.proofs.Lists.{steps-go}
use Rattle.flow_theory.proofs.Search.{Has, on, add-keeps, go-keeps}
use Rattle.flow_search.specs.Queue.{ways_on, ways_of, Marked, Queued, Bounded, Sought}
use Rattle.flow_search.specs.declared.reached.Reached.{Reached}
use Rattle.flow_search.proofs.Queued.{all}

module _ (ls : List Link) (us : List Bool) where
  search-on : (n i : ℕ) (ws : List Way) → i < length ws → search ls us (suc n) i ws ≡ search ls us n (suc i) (onward ls us (get_or ws i start) ws)
  unfolding search
  search-on n i ws l = rw (lt-ltb i (length ws) l)

  search-end : (n i : ℕ) (ws : List Way) → length ws ≤ i → search ls us n i ws ≡ ws
  unfolding search
  search-end zero i ws l = refl
  search-end (suc n) i ws l = rw (le-ltb i (length ws) l)

-- who is reached keeps its links
links-push : (ws : List Way) (w : Way) (q : ℕ) → Has ws q → links_to q (ws ++ w ∷ []) ≡ links_to q ws
unfolding is_reached links_to
links-push [] w q h = absurd (both_ways false refl h)
links-push (x ∷ ws) w q h = go (eqb q x.node) h (links-push ws w q)
  where
    go : (v : Bool) → (v || is_reached q ws) ≡ true → (Has ws q → links_to q (ws ++ w ∷ []) ≡ links_to q ws) → cond v x.links (links_to q (ws ++ w ∷ [])) ≡ cond v x.links (links_to q ws)
    go true h r = refl
    go false h r = r h

module _ (ls : List Link) (us : List Bool) (q : ℕ) (ks : List ℕ) where
  abbrev By : List Way → Type 0
  By v = Has v q × (links_to q v ≡ ks)

  by-add : (w : Way) (v : List Way) → By v → By (add w v)
  unfolding add
  by-add w v b = (add-keeps w v q b.0, cond_both (is_reached w.node v) v (v ++ w ∷ []) (λ x. links_to q x ≡ ks) (λ _. b.1) (λ _. links-push v w q b.0 ∙ b.1))

  stays : (n i : ℕ) (ws : List Way) → By ws → By (search ls us n i ws)
  unfolding search
  stays zero i ws b = b
  stays (suc n) i ws b =
      cond_both (ltb i (length ws)) (search ls us n (suc i) (onward ls us (get_or ws i start) ws)) ws By
      (λ _. stays n (suc i) (onward ls us (get_or ws i start) ws) (go-keeps (over ls us) (get_or ws i start) By (λ _. Unit {0}) (λ k v _. by-add (on (get_or ws i start) k (over ls us k)) v) (steps ls us (get_or ws i start).node) ws (all _) b))
      (λ _. b)

-- all nodes that are reached are nodes of the network
bounded-add : (m : ℕ) (w : Way) (ws : List Way) → w.node < m → Bounded m ws → Bounded m (add w ws)
unfolding add
bounded-add m w ws l b = cond_both (is_reached w.node ws) ws (ws ++ w ∷ []) (Bounded m) (λ _. b) (λ _ j h. elim (cases_lt j (length ws)) [
  | inl a ↦ rw (get_or_append_left ws (w ∷ []) start j a) (b j a)
  | inr a ↦ let e : length ws ≡ j = omega (arith, length-append ws (w ∷ [])) in rw (get_or_push ws w start j e) l
])

-- at first only the source is marked
none-marked : (n q : ℕ) → get_or (replicate n false) q false ≡ false
none-marked zero q = refl
none-marked (suc n) zero = refl
none-marked (suc n) (suc q) = none-marked n q

first-mark : (n : ℕ) → Marked (set (replicate n false) 0 true) (start ∷ [])
unfolding is_reached
first-mark n zero l = get_or-set_same (replicate n false) 0 true false (rw (length-set (replicate n false) 0 true) at l)
first-mark n (suc q) l = let ne : suc q ≡ 0 → ⊥ = λ e. omega arith in get_or-set_other (replicate n false) 0 (suc q) true false ne ∙ none-marked n (suc q) ∙ rw (ne_eqb (suc q) 0 ne)

-- and before that none
pub none-queued : (n : ℕ) → Queued n [] (replicate 256 false)
unfolding ways_of is_reached
none-queued n = record { linked = λ j a l. absurd (omega arith); marked = λ q l. none-marked 256 q }

module _ (z : Network) (sound : Sound z) (us : List Bool) where
  pub over_below : (k q r : ℕ) → Goes z.links us k q r → r < z.nodes
  over_below k q r (l, inl a) = rw a.2 at (sound.within k l).1
  over_below k q r (l, inr a) = rw a.2 at (sound.within k l).0

  bounded-onward : (w : Way) (ws : List Way) → Bounded z.nodes ws → Bounded z.nodes (onward z.links us w ws)
  bounded-onward w ws b =
      go-keeps (over z.links us) w (Bounded z.nodes) (λ k. Goes z.links us k w.node (over z.links us k))
      (λ k v g. bounded-add z.nodes (on w k (over z.links us k)) v (over_below k w.node (over z.links us k) g)) (steps z.links us w.node) ws (steps-go z.links us w.node) b

  -- what the loop keeps; m: the links
  pub record Turn (m place : ℕ) (rs : List Reached) (marks : List Bool) : Type 0 where
    pub rest : search z.links us (z.nodes - place) place (ways_of rs) ≡ reached z us
    pub bounded : Bounded z.nodes (ways_of rs)
    pub queued : Queued m rs marks

  pub turn-first : (m : ℕ) (rs : List Reached) (marks flags : List Bool) → rs ≡ record { node = 0; link = 0; place = 0 } ∷ [] → flags ≡ replicate 256 false → marks ≡ set flags 0 true → Turn m 0 rs marks
  unfolding ways_of ways_on is_reached
  turn-first m rs marks flags e f g =
      record {
        rest = rw e (ap (λ n. search z.links us n 0 (start ∷ [])) (omega arith));
        bounded = rw e first;
        queued = rw e (record { linked = λ j a l. absurd (omega arith); marked = rw (g, f) (first-mark 256) });
      }
    where
      first : Bounded z.nodes (start ∷ [])
      first zero l = sound.some
      first (suc j) l = absurd (omega arith)

  pub turn_more : (m place : ℕ) (rs rs' : List Reached) (marks marks' : List Bool) → place < z.nodes → place < length (ways_of rs) → ways_of rs' ≡ onward z.links us (get_or (ways_of rs) place start) (ways_of rs) → Queued m rs' marks' → Turn m place rs marks → Turn m (place + 1) rs' marks'
  turn_more m place rs rs' marks marks' l i e q t =
      let left : z.nodes - place ≡ suc (z.nodes - (place + 1)) = omega arith in
      record {
        rest =
            ap (λ n. search z.links us (z.nodes - (place + 1)) n (ways_of rs')) (add-one place) ∙ ap (search z.links us (z.nodes - (place + 1)) (suc place)) e
            ∙ sym (search-on z.links us (z.nodes - (place + 1)) place (ways_of rs) i) ∙ ap (λ n. search z.links us n place (ways_of rs)) (sym left) ∙ t.rest;
        bounded = rw e (bounded-onward (get_or (ways_of rs) place start) (ways_of rs) t.bounded);
        queued = q;
      }

  -- where it may stop
  module _ (p place : ℕ) (ws : List Way) (rest : search z.links us (z.nodes - place) place ws ≡ reached z us) where
    sought-end : ws ≡ reached z us → Sought z us p ws
    sought-end e = record { found = ap (is_reached p) e; links = ap (links_to p) e; whole = λ _. e }

    pub sought-all : length ws ≤ place → Sought z us p ws
    sought-all l = sought-end (sym (search-end z.links us (z.nodes - place) place ws l) ∙ rest)

    pub sought-turns : z.nodes ≤ place → Sought z us p ws
    unfolding search
    sought-turns l = let none : z.nodes - place ≡ 0 = omega arith in sought-end (ap (λ n. search z.links us n place ws) (sym none) ∙ rest)

    pub sought-found : is_reached p ws ≡ true → Sought z us p ws
    sought-found h =
        let b = stays z.links us p (links_to p ws) (z.nodes - place) place ws (h, refl) in
        record {
          found = h ∙ sym (ap (is_reached p) (sym rest) ∙ b.0);
          links = sym (ap (links_to p) (sym rest) ∙ b.1);
          whole = λ n. absurd (both_ways (is_reached p ws) n h);
        }
