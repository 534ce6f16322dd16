-- The search reaches each node that a walk leads to, by the first of the shortest walks.
-- The ways stand in the queue by that order, and those that start from the node in turn come behind all that are there:
-- `Under` says so. So a way on over a link k comes to a node whose way is not after it, and along a whole walk that adds up.
-- A link to a node that is not reached is in no way, so no link is twice in one; and each node is reached once,
-- so there are turns enough.
use Rattle.std.proofs.Common.{◌≡◌, ℕ, zero, suc, ◌+◌, ◌<◌, ◌≤◌, Bool, true, false, cond, ◌||◌, eqb, ◌⊎◌, List, [], ◌∷◌, ◌++◌, length, get_or, sym, refl, ap, ◌∙◌, subst, subst₂, inl, inr, arith, length-append}
use lib.ListN.{get_or-append}
use lib.Seq.{get_or-append_seam}
use Rattle.std.proofs.lemmas.Bool.{cases_eq, cases_lt, eqb-true, eq-eqb, both_ways, or_left, or_right, or_cases, cond_both, lt-ltb, le-ltb}
use Rattle.network.specs.Network.{Link, Within, link_at}
use Rattle.flow_theory.specs.Flow.{Way, start, is_reached, links_to, add, go_on, steps, over, onward, search}
use Rattle.flow_theory.specs.Order.{Goes, Walk, Sooner, Ahead}
use Rattle.flow_theory.specs.Promise.{Absent, Different, Reached}
use Rattle.flow_theory.proofs.Lists.{In, Every, Sorted, steps-go, steps-in, steps-sorted}
use Rattle.flow_theory.proofs.Order.{NotAfter, ahead-trans, not-after-trans, not-after-cons}

abbrev pub Has : List Way → ℕ → Type 0
Has ws q = is_reached q ws ≡ true

-- one more at the end
has_push : (ws : List Way) (w : Way) (q : ℕ) → Has ws q → Has (ws ++ w ∷ []) q
unfolding is_reached
has_push [] w q h = absurd (both_ways false refl h)
has_push (x ∷ ws) w q h = elim (or_cases (eqb q x.node) (is_reached q ws) h) [ inl a ↦ or_left (eqb q x.node) _ a | inr a ↦ or_right (eqb q x.node) _ (has_push ws w q a) ]

has_last : (ws : List Way) (w : Way) → Has (ws ++ w ∷ []) w.node
unfolding is_reached
has_last [] w = or_left _ _ (eq-eqb w.node w.node refl)
has_last (x ∷ ws) w = or_right _ _ (has_last ws w)

-- the nodes below n that are not reached
abbrev left : ℕ → List Way → ℕ
left zero ws = 0
left (suc n) ws = cond (is_reached n ws) 0 1 + left n ws

cond-falls : (a b : Bool) → (a ≡ true → b ≡ true) → cond b 0 1 ≤ cond a 0 1
cond-falls true true h = omega arith
cond-falls true false h = absurd (both_ways false refl (h refl))
cond-falls false true h = omega arith
cond-falls false false h = omega arith

left-push : (n : ℕ) (ws : List Way) (w : Way) → left n (ws ++ w ∷ []) ≤ left n ws
left-push zero ws w = omega arith
left-push (suc n) ws w = omega (arith, left-push n ws w, cond-falls (is_reached n ws) (is_reached n (ws ++ w ∷ [])) (has_push ws w n))

left-falls : (n : ℕ) (ws : List Way) (w : Way) → w.node < n → is_reached w.node ws ≡ false → left n (ws ++ w ∷ []) < left n ws
left-falls zero ws w l h = absurd (omega arith)
left-falls (suc n) ws w l h =
    elim (cases_eq w.node n) [
      | inl e ↦ let a : is_reached n ws ≡ false = rw e at h in let b : Has (ws ++ w ∷ []) n = subst (Has (ws ++ w ∷ [])) e (has_last ws w) in rw (a, b) (omega (arith, left-push n ws w))
      | inr d ↦ omega (arith, left-falls n ws w (omega arith) h, cond-falls (is_reached n ws) (is_reached n (ws ++ w ∷ [])) (has_push ws w n))
    ]

left-start : (n : ℕ) → left (suc n) (start ∷ []) ≤ n
unfolding is_reached
left-start zero = omega arith
left-start (suc n) = omega (arith, left-start n, cond-falls false (is_reached (suc n) (start ∷ [])) (λ e. absurd (both_ways false refl e)))

-- adding
pub add-keeps : (w : Way) (ws : List Way) (q : ℕ) → Has ws q → Has (add w ws) q
unfolding add
add-keeps w ws q h = cond_both (is_reached w.node ws) ws (ws ++ w ∷ []) (λ v. Has v q) (λ _. h) (λ _. has_push ws w q h)

-- all that is reached has its place, and all places are of nodes that are reached
pub has-at : (ws : List Way) (j : ℕ) → j < length ws → Has ws (get_or ws j start).node
unfolding is_reached
has-at [] j l = absurd (omega arith)
has-at (w ∷ ws) zero l = or_left _ _ (eq-eqb w.node w.node refl)
has-at (w ∷ ws) (suc j) l = or_right _ _ (has-at ws j (omega arith))

pub place : (ws : List Way) (q : ℕ) → Has ws q → (j : ℕ) × (j < length ws) × ((get_or ws j start).node ≡ q) × ((get_or ws j start).links ≡ links_to q ws)
unfolding is_reached links_to
place [] q h = absurd (both_ways false refl h)
place (w ∷ ws) q h = go (eqb q w.node) refl (place ws q)
  where
    go : (v : Bool) → eqb q w.node ≡ v → (Has ws q → (j : ℕ) × (j < length ws) × ((get_or ws j start).node ≡ q) × ((get_or ws j start).links ≡ links_to q ws)) → (j : ℕ) × (j < length (w ∷ ws)) × ((get_or (w ∷ ws) j start).node ≡ q) × ((get_or (w ∷ ws) j start).links ≡ cond v w.links (links_to q ws))
    go true e r = (0, omega arith, sym (eqb-true q w.node e), refl)
    go false e r = let a = r (rw e at h) in (suc a.0, omega arith, a.2, a.3)

abbrev Inside : List Link → List Way → List ℕ → Type 0
Inside ls ws [] = Unit {0}
Inside ls ws (k ∷ ks) = Has ws (link_at ls k).from × Has ws (link_at ls k).to × Inside ls ws ks

inside-grows : (ls : List Link) (ws ws' : List Way) → ((q : ℕ) → Has ws q → Has ws' q) → (ks : List ℕ) → Inside ls ws ks → Inside ls ws' ks
inside-grows ls ws ws' g [] i = tt
inside-grows ls ws ws' g (k ∷ ks) i = (g _ i.0, g _ i.1, inside-grows ls ws ws' g ks i.2)

-- a link to a node that is not reached is new
inside-absent : (ls : List Link) (ws : List Way) (k : ℕ) → (Has ws (link_at ls k).from → Has ws (link_at ls k).to → ⊥) → (ks : List ℕ) → Inside ls ws ks → Absent k ks
inside-absent ls ws k h [] i = tt
inside-absent ls ws k h (j ∷ ks) i = ((λ e. h (rw e i.0) (rw e i.1)), inside-absent ls ws k h ks i.2)

-- a way goes on over link k to r
abbrev pub on : Way → ℕ → ℕ → Way
on w k r = record { node = r; links = k ∷ w.links }

-- what each step from a way keeps, all of them keep
pub go-keeps : (lead : ℕ → ℕ) (w : Way) (P : List Way → Type 0) (Q : ℕ → Type 0) → ((k : ℕ) (v : List Way) → Q k → P v → P (add (on w k (lead k)) v)) → (ks : List ℕ) (v : List Way) → Every Q ks → P v → P (go_on lead w ks v)
unfolding go_on
go-keeps lead w P Q step [] v e x = x
go-keeps lead w P Q step (k ∷ ks) v e x = go-keeps lead w P Q step ks (add (on w k (lead k)) v) e.1 (step k v e.0 x)

abbrev links_at : List Way → ℕ → List ℕ
links_at ws j = (get_or ws j start).links

-- each way is ahead of those behind it in the queue
abbrev InOrder : List Bool → List Way → Type 0
InOrder us ws = (i j : ℕ) → i < j → j < length ws → Ahead us (links_at ws i) (links_at ws j)

-- a way comes before those that go on from links L over ks, or is one that went on from L before them
abbrev Under : List Bool → List ℕ → List ℕ → List ℕ → Type 0
Under us L ks [] = Unit {0}
Under us L ks (j ∷ M) = Ahead us M L ⊎ ((M ≡ L) × Every (Sooner us j) ks)

module _ (us : List Bool) where
  under-ahead : (L : List ℕ) (k : ℕ) (ks x : List ℕ) → Under us L (k ∷ ks) x → Ahead us x (k ∷ L)
  under-ahead L k ks [] h = inl (omega arith)
  under-ahead L k ks (j ∷ M) (inl (inl a)) = inl (omega arith)
  under-ahead L k ks (j ∷ M) (inl (inr a)) = inr (ap suc a.0, inl a.1)
  under-ahead L k ks (j ∷ M) (inr a) = inr (ap (λ y. suc (length y)) a.0, inr (a.0, a.1.0))

  under-less : (L : List ℕ) (k : ℕ) (ks x : List ℕ) → Under us L (k ∷ ks) x → Under us L ks x
  under-less L k ks [] h = tt
  under-less L k ks (j ∷ M) (inl a) = inl a
  under-less L k ks (j ∷ M) (inr a) = inr (a.0, a.1.1)

  under_next : (L L' : List ℕ) (ks x : List ℕ) → Ahead us L L' → Under us L [] x → Under us L' ks x
  under_next L L' ks [] a h = tt
  under_next L L' ks (j ∷ M) a (inl b) = inl (ahead-trans us M L L' b a)
  under_next L L' ks (j ∷ M) a (inr b) = inl (subst (λ y. Ahead us y L') (sym b.0) a)

  -- some place has the node q, with links that are not after js
  abbrev Near : List Way → ℕ → List ℕ → Type 0
  Near ws q js = (j : ℕ) × (j < length ws) × ((get_or ws j start).node ≡ q) × NotAfter us (links_at ws j) js

module _ (n : ℕ) (ls : List Link) (us : List Bool) (t : Within n (length ls) (λ k. (link_at ls k).from) (λ k. (link_at ls k).to)) where
  abbrev Fine : List Way → Way → Type 0
  Fine ws w = Walk ls us w.links w.node × Different w.links × Inside ls ws w.links

  abbrev AllFine : List Way → Type 0
  AllFine ws = (j : ℕ) → j < length ws → Fine ws (get_or ws j start)

  record Grew (ws ws' : List Way) : Type 0 where
    keeps : (q : ℕ) → Has ws q → Has ws' q
    longer : length ws ≤ length ws'
    same : (j : ℕ) → j < length ws → get_or ws' j start ≡ get_or ws j start
    measure : left n ws' + length ws' ≤ left n ws + length ws
    fine : AllFine ws → AllFine ws'

  grew_none : (ws : List Way) → Grew ws ws
  grew_none ws = record { keeps = λ q h. h; longer = omega arith; same = λ j l. refl; measure = omega arith; fine = λ f. f }

  grew-more : (a b c : List Way) → Grew a b → Grew b c → Grew a c
  grew-more a b c g h = record { keeps = λ q x. h.keeps q (g.keeps q x); longer = omega arith; same = λ j l. h.same j (omega arith) ∙ g.same j l; measure = omega arith; fine = λ f. h.fine (g.fine f) }

  fine-grows : (ws ws' : List Way) → ((q : ℕ) → Has ws q → Has ws' q) → (w : Way) → Fine ws w → Fine ws' w
  fine-grows ws ws' g w f = (f.0, f.1, inside-grows ls ws ws' g w.links f.2)

  near-grows : (ws ws' : List Way) → Grew ws ws' → (q : ℕ) (js : List ℕ) → Near us ws q js → Near us ws' q js
  near-grows ws ws' g q js (j, l, e, f) = let same = g.same j l in (j, omega arith, rw same e, subst (λ (x : Way). NotAfter us x.links js) (sym same) f)

  grew-push : (ws : List Way) (w : Way) → is_reached w.node ws ≡ false → w.node < n → Fine (ws ++ w ∷ []) w → Grew ws (ws ++ w ∷ [])
  grew-push ws w h l f =
      record {
        keeps = has_push ws w;
        longer = simp length-append (omega arith);
        same = λ j k. get_or-append ws (w ∷ []) start j k;
        measure = simp length-append (omega (arith, left-falls n ws w l h));
        fine = λ all j k. elim (cases_lt j (length ws)) [
          | inl a ↦ rw (get_or-append ws (w ∷ []) start j a) (fine-grows ws (ws ++ w ∷ []) (has_push ws w) (get_or ws j start) (all j a))
          | inr a ↦ let e : j ≡ length ws = omega (arith, length-append ws (w ∷ [])) in rw (e, get_or-append_seam ws w [] start) f
        ];
      }

  grew-add : (ws : List Way) (w : Way) (k r : ℕ) → Has ws w.node → Fine ws w → Goes ls us k w.node r → Grew ws (add (on w k r) ws)
  unfolding add
  grew-add ws w k r h f g = cond_both (is_reached r ws) ws (ws ++ on w k r ∷ []) (λ v. Grew ws v) (λ _. grew_none ws) new
    where
      below : Goes ls us k w.node r → r < n
      below (l, inl a) = rw a.2 at (t k l).1
      below (l, inr a) = rw a.2 at (t k l).0

      shut : is_reached r ws ≡ false → Goes ls us k w.node r → Has ws (link_at ls k).from → Has ws (link_at ls k).to → ⊥
      shut e (l, inl a) x y = both_ways (is_reached r ws) e (subst (Has ws) a.2 y)
      shut e (l, inr a) x y = both_ways (is_reached r ws) e (subst (Has ws) a.2 x)

      inside : Goes ls us k w.node r → Has (ws ++ on w k r ∷ []) (link_at ls k).from × Has (ws ++ on w k r ∷ []) (link_at ls k).to
      inside (l, inl a) = (subst (Has (ws ++ on w k r ∷ [])) (sym a.1) (has_push ws (on w k r) w.node h), subst (Has (ws ++ on w k r ∷ [])) (sym a.2) (has_last ws (on w k r)))
      inside (l, inr a) = (subst (Has (ws ++ on w k r ∷ [])) (sym a.2) (has_last ws (on w k r)), subst (Has (ws ++ on w k r ∷ [])) (sym a.1) (has_push ws (on w k r) w.node h))

      new : is_reached r ws ≡ false → Grew ws (ws ++ on w k r ∷ [])
      new e = grew-push ws (on w k r) e (below g) ((w.node, g, f.0), (inside-absent ls ws k (shut e g) w.links f.2, f.1), ((inside g).0, (inside g).1, inside-grows ls ws (ws ++ on w k r ∷ []) (has_push ws (on w k r)) w.links f.2))

  -- all steps from a way
  module _ (w : Way) where
    abbrev Steps : List ℕ → Type 0
    Steps ks = Every (λ k. Goes ls us k w.node (over ls us k)) ks

    grew-go : (ks : List ℕ) (ws : List Way) → Steps ks → Has ws w.node → Fine ws w → Grew ws (go_on (over ls us) w ks ws)
    grew-go ks ws s h f =
        go-keeps (over ls us) w (Grew ws) (λ k. Goes ls us k w.node (over ls us k))
        (λ k v g x. grew-more ws v (add (on w k (over ls us k)) v) x (grew-add v w k (over ls us k) (x.keeps w.node h) (fine-grows ws v x.keeps w f) g)) ks ws s (grew_none ws)

    -- the ways that are there, when those over ks are still to come
    record Before (ks : List ℕ) (v : List Way) : Type 0 where
      order : InOrder us v
      under : (j : ℕ) → j < length v → Under us w.links ks (links_at v j)

    -- one step, and where it leads
    before-add : (k r : ℕ) (ks : List ℕ) (v : List Way) → Every (Sooner us k) ks → Before (k ∷ ks) v → Before ks (add (on w k r) v) × Near us (add (on w k r) v) r (k ∷ w.links)
    unfolding add
    before-add k r ks v s b = cond_both (is_reached r v) v (v ++ x ∷ []) (λ u. Before ks u × Near us u r (k ∷ w.links)) old new
      where
        x : Way
        x = on w k r

        ahead : (j : ℕ) → j < length v → Ahead us (links_at v j) (k ∷ w.links)
        ahead j l = under-ahead us w.links k ks (links_at v j) (b.under j l)

        old : is_reached r v ≡ true → Before ks v × Near us v r (k ∷ w.links)
        old h =
            let a = place v r h in
            (record { order = b.order; under = λ j l. under-less us w.links k ks (links_at v j) (b.under j l) }, (a.0, a.1, a.2, inr (ahead a.0 a.1)))

        last : (j : ℕ) → j < length (v ++ x ∷ []) → length v ≤ j → get_or (v ++ x ∷ []) j start ≡ x
        last j l m = let q : j ≡ length v = omega (arith, length-append v (x ∷ [])) in rw (q, get_or-append_seam v x [] start)

        new : is_reached r v ≡ false → Before ks (v ++ x ∷ []) × Near us (v ++ x ∷ []) r (k ∷ w.links)
        new _ = (
          record {
            order = λ i j m l. elim (cases_lt j (length v)) [
              | inl a ↦ let c : i < length v = omega arith in subst₂ (λ (y y' : Way). Ahead us y.links y'.links) (sym (get_or-append v (x ∷ []) start i c)) (sym (get_or-append v (x ∷ []) start j a)) (b.order i j m a)
              | inr a ↦ let c : i < length v = omega (arith, length-append v (x ∷ [])) in subst₂ (λ (y y' : Way). Ahead us y.links y'.links) (sym (get_or-append v (x ∷ []) start i c)) (sym (last j l a)) (ahead i c)
            ];
            under = λ j l. elim (cases_lt j (length v)) [
              | inl a ↦ subst (λ (y : Way). Under us w.links ks y.links) (sym (get_or-append v (x ∷ []) start j a)) (under-less us w.links k ks (links_at v j) (b.under j a))
              | inr a ↦ subst (λ (y : Way). Under us w.links ks y.links) (sym (last j l a)) (inr (refl, s))
            ];
          },
          (length v, simp length-append (omega arith), ap (λ y. y.node) (get_or-append_seam v x [] start), inl (ap (λ y. y.links) (get_or-append_seam v x [] start))),
        )

    before-go : (ks : List ℕ) (v : List Way) → Sorted (Sooner us) ks → Before ks v → Before [] (go_on (over ls us) w ks v)
    unfolding go_on
    before-go [] v s b = b
    before-go (k ∷ ks) v s b = before-go ks (add (on w k (over ls us k)) v) s.1 (before-add k (over ls us k) ks v s.0 b).0

    -- each step comes to a node whose way is not after it
    near-go : (k : ℕ) (ks : List ℕ) (v : List Way) → In k ks → Steps ks → Sorted (Sooner us) ks → Before ks v → Has v w.node → Fine v w → Near us (go_on (over ls us) w ks v) (over ls us k) (k ∷ w.links)
    unfolding go_on
    near-go k [] v i g s b h f = elim i [ ]
    near-go k (j ∷ ks) v i g s b h f = go i (near-go k ks v')
      where
        v' : List Way
        v' = add (on w j (over ls us j)) v

        grew : Grew v v'
        grew = grew-add v w j (over ls us j) h f g.0

        go : (k ≡ j) ⊎ In k ks → (In k ks → Steps ks → Sorted (Sooner us) ks → Before ks v' → Has v' w.node → Fine v' w → Near us (go_on (over ls us) w ks v') (over ls us k) (k ∷ w.links)) → Near us (go_on (over ls us) w ks v') (over ls us k) (k ∷ w.links)
        go (inl e) r = subst (λ y. Near us (go_on (over ls us) w ks v') (over ls us y) (y ∷ w.links)) (sym e) (near-grows v' (go_on (over ls us) w ks v') (grew-go ks v' g.1 (grew.keeps w.node h) (fine-grows v v' grew.keeps w f)) (over ls us j) (j ∷ w.links) (before-add j (over ls us j) ks v s.0 b).1)
        go (inr m) r = r m g.1 s.1 (before-add j (over ls us j) ks v s.0 b).0 (grew.keeps w.node h) (fine-grows v v' grew.keeps w f)

  -- the whole search
  abbrev Done : List Way → ℕ → Type 0
  Done ws j = (k r : ℕ) → Goes ls us k (get_or ws j start).node r → Near us ws r (k ∷ links_at ws j)

  record Searched (ws ws' : List Way) : Type 0 where
    first : get_or ws' 0 start ≡ get_or ws 0 start
    some : 0 < length ws'
    fine : AllFine ws'
    done : (j : ℕ) → j < length ws' → Done ws' j
    order : InOrder us ws'

  abbrev Level : ℕ → List Way → Type 0
  Level i ws = i < length ws → (ks : List ℕ) (j : ℕ) → j < length ws → Under us (links_at ws i) ks (links_at ws j)

  searched : (f i : ℕ) (ws : List Way) → 0 < length ws → AllFine ws → ((j : ℕ) → j < i → j < length ws → Done ws j) → InOrder us ws → Level i ws → left n ws + length ws ≤ f + i → Searched ws (search ls us f i ws)
  unfolding search
  searched zero i ws s a d u v m = record { first = refl; some = s; fine = a; done = λ j l. d j (omega arith) l; order = u }
  searched (suc f) i ws s a d u v m =
      elim (cases_lt i (length ws)) [
        | inl l ↦
            let r : Searched ws' (search ls us f (suc i) ws') = searched f (suc i) ws' (omega (arith, (grew l).longer)) ((grew l).fine a) (more l) (before l).order (next l) (omega (arith, (grew l).measure)) in
            rw (lt-ltb i (length ws) l) (record { first = r.first ∙ (grew l).same 0 s; some = r.some; fine = r.fine; done = r.done; order = r.order })
        | inr l ↦ rw (le-ltb i (length ws) l) (record { first = refl; some = s; fine = a; done = λ j k. d j (omega arith) k; order = u })
      ]
    where
      w : Way
      w = get_or ws i start

      ks : List ℕ
      ks = steps ls us w.node

      ws' : List Way
      ws' = onward ls us w ws

      at_first : i < length ws → Before w ks ws
      at_first l = record { order = u; under = v l ks }

      grew : i < length ws → Grew ws ws'
      grew l = grew-go w ks ws (steps-go ls us w.node) (has-at ws i l) (a i l)

      before : i < length ws → Before w [] ws'
      before l = before-go w ks ws (steps-sorted ls us w.node) (at_first l)

      more : i < length ws → (j : ℕ) → j < suc i → j < length ws' → Done ws' j
      more l j k _ b r go =
          let g : Grew ws ws' = grew l in
          let same : get_or ws' j start ≡ get_or ws j start = g.same j (omega arith) in
          let go' : Goes ls us b (get_or ws j start).node r = rw same at go in
          subst (λ (y : Way). Near us ws' r (b ∷ y.links)) (sym same) (elim (cases_eq j i) [
            | inl q ↦
                let x = steps-in ls us w.node b r (rw q at go') in
                let y : Near us ws' (over ls us b) (b ∷ w.links) = near-go w b ks ws x.0 (steps-go ls us w.node) (steps-sorted ls us w.node) (at_first l) (has-at ws i l) (a i l) in
                subst (λ y. Near us ws' r (b ∷ links_at ws y)) (sym q) (subst (λ e. Near us ws' e (b ∷ w.links)) x.1 y)
            | inr q ↦ near-grows ws ws' g r _ (d j (omega arith) (omega arith) b r go')
          ])

      next : i < length ws → Level (suc i) ws'
      next l m ks' j o =
          under_next us w.links (links_at ws' (suc i)) ks' (links_at ws' j)
          (subst (λ x. Ahead us x.links (links_at ws' (suc i))) ((grew l).same i l) ((before l).order i (suc i) (omega arith) m))
          ((before l).under j o)

-- the way to a node is the first one with it, so none is ahead of it
first_way : (us : List Bool) (ws : List Way) (q : ℕ) (js : List ℕ) → InOrder us ws → Near us ws q js → Has ws q × NotAfter us (links_to q ws) js
unfolding is_reached links_to
first_way us [] q js u (j, l, e, f) = absurd (omega arith)
first_way us (w ∷ ws) q js u (j, l, e, f) = go (eqb q w.node) refl j l e f (λ i k m o. first_way us ws q js (λ a b c x. u (suc a) (suc b) (omega arith) (omega arith)) (i, k, m, o))
  where
    go : (v : Bool) → eqb q w.node ≡ v → (j : ℕ) → j < length (w ∷ ws) → (get_or (w ∷ ws) j start).node ≡ q → NotAfter us (links_at (w ∷ ws) j) js → ((i : ℕ) → i < length ws → (get_or ws i start).node ≡ q → NotAfter us (links_at ws i) js → Has ws q × NotAfter us (links_to q ws) js) → ((v || is_reached q ws) ≡ true) × NotAfter us (cond v w.links (links_to q ws)) js
    go true e zero l m o r = (refl, o)
    go true e (suc j) l m o r = (refl, not-after-trans us w.links (links_at ws j) js (inr (u 0 (suc j) (omega arith) l)) o)
    go false e zero l m o r = absurd (both_ways (eqb q w.node) e (eq-eqb q w.node (sym m)))
    go false e (suc j) l m o r = r j (omega arith) m o

-- what is reached from the source
pub source : (ls : List Link) (us : List Bool) (ws : List Way) → Reached ls us ws → is_reached 0 ws ≡ true
source ls us ws s = s.found 0 [] refl

pub closed : (ls : List Link) (us : List Bool) (ws : List Way) → Reached ls us ws → (k q r : ℕ) → Goes ls us k q r → is_reached q ws ≡ true → is_reached r ws ≡ true
closed ls us ws s k q r g h = s.found r (k ∷ links_to q ws) (q, g, (s.walks q h).0.walk)

module _ (n : ℕ) (ls : List Link) (us : List Bool) (t : Within n (length ls) (λ k. (link_at ls k).from) (λ k. (link_at ls k).to)) (ws : List Way) (s : Searched n ls us t (start ∷ []) ws) where
  near : (q : ℕ) (ks : List ℕ) → Walk ls us ks q → Near us ws q ks
  near q [] w = (0, s.some, ap (λ x. x.node) s.first ∙ sym w, inl (ap (λ x. x.links) s.first))
  near r (k ∷ ks) (q, g, w) =
      let a = near q ks w in
      let b = s.done a.0 a.1 k r (subst (λ x. Goes ls us k x r) (sym a.2) g) in
      (b.0, b.1, b.2, not-after-trans us (links_at ws b.0) (k ∷ links_at ws a.0) (k ∷ ks) b.3 (not-after-cons us k (links_at ws a.0) ks a.3))

  reached-from : Reached ls us ws
  reached-from =
      record {
        walks = λ q h. let a = place ws q h in let f = s.fine a.0 a.1 in
            (record { walk = subst₂ (Walk ls us) a.3 a.2 f.0; least = λ js w. (first_way us ws q js s.order (near q js w)).1 }, subst Different a.3 f.1);
        found = λ q ks w. (first_way us ws q ks s.order (near q ks w)).0;
      }

pub all-reached : (n : ℕ) (ls : List Link) (us : List Bool) → Within n (length ls) (λ k. (link_at ls k).from) (λ k. (link_at ls k).to) → 1 ≤ n → Reached ls us (search ls us n 0 (start ∷ []))
all-reached zero ls us t l = absurd (omega arith)
all-reached (suc n) ls us t l =
    reached-from (suc n) ls us t (search ls us (suc n) 0 (start ∷ []))
    (searched (suc n) ls us t (suc n) 0 (start ∷ []) (omega arith) first (λ j k. absurd (omega arith)) (λ i j a b. absurd (omega arith)) level (omega (arith, left-start n)))
  where
    first : AllFine (suc n) ls us t (start ∷ [])
    first zero k = (refl, tt, tt)
    first (suc j) k = absurd (omega arith)

    level : Level (suc n) ls us t 0 (start ∷ [])
    level a ks zero b = tt
    level a ks (suc j) b = absurd (omega arith)
