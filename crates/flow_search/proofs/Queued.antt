-- The queue, as the code keeps it: a node, the link over which it was reached, and the place of the node before it.
-- The ways follow from these. One turn of the loop over links adds a way just where the definition does.
use Rattle.std.proofs.Common.{◌≡◌, ℕ, ◌+◌, ◌<◌, ◌≤◌, Bool, true, false, cond, ◌||◌, eqb, List, [], ◌∷◌, ◌++◌, length, get_or, take, set, sym, refl, ap, ◌∙◌, inl, inr, arith, length-append, length-set, get_or-set_other, get_or-set_same}
use mathlib.Core.Bool.{beq}
use Rattle.std.proofs.lemmas.List.{take_more, get_or_append_left, get_or_push}
use Rattle.std.proofs.lemmas.Bool.{cases_lt, cases_eq, eq-eqb, ne_eqb, cond_both}
use Rattle.flow_theory.specs.Flow.{is_used, flagged, Way, start, is_reached, add, go_on}
use Rattle.flow_theory.proofs.Search.{on, go-keeps}
use Rattle.flow_theory.proofs.Lists.{Every}
use Rattle.flow_search.specs.Queue.{ways_on, ways_of, Marked, Linked, Queued}
use Rattle.flow_search.specs.declared.reached.Reached.{Reached}

-- ways
abbrev way_of : List Way → Reached → Way
way_of ws r = record { node = r.node; links = r.link ∷ (get_or ws r.place start).links }

on-push : (ws : List Way) (rs : List Reached) (r : Reached) → ways_on ws (rs ++ r ∷ []) ≡ ways_on ws rs ++ way_of (ways_on ws rs) r ∷ []
unfolding ways_on
on-push ws [] r = refl
on-push ws (x ∷ rs) r = on-push _ rs r

pub ways-push : (rs : List Reached) (r : Reached) → 0 < length rs → ways_of (rs ++ r ∷ []) ≡ ways_of rs ++ way_of (ways_of rs) r ∷ []
unfolding ways_of
ways-push [] r l = absurd (omega arith)
ways-push (x ∷ rs) r l = on-push (record { node = x.node; links = [] } ∷ []) rs r

on-length : (ws : List Way) (rs : List Reached) → length (ways_on ws rs) ≡ length ws + length rs
unfolding ways_on
on-length ws [] = omega arith
on-length ws (x ∷ rs) = omega (arith, on-length (ws ++ way_of ws x ∷ []) rs, length-append ws (way_of ws x ∷ []))

pub ways-length : (rs : List Reached) → length (ways_of rs) ≡ length rs
unfolding ways_of
ways-length [] = refl
ways-length (x ∷ rs) = omega (arith, on-length (record { node = x.node; links = [] } ∷ []) rs)

-- marks
pub reached-push : (ws : List Way) (w : Way) (q : ℕ) → is_reached q (ws ++ w ∷ []) ≡ (is_reached q ws || eqb q w.node)
unfolding is_reached
reached-push [] w q = elim (eqb q w.node) as (λ b. (b || false) ≡ b) [ true ↦ refl | false ↦ refl ]
reached-push (x ∷ ws) w q = elim (eqb q x.node) as (λ b. (b || is_reached q (ws ++ w ∷ [])) ≡ (b || is_reached q ws || eqb q w.node)) [ true ↦ refl | false ↦ reached-push ws w q ]

marked-push : (marks : List Bool) (ws : List Way) (w : Way) → w.node < length marks → Marked marks ws → Marked (set marks w.node true) (ws ++ w ∷ [])
marked-push marks ws w l m q k =
    elim (cases_eq q w.node) [
      | inl e ↦ rw (e, get_or-set_same marks w.node true false l, reached-push ws w w.node, eq-eqb w.node w.node refl) (elim (is_reached w.node ws) as (λ b. true ≡ (b || true)) [ true ↦ refl | false ↦ refl ])
      | inr d ↦ rw (get_or-set_other marks w.node q true false d, reached-push ws w q, ne_eqb q w.node d, m q (rw (length-set marks w.node true) at k)) (elim (is_reached q ws) as (λ b. b ≡ (b || false)) [ true ↦ refl | false ↦ refl ])
    ]

linked-push : (n : ℕ) (rs : List Reached) (r : Reached) → r.place < length rs → r.link < n → Linked n rs → Linked n (rs ++ r ∷ [])
linked-push n rs r p k h j z l =
    elim (cases_lt j (length rs)) [
      | inl a ↦ rw (get_or_append_left rs (r ∷ []) (record { node = 0; link = 0; place = 0 }) j a) (h j z a)
      | inr a ↦ let e : length rs ≡ j = omega (arith, length-append rs (r ∷ [])) in rw (get_or_push rs r (record { node = 0; link = 0; place = 0 }) j e) (omega arith, k)
    ]

pub queued-push : (n : ℕ) (rs : List Reached) (marks : List Bool) (r : Reached) → r.place < length rs → r.link < n → r.node < length marks → Queued n rs marks → Queued n (rs ++ r ∷ []) (set marks r.node true)
queued-push n rs marks r p k b h =
    record {
      linked = linked-push n rs r p k h.linked;
      marked = rw (ways-push rs r (omega arith)) (marked-push marks (ways_of rs) (way_of (ways_of rs) r) b h.marked);
    }

-- going over links in parts
pub flagged-append : (us : List Bool) (u : Bool) (xs ys : List ℕ) → flagged us u (xs ++ ys) ≡ flagged us u xs ++ flagged us u ys
unfolding flagged
flagged-append us u [] ys = refl
flagged-append us u (x ∷ xs) ys = elim (beq (is_used us x) u) as (λ b. cond b (x ∷ flagged us u (xs ++ ys)) (flagged us u (xs ++ ys)) ≡ cond b (x ∷ flagged us u xs) (flagged us u xs) ++ flagged us u ys) [ true ↦ ap (λ l. x ∷ l) (flagged-append us u xs ys) | false ↦ flagged-append us u xs ys ]

pub go-append : (lead : ℕ → ℕ) (w : Way) (xs ys : List ℕ) (ws : List Way) → go_on lead w (xs ++ ys) ws ≡ go_on lead w ys (go_on lead w xs ws)
unfolding go_on
go-append lead w [] ys ws = refl
go-append lead w (x ∷ xs) ys ws = go-append lead w xs ys (add (on w x (lead x)) ws)

-- places keep their ways
abbrev Longer : List Way → List Way → Type 0
Longer ws v = (length ws ≤ length v) × ((j : ℕ) → j < length ws → get_or v j start ≡ get_or ws j start)

longer-add : (ws : List Way) (w : Way) (v : List Way) → Longer ws v → Longer ws (add w v)
unfolding add
longer-add ws w v h = cond_both (is_reached w.node v) v (v ++ w ∷ []) (Longer ws) (λ _. h) (λ _. (simp length-append (omega (arith, h.0)), λ j l. get_or_append_left v (w ∷ []) start j (omega (arith, h.0)) ∙ h.1 j l))

pub all : (ks : List ℕ) → Every (λ _. Unit {0}) ks
all [] = tt
all (k ∷ ks) = (tt, all ks)

pub go-longer : (lead : ℕ → ℕ) (w : Way) (ks : List ℕ) (ws : List Way) → Longer ws (go_on lead w ks ws)
go-longer lead w ks ws = go-keeps lead w (Longer ws) (λ _. Unit {0}) (λ k v _ h. longer-add ws (on w k (lead k)) v h) ks ws (all ks) (omega arith, λ j l. refl)

-- what the loop over links keeps
module _ (n : ℕ) (lead : ℕ → ℕ) (us : List Bool) (u : Bool) (row : List ℕ) (place : ℕ) (ws : List Way) where
  abbrev w : Way
  w = get_or ws place start

  abbrev after : ℕ → List Way
  after j = go_on lead w (flagged us u (take j row)) ws

  pub record Kept (j : ℕ) (rs : List Reached) (marks : List Bool) : Type 0 where
    pub ways : ways_of rs ≡ after j
    pub queued : Queued n rs marks

  -- the queue doesn't get shorter
  pub kept-long : (j : ℕ) (rs : List Reached) (marks : List Bool) → Kept j rs marks → length ws ≤ length rs
  kept-long j rs marks h = omega (arith, ways-length rs, ap length h.ways, (go-longer lead w (flagged us u (take j row)) ws).0)

  -- one link more
  after_more : (j : ℕ) → j < length row → after (j + 1) ≡ go_on lead w (flagged us u (get_or row j 0 ∷ [])) (after j)
  after_more j l =
      ap (λ x. go_on lead w (flagged us u x) ws) (take_more row j 0 l)
      ∙ ap (λ x. go_on lead w x ws) (flagged-append us u (take j row) (get_or row j 0 ∷ []))
      ∙ go-append lead w (flagged us u (take j row)) (flagged us u (get_or row j 0 ∷ [])) ws

  module _ (j : ℕ) (l : j < length row) (rs : List Reached) (marks : List Bool) (h : Kept j rs marks) where
    abbrev k : ℕ
    k = get_or row j 0

    -- a link with the other flag
    pub kept-other : beq (is_used us k) u ≡ false → Kept (j + 1) rs marks
    unfolding flagged go_on
    kept-other e = record { ways = h.ways ∙ sym (after_more j l ∙ rw e); queued = h.queued }

    after-add : beq (is_used us k) u ≡ true → after (j + 1) ≡ add (on w k (lead k)) (after j)
    unfolding flagged go_on
    after-add e = after_more j l ∙ rw e

    module _ (q : ℕ) (leads : q ≡ lead k) where
      -- a link to a node that is marked
      pub kept-marked : beq (is_used us k) u ≡ true → q < length marks → get_or marks q false ≡ true → Kept (j + 1) rs marks
      unfolding add
      kept-marked e b m =
          let r : is_reached (lead k) (after j) ≡ true = ap (is_reached (lead k)) (sym h.ways) ∙ ap (λ x. is_reached x (ways_of rs)) (sym leads) ∙ sym (h.queued.marked q b) ∙ m in
          record { ways = h.ways ∙ sym (after-add e ∙ rw r); queued = h.queued }

      -- a link to a node that is reached over it
      pub kept_new : place < length ws → beq (is_used us k) u ≡ true → k < n → q < length marks → get_or marks q false ≡ false → Kept (j + 1) (rs ++ record { node = q; link = k; place = place } ∷ []) (set marks q true)
      unfolding add
      kept_new inside e f b m =
          let r : is_reached (lead k) (after j) ≡ false = ap (is_reached (lead k)) (sym h.ways) ∙ ap (λ x. is_reached x (ways_of rs)) (sym leads) ∙ sym (h.queued.marked q b) ∙ m in
          let long = go-longer lead w (flagged us u (take j row)) ws in
          let x : Reached = record { node = q; link = k; place = place } in
          let p : place < length rs = omega (arith, ways-length rs, ap length h.ways, long.0) in
          let same : get_or (ways_of rs) place start ≡ w = ap (λ v. get_or v place start) h.ways ∙ long.1 place inside in
          record {
            ways = ways-push rs x (omega arith) ∙ rw (leads, same, h.ways, after-add e, r);
            queued = queued-push n rs marks x p f b h.queued;
          }
