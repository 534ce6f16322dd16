-- All steps from a node: its two lists, gone through one after the other, are the steps of the definition.
use Rattle.std.proofs.Common.{◌≡◌, ℕ, zero, suc, ◌<◌, Bool, true, false, List, [], ◌∷◌, ◌++◌, map, length, get_or, sym, refl, ap, ◌∙◌, append_assoc, append-nil, arith}
use Rattle.std.proofs.lemmas.List.{get_or-map, get_or_read_under, map-append}
use Rattle.network.specs.Network.{Link}
use Rattle.flow_theory.specs.Flow.{listed, out_of, into_of, flagged, over, Way, start, go_on, onward}
use Rattle.flow_theory.proofs.Lists.{Every, listed-every}
use Rattle.flow_search.specs.Queue.{reached_at, ways_on, ways_of, Bounded}
use Rattle.flow_search.specs.declared.reached.Reached.{Reached}
use Rattle.flow_search.proofs.Queued.{go-append, go-longer, ways-length}

-- the ways have the nodes of the queue
on-nodes : (ws : List Way) (rs : List Reached) → map (λ w. w.node) (ways_on ws rs) ≡ map (λ w. w.node) ws ++ map (λ r. r.node) rs
unfolding ways_on
on-nodes ws [] = sym (append-nil (map (λ w. w.node) ws))
on-nodes ws (r ∷ rs) =
    let w : Way = record { node = r.node; links = r.link ∷ (get_or ws r.place start).links } in
    on-nodes (ws ++ w ∷ []) rs ∙ ap (λ x. x ++ map (λ r. r.node) rs) (map-append (λ w. w.node) ws (w ∷ [])) ∙ append_assoc (map (λ w. w.node) ws) (r.node ∷ []) (map (λ r. r.node) rs)

ways-nodes : (rs : List Reached) → map (λ w. w.node) (ways_of rs) ≡ map (λ r. r.node) rs
unfolding ways_of
ways-nodes [] = refl
ways-nodes (r ∷ rs) = on-nodes (record { node = r.node; links = [] } ∷ []) rs

pub node_at : (rs : List Reached) (j : ℕ) → j < length rs → (get_or (ways_of rs) j start).node ≡ (reached_at rs j).node
node_at rs j l =
    sym (get_or-map (λ w. w.node) (ways_of rs) j start 0 (omega (arith, ways-length rs))) ∙ ap (λ x. get_or x j 0) (ways-nodes rs)
    ∙ get_or-map (λ r. r.node) rs j (record { node = 0; link = 0; place = 0 }) 0 l

-- what is read of a node in the queue
pub node-read : (rs : List Reached) (n j : ℕ) (r : Reached) → r ≡ get_or rs j r → j < n → n ≡ length rs → r.node ≡ (get_or (ways_of rs) j start).node
node-read rs n j r e l a = ap (λ x. x.node) (get_or_read_under rs j n r (record { node = 0; link = 0; place = 0 }) e l a) ∙ sym (node_at rs j (omega arith))

pub node-below : (rs : List Reached) (n j q m : ℕ) → q ≡ (get_or (ways_of rs) j start).node → j < n → n ≡ length rs → Bounded m (ways_of rs) → q < m
node-below rs n j q m e l a b = omega (arith, b j (omega (arith, ways-length rs)))

-- a node's list can be lent, and has only links of the network
every-at : (P : ℕ → Type 0) (xs : List ℕ) (j : ℕ) → j < length xs → Every P xs → P (get_or xs j 0)
every-at P [] j l e = absurd (omega arith)
every-at P (x ∷ xs) zero l e = e.0
every-at P (x ∷ xs) (suc j) l e = every-at P xs j (omega arith) e.1

pub row_below : (end : ℕ → ℕ) (q n : ℕ) (row : List ℕ) → row ≡ listed end q n → (j : ℕ) → j < length row → get_or row j 0 < n
row_below end q n row e j l =
    rw e (every-at (λ k. (k < n) × (end k ≡ q)) (listed end q n) j (rw e at l) (listed-every end q n)).0

module _ (ls : List Link) (us : List Bool) where
  pub visited : (place : ℕ) (ws ws₁ ws₂ : List Way) (row₁ row₂ : List ℕ) → place < length ws → row₁ ≡ out_of ls (get_or ws place start).node → row₂ ≡ into_of ls (get_or ws place start).node
      → ws₁ ≡ go_on (over ls us) (get_or ws place start) (flagged us false row₁) ws → ws₂ ≡ go_on (over ls us) (get_or ws₁ place start) (flagged us true row₂) ws₁
      → ws₂ ≡ onward ls us (get_or ws place start) ws
  visited place ws ws₁ ws₂ row₁ row₂ l r₁ r₂ e₁ e₂ =
      e₂ ∙ ap (λ x. go_on (over ls us) x (flagged us true row₂) ws₁) same
      ∙ rw r₂ (ap (go_on (over ls us) w (flagged us true (into_of ls q))) first)
      ∙ sym (go-append (over ls us) w (flagged us false (out_of ls q)) (flagged us true (into_of ls q)) ws)
    where
      w : Way
      w = get_or ws place start

      q : ℕ
      q = w.node

      first : ws₁ ≡ go_on (over ls us) w (flagged us false (out_of ls q)) ws
      first = e₁ ∙ rw r₁ refl

      same : get_or ws₁ place start ≡ w
      same = ap (λ x. get_or x place start) first ∙ (go-longer (over ls us) w (flagged us false (out_of ls q)) ws).1 place l
