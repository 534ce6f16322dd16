-- What a receiver reads at the end is on links: none of its packets is one of the message itself, since those are at hand at the source alone.
use Rattle.std.proofs.Common.{◌≡◌, ℕ, zero, suc, ◌<◌, List, ◌∷◌, map, get_or, sym, refl, ap, ◌∙◌, ap₂, arith}
use Rattle.linear.specs.Vectors.{row, table}
use Rattle.linear.proofs.Lists.{get_d-table}
use Rattle.network.specs.Network.{Link, link_at}
use Rattle.network_cuts.specs.Scheme.{Packet}
use Rattle.coding_theory.specs.Coding.{Carrier, message, link, on_carrier, Receiver, current_at, packets}
use Rattle.coding_theory.specs.Promise.{Ends}
use Rattle.planner_theory.specs.Plan.{link_of, reader_of}
use Rattle.planner_theory.specs.Promise.{on_links}

map-table : {A B : Type 0} (f : A → B) (n : ℕ) (g : ℕ → A) → map f (table n g) ≡ table n (λ j. f (g j))
unfolding table
map-table f zero g = refl
map-table f (suc n) g = ap (λ l. f (g 0) ∷ l) (map-table f n (λ i. g (suc i)))

table_same : {A : Type 0} (n : ℕ) (f g : ℕ → A) → ((j : ℕ) → j < n → f j ≡ g j) → table n f ≡ table n g
unfolding table
table_same zero f g e = refl
table_same (suc n) f g e = ap₂ (λ x l. x ∷ l) (e 0 (omega arith)) (table_same n (λ i. f (suc i)) (λ i. g (suc i)) (λ j h. e (suc j) (omega arith)))

-- a carrier whose packet is at hand at another node than the source is a link that leads there
on-link : (ls : List Link) (h so_far : ℕ) (c : Carrier) (p : ℕ) → 0 < p → Ends ls h so_far c p → (msg bs : List Packet) → on_carrier msg bs c ≡ row bs (link_of c)
on-link ls h so_far (message i) p s e msg bs = absurd (omega (arith, e.1))
on-link ls h so_far (link k) p s e msg bs = refl

pub leads : (ls : List Link) (h so_far : ℕ) (c : Carrier) (p : ℕ) → 0 < p → Ends ls h so_far c p → (link_of c < so_far) × ((link_at ls (link_of c)).to ≡ p)
leads ls h so_far (message i) p s e = absurd (omega (arith, e.1))
leads ls h so_far (link k) p s e = e

module _ (ls : List Link) (h so_far : ℕ) (r : Receiver) (p : ℕ) (s : 0 < p) (lead : (j : ℕ) → j < h → Ends ls h so_far (current_at r j) p) where
  pub packets-on-links : (msg bs : List Packet) → packets h r msg bs ≡ on_links bs (reader_of h r).links
  packets-on-links msg bs =
      table_same h (λ j. on_carrier msg bs (current_at r j)) (λ j. row bs (link_of (current_at r j))) (λ j l. on-link ls h so_far (current_at r j) p s (lead j l) msg bs)
      ∙ sym (map-table (row bs) h (λ j. link_of (current_at r j)))

  pub links-lead : (j : ℕ) → j < h → (get_or (reader_of h r).links j 0 < so_far) × ((link_at ls (get_or (reader_of h r).links j 0)).to ≡ p)
  links-lead j l = rw (get_d-table h j (λ i. link_of (current_at r i)) 0 l) (leads ls h so_far (current_at r j) p s (lead j l))
