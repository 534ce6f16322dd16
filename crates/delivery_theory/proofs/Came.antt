-- The packet that the synchronous network has on a link is the one at the link's place among all that came in at the link's end.
use Rattle.std.proofs.Common.{◌≡◌, ℕ, zero, suc, ◌+◌, ◌<◌, ◌⊎◌, List, [], ◌∷◌, map, length, get_or, sym, refl, ap, ◌∙◌, ap₂, inl, inr, one-add, arith}
use Rattle.std.proofs.lemmas.Bool.{cases_eq, eq-eqb, ne_eqb}
use Rattle.linear.specs.Vectors.{row}
use Rattle.network.specs.Network.{Link, link_at}
use Rattle.network_cuts.specs.Scheme.{Packet, into}
use Rattle.wire.specs.Plan.{Reader}
use Rattle.relay_theory.specs.Relay.{numbers}
use Rattle.delivery_theory.specs.Work.{place, reader_for}

place-head : (k : ℕ) (js : List ℕ) → place k (k ∷ js) ≡ 0
unfolding place
place-head k js = rw (eq-eqb k k refl)

place-tail : (k j : ℕ) (js : List ℕ) → (k ≡ j → ⊥) → place k (j ∷ js) ≡ suc (place k js)
unfolding place
place-tail k j js o = rw (ne_eqb k j o) (one-add _)

-- j: the number of the first link of the list
pub at_its_place : (p j : ℕ) (ls : List Link) (bs : List Packet) → length ls ≡ length bs → (i k : ℕ) → k ≡ j + i → i < length ls → (link_at ls i).to ≡ p
    → row (into p ls bs) (place k (numbers (λ l. l.to) p j ls)) ≡ row bs i
unfolding into numbers
at_its_place p j [] bs n i k e l t = absurd (omega arith)
at_its_place p j (x ∷ ls) [] n i k e l t = absurd (omega arith)
at_its_place p j (x ∷ ls) (b ∷ bs) n zero k e l t =
    let q : k ≡ j = omega arith in
    rw (eq-eqb p x.to (sym t), q) (ap (row (b ∷ into p ls bs)) (place-head j (numbers (λ l. l.to) p (j + 1) ls)))
at_its_place p j (x ∷ ls) (b ∷ bs) n (suc i) k e l t = go (cases_eq p x.to) (at_its_place p (j + 1) ls bs (omega arith) i k (omega arith) (omega arith) t)
  where
    go : (p ≡ x.to) ⊎ (p ≡ x.to → ⊥) → row (into p ls bs) (place k (numbers (λ l. l.to) p (j + 1) ls)) ≡ row bs i
        → row (into p (x ∷ ls) (b ∷ bs)) (place k (numbers (λ l. l.to) p j (x ∷ ls))) ≡ row bs i
    go (inl h) ih = rw (eq-eqb p x.to h) (ap (row (b ∷ into p ls bs)) (place-tail k j (numbers (λ l. l.to) p (j + 1) ls) (λ d. omega arith)) ∙ ih)
    go (inr h) ih = rw (ne_eqb p x.to h) ih

-- the reader at the place of its receiver, where the receivers' numbers rise
pub reader-for : (qs : List ℕ) (rs : List Reader) (i : ℕ) → i < length qs → length rs ≡ length qs
    → ((a b : ℕ) → a < b → b < length qs → get_or qs a 0 < get_or qs b 0) → reader_for (get_or qs i 0) qs rs ≡ get_or rs i (record { links = []; rows = [] })
unfolding reader_for
reader-for [] rs i l n up = absurd (omega arith)
reader-for (q ∷ qs) [] i l n up = absurd (omega arith)
reader-for (q ∷ qs) (r ∷ rs) zero l n up = rw (eq-eqb q q refl)
reader-for (q ∷ qs) (r ∷ rs) (suc i) l n up =
    let above : q < get_or qs i 0 = up 0 (suc i) (omega arith) l in
    rw (ne_eqb (get_or qs i 0) q (λ e. omega arith)) (reader-for qs rs i (omega arith) (omega arith) (λ a b h k. up (suc a) (suc b) (omega arith) (omega arith)))

-- functions that agree on the elements of a list
pub map-like : {B : Type 0} (f g : ℕ → B) (xs : List ℕ) → ((j : ℕ) → j < length xs → f (get_or xs j 0) ≡ g (get_or xs j 0)) → map f xs ≡ map g xs
map-like f g [] h = refl
map-like f g (x ∷ xs) h = ap₂ (λ y l. y ∷ l) (h 0 (omega arith)) (map-like f g xs (λ j l. h (suc j) (omega arith)))
