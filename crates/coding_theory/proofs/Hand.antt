-- The mix of what is at hand by the trial set of a carrier is what that carrier carries: of all products only its own is not 0.
-- At the source the carriers are counted by the packets of the message, elsewhere by the links into the node.
use Rattle.std.proofs.Common.{◌≡◌, ℕ, zero, suc, ◌+◌, ◌<◌, true, false, cond, eqb, List, [], ◌∷◌, length, sym, refl, ap, ◌∙◌, ap₂, arith}
use lib.Dec.{eqb-zero-suc, eqb-suc-zero, eqb-suc-suc}
use lib.Bits.{bit_xor, xor_zero_r}
use Rattle.std.proofs.lemmas.Bool.{cond-true, cond-false, eq-eqb, ne_eqb}
use Rattle.gf.specs.Field.{Field}
use Rattle.linear.specs.Vectors.{at, row, table, mix}
use Rattle.linear.proofs.Sums.{none-times}
use Rattle.linear.proofs.Lists.{mix-step}
use Rattle.network.specs.Network.{Link, link_at}
use Rattle.network_cuts.specs.Scheme.{into, hand}
use Rattle.coding_theory.specs.Coding.{Carrier, message, link, same, on_carrier, incoming, at_hand, trial}
use Rattle.coding_theory.specs.Promise.{Ends}

module _ (F : Field) (x : ℕ) where
  open F use {size, times, laws}
  open laws use {one}

  skip : (n c : Carrier) (b : List ℕ) (rest : ℕ) → same n c ≡ false → bit_xor (times (cond (same n c) 1 0) (at b x)) rest ≡ rest
  skip n c b rest f = ap (λ t. bit_xor (times t (at b x)) rest) (cond-false _ 1 0 f) ∙ ap (λ t. bit_xor t rest) (none-times F (at b x))

  take : (n c : Carrier) (b : List ℕ) (rest : ℕ) → same n c ≡ true → rest ≡ 0 → at b x < size → bit_xor (times (cond (same n c) 1 0) (at b x)) rest ≡ at b x
  take n c b rest t z s =
      ap (λ t. bit_xor (times t (at b x)) rest) (cond-true _ 1 0 t) ∙ ap₂ bit_xor (one (at b x) s) z ∙ xor_zero_r (at b x)

  -- the packets of the message, of which one or none is meant
  table_none : (n : ℕ) (f : ℕ → Carrier) (c : Carrier) (m : List (List ℕ)) → ((i : ℕ) → same (f i) c ≡ false) → at (mix F (trial c (table n f)) m) x ≡ 0
  unfolding table mix
  table_none zero f c m off = refl
  table_none (suc n) f c [] off = refl
  table_none (suc n) f c (b ∷ m) off =
      mix-step F (cond (same (f 0) c) 1 0) (trial c (table n (λ i. f (suc i)))) b m x
      ∙ skip (f 0) c b _ (off 0) ∙ table_none n (λ i. f (suc i)) c m (λ i. off (suc i))

  table-one : (n j : ℕ) (f : ℕ → Carrier) (c : Carrier) (m : List (List ℕ)) → j < n → length m ≡ n → ((i : ℕ) → same (f i) c ≡ eqb i j)
      → at (row m j) x < size → at (mix F (trial c (table n f)) m) x ≡ at (row m j) x
  unfolding table mix
  table-one zero j f c m lj lm on s = absurd (omega arith)
  table-one (suc n) j f c [] lj lm on s = absurd (omega arith)
  table-one (suc n) zero f c (b ∷ m) lj lm on s =
      mix-step F (cond (same (f 0) c) 1 0) (trial c (table n (λ i. f (suc i)))) b m x
      ∙ take (f 0) c b _ (on 0) (table_none n (λ i. f (suc i)) c m (λ i. on (suc i) ∙ eqb-suc-zero i)) s
  table-one (suc n) (suc j) f c (b ∷ m) lj lm on s =
      mix-step F (cond (same (f 0) c) 1 0) (trial c (table n (λ i. f (suc i)))) b m x
      ∙ skip (f 0) c b _ (on 0 ∙ eqb-zero-suc j)
      ∙ table-one n j (λ i. f (suc i)) c m (omega arith) (omega arith) (λ i. on (suc i) ∙ eqb-suc-suc i j) s

  -- the links that lead to p
  into-none : (p k q : ℕ) (ls : List Link) (bs : List (List ℕ)) → q < k → at (mix F (trial (link q) (incoming p k ls)) (into p ls bs)) x ≡ 0
  unfolding incoming into mix
  into-none p k q [] bs lq = refl
  into-none p k q (l ∷ ls) [] lq = mix-nothing (incoming p k (l ∷ ls))
    where
      mix-nothing : (names : List Carrier) → at (mix F (trial (link q) names) []) x ≡ 0
      mix-nothing [] = refl
      mix-nothing (n ∷ names) = refl
  into-none p k q (l ∷ ls) (b ∷ bs) lq =
      elim (eqb p l.to) as (λ v. at (mix F (trial (link q) (cond v (link k ∷ incoming p (suc k) ls) (incoming p (suc k) ls))) (cond v (b ∷ into p ls bs) (into p ls bs))) x ≡ 0) [
        | true ↦
            mix-step F (cond (same (link k) (link q)) 1 0) (trial (link q) (incoming p (suc k) ls)) b (into p ls bs) x
            ∙ skip (link k) (link q) b _ (ne_eqb k q (λ e. omega arith)) ∙ into-none p (suc k) q ls bs (omega arith)
        | false ↦ into-none p (suc k) q ls bs (omega arith)
      ]

  into_one : (p k j q : ℕ) (ls : List Link) (bs : List (List ℕ)) → q ≡ k + j → j < length ls → length bs ≡ length ls → (link_at ls j).to ≡ p
      → at (row bs j) x < size → at (mix F (trial (link q) (incoming p k ls)) (into p ls bs)) x ≡ at (row bs j) x
  unfolding incoming into mix
  into_one p k j q [] bs e lj lb to s = absurd (omega arith)
  into_one p k j q (l ∷ ls) [] e lj lb to s = absurd (omega arith)
  into_one p k zero q (l ∷ ls) (b ∷ bs) e lj lb to s =
      rw (eq-eqb p l.to (sym to))
      (mix-step F (cond (same (link k) (link q)) 1 0) (trial (link q) (incoming p (suc k) ls)) b (into p ls bs) x
      ∙ take (link k) (link q) b _ (eq-eqb k q (omega arith)) (into-none p (suc k) q ls bs (omega arith)) s)
  into_one p k (suc j) q (l ∷ ls) (b ∷ bs) e lj lb to s =
      elim (eqb p l.to) as (λ v. at (mix F (trial (link q) (cond v (link k ∷ incoming p (suc k) ls) (incoming p (suc k) ls))) (cond v (b ∷ into p ls bs) (into p ls bs))) x ≡ at (row bs j) x) [
        | true ↦
            mix-step F (cond (same (link k) (link q)) 1 0) (trial (link q) (incoming p (suc k) ls)) b (into p ls bs) x
            ∙ skip (link k) (link q) b _ (ne_eqb k q (λ e'. omega arith)) ∙ into_one p (suc k) j q ls bs (omega arith) (omega arith) (omega arith) to s
        | false ↦ into_one p (suc k) j q ls bs (omega arith) (omega arith) (omega arith) to s
      ]

  -- at a node: either
  pub hand-one : (h : ℕ) (m : List (List ℕ)) (ls : List Link) (bs : List (List ℕ)) (c : Carrier) (p : ℕ) → length m ≡ h → length bs ≡ length ls
      → ((k : ℕ) → k < length ls → (link_at ls k).to ≡ 0 → ⊥) → Ends ls h (length ls) c p → at (on_carrier m bs c) x < size
      → at (mix F (trial c (at_hand h p ls)) (hand p m ls bs)) x ≡ at (on_carrier m bs c) x
  hand-one h m ls bs (message i) p lm lb far ends s =
      ap₂ (λ a b. at (mix F (trial (message i) a) b) x) (cond-true _ (table h message) (incoming p 0 ls) source) (cond-true _ m (into p ls bs) source)
      ∙ table-one h i message (message i) m ends.0 lm (λ k. refl) s
    where
      source : eqb p 0 ≡ true
      source = eq-eqb p 0 ends.1
  hand-one h m ls bs (link k) p lm lb far ends s =
      ap₂ (λ a b. at (mix F (trial (link k) a) b) x) (cond-false _ (table h message) (incoming p 0 ls) away) (cond-false _ m (into p ls bs) away)
      ∙ into_one p 0 k k ls bs (omega arith) ends.0 lb ends.1 s
    where
      away : eqb p 0 ≡ false
      away = ne_eqb p 0 (λ e. far k ends.0 (ends.1 ∙ e))
