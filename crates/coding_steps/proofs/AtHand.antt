-- What is at hand, one packet after the other: a table and the links into a node grow at their end as the code's lists do.
use Rattle.std.proofs.Common.{◌≡◌, ℕ, zero, suc, ◌+◌, ◌<◌, true, false, cond, eqb, List, [], ◌∷◌, ◌++◌, map, length, take, set, replicate, sym, refl, ap, ◌∙◌, ap₂, inl, inr, append-nil, add-zero, add-one, arith, length-take, get_or-set_other, get_or-set_same}
use lib.ListN.{get_or-replicate, length-replicate}
use Rattle.std.specs.List.{range_with_len}
use Rattle.std.proofs.lemmas.List.{map-append, take_more}
use Rattle.std.proofs.lemmas.Bool.{cond-true, cond-false, cases_eq, eq-eqb, ne_eqb}
use Rattle.linear.specs.Vectors.{at, table, delta}
use Rattle.linear.proofs.Sums.{delta-same, delta-other}
use Rattle.network.specs.Network.{Link, link_at}
use Rattle.coding_theory.specs.Coding.{message, link, incoming}
use Rattle.coding_steps.specs.declared.carrier.Carrier.{Carrier as Named}
use Rattle.coding_steps.specs.declared.carrier.Carrier.TheVariants.{Message, Link as Over}
use Rattle.coding_steps.specs.Carriers.{carrier}

pub table_same : {A : Type 0} (n : ℕ) (f g : ℕ → A) → ((i : ℕ) → i < n → f i ≡ g i) → table n f ≡ table n g
unfolding table
table_same zero f g e = refl
table_same (suc n) f g e = ap₂ (λ x xs. x ∷ xs) (e 0 (omega arith)) (table_same n (λ i. f (suc i)) (λ i. g (suc i)) (λ i l. e (suc i) (omega arith)))

table-suc : {A : Type 0} (n : ℕ) (f : ℕ → A) → table (suc n) f ≡ table n f ++ f n ∷ []
unfolding table
table-suc zero f = refl
table-suc (suc n) f = ap (λ q. f 0 ∷ q) (table-suc n (λ i. f (suc i)))

pub table-push : {A : Type 0} (n : ℕ) (f : ℕ → A) → table (n + 1) f ≡ table n f ++ f n ∷ []
table-push n f = rw add-one (table-suc n f)

incoming-push : (p b : ℕ) (ls : List Link) (l : Link) → incoming p b (ls ++ l ∷ []) ≡ incoming p b ls ++ cond (eqb p l.to) (link (b + length ls) ∷ []) []
unfolding incoming
incoming-push p b [] l = ap (λ n. cond (eqb p l.to) (link n ∷ []) []) (sym (add-zero b))
incoming-push p b (x ∷ ls) l =
    let ih : incoming p (suc b) (ls ++ l ∷ []) ≡ incoming p (suc b) ls ++ cond (eqb p l.to) (link (b + suc (length ls)) ∷ []) [] =
    let e : suc b + length ls ≡ b + suc (length ls) = omega arith in
    incoming-push p (suc b) ls l ∙ ap (λ n. incoming p (suc b) ls ++ cond (eqb p l.to) (link n ∷ []) []) e in
    elim (eqb p x.to) as (λ t. cond t (link b ∷ incoming p (suc b) (ls ++ l ∷ [])) (incoming p (suc b) (ls ++ l ∷ [])) ≡ cond t (link b ∷ incoming p (suc b) ls) (incoming p (suc b) ls) ++ cond (eqb p l.to) (link (b + suc (length ls)) ∷ []) []) [
      | true ↦ ap (λ q. link b ∷ q) ih
      | false ↦ ih
    ]

module _ (node : ℕ) (ls : List Link) (k : ℕ) (lk : k < length ls) (ns : List Named) (so_far : map carrier ns ≡ incoming node 0 (take k ls)) where
  more : incoming node 0 (take (k + 1) ls) ≡ incoming node 0 (take k ls) ++ cond (eqb node (link_at ls k).to) (link k ∷ []) []
  more =
      let e : 0 + length (take k ls) ≡ k = omega (arith, length-take k ls) in
      ap (incoming node 0) (take_more ls k (record { from = 0; to = 0 }) lk) ∙ incoming-push node 0 (take k ls) (link_at ls k)
      ∙ ap (λ n. incoming node 0 (take k ls) ++ cond (eqb node (link_at ls k).to) (link n ∷ []) []) e

  pub into-here : (link_at ls k).to ≡ node → map carrier (ns ++ Over k ∷ []) ≡ incoming node 0 (take (k + 1) ls)
  into-here e = map-append carrier ns (Over k ∷ []) ∙ ap (λ q. q ++ link k ∷ []) so_far ∙ sym (more ∙ ap (λ q. incoming node 0 (take k ls) ++ q) (cond-true _ _ _ (eq-eqb _ _ (sym e))))

  pub into-there : ((link_at ls k).to ≡ node → ⊥) → map carrier ns ≡ incoming node 0 (take (k + 1) ls)
  into-there ne = so_far ∙ sym (more ∙ ap (λ q. incoming node 0 (take k ls) ++ q) (cond-false _ _ _ (ne_eqb _ _ (λ e. ne (sym e)))) ∙ append-nil (incoming node 0 (take k ls)))

-- the packets of the message
pub messages-are : (n a : ℕ) → map carrier (map Message (range_with_len a n)) ≡ table n (λ i. message (a + i))
unfolding table
messages-are zero a = refl
messages-are (suc n) a = ap₂ (λ i q. message i ∷ q) (sym (add-zero a)) (messages-are n (a + 1) ∙ table_same n _ (λ i. message (a + suc i)) (λ i l. ap message (add-shift a i)))
  where
    add-shift : (a i : ℕ) → (a + 1) + i ≡ a + suc i
    add-shift a i = omega arith

-- the places of a unit vector
pub unit-at : (n i x : ℕ) → i < n → x < n → at (set (replicate n 0) i 1) x ≡ delta i x
unit-at n i x li lx =
    elim (cases_eq x i) [
      | inl e ↦ ap (at (set (replicate n 0) i 1)) e ∙ get_or-set_same (replicate n 0) i 1 0 (omega (arith, length-replicate {A = ℕ} n 0)) ∙ sym (delta-same i x (sym e))
      | inr ne ↦ get_or-set_other (replicate n 0) i x 1 0 ne ∙ get_or-replicate n x 0 0 lx ∙ sym (delta-other i x (λ e. ne (sym e)))
    ]
