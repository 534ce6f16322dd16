-- Independent vectors.
-- Vectors with dual rows are independent: if vector j were a mix of the others, its product with row j would be a mix of 0s, and it
-- is 1. So where v serves row j, the renewed rows show that the vectors with v in that place are independent; where it doesn't, the
-- products of v with the rows are coefficients by which v is a mix of the others.
use Rattle.std.proofs.Common.{◌≡◌, ℕ, ◌<◌, true, false, cond, eqb, List, [], sym, refl, ap, ◌∙◌, ap₂, inl, inr, arith, lit<}
use lib.Bits.{bit_xor, xor_self, xor_zero_r}
use Rattle.std.proofs.lemmas.Bool.{cond-true, cond-false, cond_both, eq-eqb, ne_eqb, cases_eq}
use Rattle.gf.specs.Field.{Field}
use Rattle.linear.specs.Vectors.{at, row, table, delta, AllSmall, dot}
use Rattle.linear.specs.Independence.{Independent, NoRelation, MixWords, OneVectorAlone, UsualWords}
use Rattle.linear.specs.Dual.{put, serves, InverseIndependent, TestDecides}
use Rattle.linear.proofs.Sums.{sum_same, sum-plus, delta-same, delta-other, delta-below, zero-below, times_none, none-times, times-one, times-sum, by, by-small, by-comm, by_left, by_right, by-where, by_plus, by-unit, unit-by, by-by}
use Rattle.linear.proofs.Lists.{get_d-table, at-mix-table}
use Rattle.linear.proofs.Dual.{put-here, put-there, unserved-of, inverse-same, spans, renew-keeps}

module _ (F : Field) where
  open F use {size, times, laws}
  open laws use {sum_below, times_below, comm, assoc, one, undo}

  pub inverse-independent : InverseIndependent F
  inverse-independent h d b inv j lj c sc none mixed =
      let z : ◌≡◌ {A = ℕ} 1 0 =
      sym (inv.one j j lj lj ∙ delta-same j j refl)
      ∙ by-comm F h (at (d j)) (at (b j))
      ∙ by_left F h (at (b j)) (λ l. by F h c (λ i. at (b i) l)) (at (d j)) (λ l ll. sym (mixed l ll))
      ∙ sym (by-by F h h c (λ i. at (b i)) (at (d j)))
      ∙ by_right F h c (λ i. by F h (at (b i)) (at (d j))) (delta j) (λ i li. by-comm F h (at (b i)) (at (d j)) ∙ inv.one j i lj li)
      ∙ by-unit F h j c lj (sc j lj)
      ∙ none in
      omega arith

  pub test-decides : TestDecides F
  test-decides h j v d b lj sv inv = record { yes = yes'; no = no' }
    where
      same_row : (i : ℕ) → i < h → row (table h d) i ≡ d i
      same_row i li = get_d-table h i d [] li

      yes' : serves F h v (d j) ≡ true → Independent F h (put b j v)
      yes' t =
          inverse-independent h _ (put b j v)
          (renew-keeps F h j v (table h d) b lj sv (inverse-same F h d (row (table h d)) b b (λ i k li lk. ap (λ x. at x k) (same_row i li)) (λ i k li lk. refl) inv)
          (ap (serves F h v) (same_row j lj) ∙ t))

      no' : serves F h v (d j) ≡ false → Independent F h (put b j v) → ⊥
      no' t independent =
          let z : dot F h (d j) v ≡ 0 = unserved-of F h v (d j) t in
          independent j lj (λ i. dot F h (d i) v) (λ i li. by-small F h (at (d i)) (at v)) z
          (λ l ll.
          by-where F h (λ i. dot F h (d i) v) (λ i. at (put b j v i) l) (λ i. at (b i) l)
          (λ i li.
          elim (cases_eq i j) [
            | inl e ↦ inl (ap (λ m. dot F h (d m) v) e ∙ z)
            | inr ne ↦ inr (ap (λ x. at x l) (put-there b j v i ne))
          ])
          ∙ spans F h d b inv (at v) sv l ll ∙ ap (λ x. at x l) (sym (put-here b j v j refl)))

  pub mix-words : MixWords F
  mix-words h b = record {
    there = λ independent j lj cs sc none mixed. independent j lj (at cs) sc none (λ l ll. sym (at-mix-table F cs h b l) ∙ mixed l ll);
    back = λ unmixed j lj c sc none mixed.
        unmixed j lj (table h c) (λ k lk. rw (get_d-table h k c 0 lk) (sc k lk)) (get_d-table h j c 0 lj ∙ none)
        (λ l ll. at-mix-table F (table h c) h b l ∙ by_left F h (at (table h c)) c (λ i. at (b i) l) (λ k lk. get_d-table h k c 0 lk) ∙ mixed l ll);
  }

  pub one-vector-alone : OneVectorAlone F
  one-vector-alone v = record {
    yes = λ ne j lj c sc none mixed.
        ne (sym (mixed 0 (lit< tt)) ∙ ap (λ x. times x (at v 0)) (ap c (let e : 0 ≡ j = omega arith in e) ∙ none) ∙ none-times F (at v 0));
    no = λ z independent.
        independent 0 (lit< tt) (λ i. 0) (λ k lk. zero-below F) refl
        (λ l ll. none-times F (at v l) ∙ sym (ap (at v) (let e : l ≡ 0 = omega arith in e) ∙ z));
  }

  module _ (h : ℕ) (b : ℕ → List ℕ) (small : AllSmall F h b) where
    -- a coefficient that isn't 0 is made 1, and its vector is then the mix of the others
    there : Independent F h b → NoRelation F h b
    there independent c sc relation j lj =
        elim (cases_eq (c j) 0) [
          | inl z ↦ z
          | inr ne ↦ let u = undo (c j) (omega arith) (sc j lj) in absurd (mixed u.0 (comm u.0 (c j) ∙ u.2))
        ]
      where
        mixed : (u : ℕ) → times u (c j) ≡ 1 → ⊥
        mixed u e =
            independent j lj c' (λ i li. cond_both (eqb i j) 0 (times u (c i)) (λ x. x < size) (λ _. zero-below F) (λ _. times_below u (c i)))
            (cond-true _ _ _ (eq-eqb j j refl))
            (λ l ll.
            sum_same h _ (λ i. bit_xor (times u (times (c i) (at (b i) l))) (times (at (b j) l) (delta j i))) (term l ll)
            ∙ sum-plus h (λ i. times u (times (c i) (at (b i) l))) (λ i. times (at (b j) l) (delta j i))
            ∙ ap₂ bit_xor
            (sym (times-sum F h u (λ i. times (c i) (at (b i) l))) ∙ ap (times u) (relation l ll) ∙ times_none F u)
            (by-unit F h j (λ i. at (b j) l) lj (small j lj l ll)))
          where
            c' : ℕ → ℕ
            c' i = cond (eqb i j) 0 (times u (c i))

            term : (l : ℕ) → l < h → (i : ℕ) → i < h
                → times (c' i) (at (b i) l) ≡ bit_xor (times u (times (c i) (at (b i) l))) (times (at (b j) l) (delta j i))
            term l ll i li =
                elim (cases_eq i j) [
                  | inl q ↦
                      ap (λ x. times x (at (b i) l)) (cond-true _ _ _ (eq-eqb i j q))
                      ∙ none-times F (at (b i) l)
                      ∙ sym
                      (ap₂ bit_xor
                      (sym (assoc u (c i) (at (b i) l)) ∙ ap (λ m. times (times u (c m)) (at (b m) l)) q
                      ∙ ap (λ x. times x (at (b j) l)) e ∙ one (at (b j) l) (small j lj l ll))
                      (ap (times (at (b j) l)) (delta-same j i (sym q)) ∙ times-one F (at (b j) l) (small j lj l ll))
                      ∙ xor_self (at (b j) l))
                  | inr ne ↦
                      ap (λ x. times x (at (b i) l)) (cond-false _ _ _ (ne_eqb i j ne))
                      ∙ assoc u (c i) (at (b i) l)
                      ∙ sym
                      (ap (bit_xor (times u (times (c i) (at (b i) l)))) (ap (times (at (b j) l)) (delta-other j i (λ q. ne (sym q))) ∙ times_none F (at (b j) l))
                      ∙ xor_zero_r (times u (times (c i) (at (b i) l))))
                ]

    -- what makes vector j out of the others makes 0 with vector j added
    back : NoRelation F h b → Independent F h b
    back free j lj c sc none mixed =
        let z : bit_xor (c j) (delta j j) ≡ 0 =
        free (λ i. bit_xor (c i) (delta j i)) (λ i li. sum_below (c i) (delta j i) (sc i li) (delta-below F j i))
        (λ l ll.
        by_plus F h c (delta j) (λ i. at (b i) l)
        ∙ ap₂ bit_xor (mixed l ll) (unit-by F h j (λ i. at (b i) l) lj (small j lj l ll))
        ∙ xor_self (at (b j) l)) j lj in
        let e : ◌≡◌ {A = ℕ} 1 0 = sym (ap₂ bit_xor none (delta-same j j refl)) ∙ z in
        omega arith

  pub usual-words : UsualWords F
  usual-words h b small = record { there = there h b small; back = back h b small }
