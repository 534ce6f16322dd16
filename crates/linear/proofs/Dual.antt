-- Dual rows are renewed in one step when v takes the place j.
-- Row j is divided by its product with v, and of each other row as much of it is taken off as makes the product with v 0. The other
-- vectors have the product 0 with row j, so nothing else changes. On the other side the sum over all places has three parts: the old
-- sum, what v brings at its place, and what was taken off; the last two are the same, since the rows make v out of the old vectors.
use Rattle.std.proofs.Common.{◌≡◌, ℕ, ◌<◌, true, false, eqb, List, [], sym, ap, ◌∙◌, ap₂, inl, inr, arith}
use lib.Bits.{bit_xor, xor_assoc, xor_self, xor_zero_r}
use Rattle.std.proofs.lemmas.Bool.{cond-true, cond-false, eq-eqb, ne_eqb, eqb-true, eqb-false, cases_eq, not-true, not-false, not_from_false}
use Rattle.gf.specs.Field.{Field}
use Rattle.linear.specs.Vectors.{at, row, delta, units, Small, dot}
use Rattle.linear.specs.Dual.{put, inverse, serves, Inverse, renew, UnitsDual, RenewKeeps}
use Rattle.linear.proofs.Sums.{sum_same, sum-plus, delta-same, delta-other, delta-turn, delta-below, times_none, times-one, plus-over, times-sum, by, by-small, by-comm, by-same, by_left, by_plus, by-scale, by-unit, unit-by, by-by}
use Rattle.linear.proofs.Lists.{get_d-table, units-at, at-plus, at-scale}
use Rattle.linear.proofs.Lowest.{lowest-passes}

pub put-here : (b : ℕ → List ℕ) (j : ℕ) (v : List ℕ) (i : ℕ) → i ≡ j → put b j v i ≡ v
put-here b j v i e = cond-true _ _ _ (eq-eqb i j e)

pub put-there : (b : ℕ → List ℕ) (j : ℕ) (v : List ℕ) (i : ℕ) → (i ≡ j → ⊥) → put b j v i ≡ b i
put-there b j v i ne = cond-false _ _ _ (ne_eqb i j ne)

module _ (F : Field) where
  open F use {size, times, laws}
  open laws use {sum_below, times_below, comm, assoc, undo}

  -- ---- the test as a product that isn't 0
  pub serves-of : (h : ℕ) (v test : List ℕ) → serves F h v test ≡ true → dot F h test v ≡ 0 → ⊥
  serves-of h v test t = eqb-false _ _ (not-true _ t)

  pub of-serves : (h : ℕ) (v test : List ℕ) → (dot F h test v ≡ 0 → ⊥) → serves F h v test ≡ true
  of-serves h v test ne = not_from_false _ (ne_eqb _ _ ne)

  pub unserved-of : (h : ℕ) (v test : List ℕ) → serves F h v test ≡ false → dot F h test v ≡ 0
  unserved-of h v test t = eqb-true _ _ (not-false _ t)

  pub inverse-undoes : (a : ℕ) → (a ≡ 0 → ⊥) → a < size → times a (inverse F a) ≡ 1
  inverse-undoes a ne l =
      let u = undo a (omega arith) l in
      eqb-true _ _ (lowest-passes (λ u. eqb (times a u) 1) size 0 u.0 (omega arith) (omega (arith, u.1)) (eq-eqb _ _ u.2))

  -- only the first h elements count
  pub inverse-same : (h : ℕ) (d d' b b' : ℕ → List ℕ) → ((i k : ℕ) → i < h → k < h → at (d' i) k ≡ at (d i) k)
      → ((i k : ℕ) → i < h → k < h → at (b' i) k ≡ at (b i) k) → Inverse F h d b → Inverse F h d' b'
  inverse-same h d d' b b' e f inv = record {
    small = λ i k li lk. rw (e i k li lk) (inv.small i k li lk);
    one = λ i j li lj. by-same F h (at (d' i)) (at (d i)) (at (b' j)) (at (b j)) (λ k lk. e i k li lk) (λ k lk. f j k lj lk) ∙ inv.one i j li lj;
    other = λ k l lk ll.
        by-same F h (λ i. at (d' i) k) (λ i. at (d i) k) (λ i. at (b' i) l) (λ i. at (b i) l) (λ i li. e i k li lk) (λ i li. f i l li ll)
        ∙ inv.other k l lk ll;
  }

  pub units-dual : UnitsDual F
  units-dual h = record {
    small = λ i k li lk. rw (units-at h i k li lk) (delta-below F i k);
    one = λ i j li lj.
        by-same F h (at (row (units h) i)) (delta i) (at (row (units h) j)) (delta j) (λ k lk. units-at h i k li lk) (λ k lk. units-at h j k lj lk)
        ∙ by-unit F h j (delta i) lj (delta-below F i j);
    other = λ k l lk ll.
        by-same F h (λ i. at (row (units h) i) k) (delta k) (λ i. at (row (units h) i) l) (delta l)
        (λ i li. units-at h i k li lk ∙ delta-turn i k) (λ i li. units-at h i l li ll ∙ delta-turn i l)
        ∙ by-unit F h l (delta k) ll (delta-below F k l);
  }

  -- every vector is the mix of b by its products with the rows
  pub spans : (h : ℕ) (d b : ℕ → List ℕ) → Inverse F h d b → (x : ℕ → ℕ) → Small F h x → (l : ℕ) → l < h
      → by F h (λ i. by F h (at (d i)) x) (λ i. at (b i) l) ≡ x l
  spans h d b inv x sx l ll =
      by-comm F h (λ i. by F h (at (d i)) x) (λ i. at (b i) l)
      ∙ by-by F h h (λ i. at (b i) l) (λ i. at (d i)) x
      ∙ by_left F h _ (delta l) x (λ k lk. by-comm F h (λ i. at (b i) l) (λ i. at (d i) k) ∙ inv.other k l lk ll ∙ delta-turn k l)
      ∙ unit-by F h l x ll (sx l ll)

  module _ (h j : ℕ) (v : List ℕ) (d : List (List ℕ)) where
    -- what row j is multiplied with
    abbrev u : ℕ
    u = inverse F (dot F h (row d j) v)

    renew-here : (i k : ℕ) → i < h → i ≡ j → at (row (renew F h j v d) i) k ≡ times u (at (row d j) k)
    unfolding renew
    renew-here i k li e = ap (λ x. at x k) (get_d-table h i _ [] li ∙ cond-true _ _ _ (eq-eqb i j e)) ∙ at-scale F u (row d j) k

    renew-there : (i k : ℕ) → i < h → (i ≡ j → ⊥)
        → at (row (renew F h j v d) i) k ≡ bit_xor (at (row d i) k) (times (dot F h (row d i) v) (times u (at (row d j) k)))
    unfolding renew
    renew-there i k li ne =
        ap (λ x. at x k) (get_d-table h i _ [] li ∙ cond-false _ _ _ (ne_eqb i j ne))
        ∙ at-plus (row d i) _ k
        ∙ ap (bit_xor (at (row d i) k)) (at-scale F (dot F h (row d i) v) _ k ∙ ap (times (dot F h (row d i) v)) (at-scale F u (row d j) k))

    module _ (b : ℕ → List ℕ) (lj : j < h) (sv : Small F h (at v)) (inv : Inverse F h (row d) b) (ne : dot F h (row d j) v ≡ 0 → ⊥) where
      abbrev d' : ℕ → List ℕ
      d' = row (renew F h j v d)

      pub undone : times u (dot F h (row d j) v) ≡ 1
      undone = comm _ _ ∙ inverse-undoes (dot F h (row d j) v) ne (by-small F h (at (row d j)) (at v))

      -- the products of the new rows
      by-here : (i : ℕ) → i < h → i ≡ j → (y : ℕ → ℕ) → by F h (at (d' i)) y ≡ times u (by F h (at (row d j)) y)
      by-here i li e y =
          by_left F h (at (d' i)) (λ k. times u (at (row d j) k)) y (λ k lk. renew-here i k li e) ∙ by-scale F h u (at (row d j)) y

      pub by-there : (i : ℕ) → i < h → (i ≡ j → ⊥) → (y : ℕ → ℕ)
          → by F h (at (d' i)) y ≡ bit_xor (by F h (at (row d i)) y) (times (dot F h (row d i) v) (times u (by F h (at (row d j)) y)))
      by-there i li ne y =
          by_left F h (at (d' i)) (λ k. bit_xor (at (row d i) k) (times (dot F h (row d i) v) (times u (at (row d j) k)))) y (λ k lk. renew-there i k li ne)
          ∙ by_plus F h (at (row d i)) (λ k. times (dot F h (row d i) v) (times u (at (row d j) k))) y
          ∙ ap (bit_xor (by F h (at (row d i)) y))
          (by-scale F h (dot F h (row d i) v) (λ k. times u (at (row d j) k)) y ∙ ap (times (dot F h (row d i) v)) (by-scale F h u (at (row d j)) y))

      -- row j times each other vector is 0
      others-zero : (k : ℕ) → k < h → (k ≡ j → ⊥) → times u (dot F h (row d j) (b k)) ≡ 0
      others-zero k lk nk = ap (times u) (inv.one j k lj lk ∙ delta-other j k (λ e. nk (sym e))) ∙ times_none F u

      one' : (i k : ℕ) → i < h → k < h → dot F h (d' i) (put b j v k) ≡ delta i k
      one' i k li lk =
          elim (cases_eq k j) [
            | inl f ↦
                ap (λ x. dot F h (d' i) x) (put-here b j v k f)
                ∙ elim (cases_eq i j) [
                  | inl e ↦ by-here i li e (at v) ∙ undone ∙ sym (delta-same i k (e ∙ sym f))
                  | inr ni ↦
                      by-there i li ni (at v)
                      ∙ ap (λ x. bit_xor (dot F h (row d i) v) (times (dot F h (row d i) v) x)) undone
                      ∙ ap (bit_xor (dot F h (row d i) v)) (times-one F (dot F h (row d i) v) (by-small F h (at (row d i)) (at v)))
                      ∙ xor_self (dot F h (row d i) v)
                      ∙ sym (delta-other i k (λ e. ni (e ∙ f)))
                ]
            | inr nk ↦
                ap (λ x. dot F h (d' i) x) (put-there b j v k nk)
                ∙ elim (cases_eq i j) [
                  | inl e ↦ by-here i li e (at (b k)) ∙ others-zero k lk nk ∙ sym (delta-other i k (λ f. nk (sym f ∙ e)))
                  | inr ni ↦
                      by-there i li ni (at (b k))
                      ∙ ap (λ x. bit_xor (dot F h (row d i) (b k)) (times (dot F h (row d i) v) x)) (others-zero k lk nk)
                      ∙ ap (bit_xor (dot F h (row d i) (b k))) (times_none F (dot F h (row d i) v))
                      ∙ xor_zero_r (dot F h (row d i) (b k))
                      ∙ inv.one i k li lk
                ]
          ]

      module _ (k l : ℕ) (lk : k < h) (ll : l < h) where
        -- what row j now has at k
        s : ℕ
        s = times u (at (row d j) k)

        old : ℕ → ℕ
        old i = times (at (row d i) k) (at (b i) l)

        off : ℕ → ℕ
        off i = times s (times (dot F h (row d i) v) (at (b i) l))

        new : ℕ → ℕ
        new i = times (times s (at v l)) (delta j i)

        -- at the place j, what is taken off is all that was there
        gone : (i : ℕ) → i ≡ j → off i ≡ old i
        unfolding s old off
        gone i e =
            sym (assoc s (dot F h (row d i) v) (at (b i) l))
            ∙ ap (λ t. times t (at (b i) l))
            (ap (λ m. times s (dot F h (row d m) v)) e
            ∙ ap (λ t. times t (dot F h (row d j) v)) (comm u (at (row d j) k))
            ∙ assoc (at (row d j) k) u (dot F h (row d j) v)
            ∙ ap (times (at (row d j) k)) undone
            ∙ times-one F (at (row d j) k) (inv.small j k lj lk)
            ∙ ap (λ m. at (row d m) k) (sym e))

        term : (i : ℕ) → i < h → times (at (d' i) k) (at (put b j v i) l) ≡ bit_xor (bit_xor (old i) (off i)) (new i)
        unfolding s old off new
        term i li =
            elim (cases_eq i j) [
              | inl e ↦
                  ap₂ times (renew-here i k li e) (ap (λ x. at x l) (put-here b j v i e))
                  ∙ sym
                  (ap₂ bit_xor (ap (bit_xor (old i)) (gone i e) ∙ xor_self (old i))
                  (ap (times (times s (at v l))) (delta-same j i (sym e)) ∙ times-one F (times s (at v l)) (times_below s (at v l))))
              | inr ni ↦
                  ap₂ times (renew-there i k li ni) (ap (λ x. at x l) (put-there b j v i ni))
                  ∙ plus-over F (at (row d i) k) (times (dot F h (row d i) v) s) (at (b i) l)
                  ∙ ap (bit_xor (old i)) (ap (λ t. times t (at (b i) l)) (comm (dot F h (row d i) v) s) ∙ assoc s (dot F h (row d i) v) (at (b i) l))
                  ∙ sym (xor_zero_r (bit_xor (old i) (off i)))
                  ∙ ap (bit_xor (bit_xor (old i) (off i))) (sym (ap (times (times s (at v l))) (delta-other j i (λ e. ni (sym e))) ∙ times_none F (times s (at v l))))
            ]

        other' : by F h (λ i. at (d' i) k) (λ i. at (put b j v i) l) ≡ delta k l
        unfolding s old off new
        other' =
            sum_same h _ (λ i. bit_xor (bit_xor (old i) (off i)) (new i)) term
            ∙ sum-plus h (λ i. bit_xor (old i) (off i)) new
            ∙ ap₂ bit_xor
            (sum-plus h old off
            ∙ ap₂ bit_xor (inv.other k l lk ll)
            (sym (times-sum F h s (λ i. times (dot F h (row d i) v) (at (b i) l))) ∙ ap (times s) (spans h (row d) b inv (at v) sv l ll)))
            (by-unit F h j (λ i. times s (at v l)) lj (times_below s (at v l)))
            ∙ xor_assoc (delta k l) (times s (at v l)) (times s (at v l))
            ∙ ap (bit_xor (delta k l)) (xor_self (times s (at v l)))
            ∙ xor_zero_r (delta k l)

      small' : (i k : ℕ) → i < h → k < h → at (d' i) k < size
      small' i k li lk =
          elim (cases_eq i j) [
            | inl e ↦ rw (renew-here i k li e) (times_below u (at (row d j) k))
            | inr ni ↦ rw (renew-there i k li ni) (sum_below _ _ (inv.small i k li lk) (times_below _ _))
          ]

      renewed : Inverse F h d' (put b j v)
      renewed = record { small = small'; one = one'; other = other' }

  pub renew-keeps : RenewKeeps F
  renew-keeps h j v d b lj sv inv t = renewed h j v d b lj sv inv (serves-of h v (row d j) t)
