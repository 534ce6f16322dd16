-- Independent vectors have dual rows.
-- The vectors take their places one after the other, from the unit vectors on. When vector t comes, some row from t on isn't 0 on it:
-- else it would be the mix of the vectors before it by its products with their rows. If row t is 0 on it and row p isn't, the vector
-- at place t is added to the one at place p first; this adds row p to row t, which then isn't 0 on vector t.
use Rattle.std.proofs.Common.{◌≡◌, ℕ, zero, suc, ◌<◌, ◌≤◌, true, false, ◌&&◌, eqb, ltb, List, sym, refl, ap, ◌∙◌, ap₂, inl, inr, arith}
use native.Mathlib.Decide.{dec_lt}
use lib.Bits.{bit_xor}
use Rattle.std.proofs.lemmas.Bool.{cond_both, cases_eq, cases_Bool, ltb-true, lt-ltb, and_parts, and_from, both_ways}
use Rattle.gf.specs.Field.{Field}
use Rattle.linear.specs.Vectors.{at, row, delta, units, plus, AllSmall, dot}
use Rattle.linear.specs.Independence.{Independent}
use Rattle.linear.specs.Dual.{put, inverse, serves, Inverse, renew, HasRows, RowsExist}
use Rattle.linear.proofs.Sums.{delta-same, delta-other, delta-below, times_none, by-small, by_right, by-where, by-plus'}
use Rattle.linear.proofs.Lists.{units-at, at-plus}
use Rattle.linear.proofs.Lowest.{search-below}
use Rattle.linear.proofs.Dual.{put-here, put-there, serves-of, of-serves, unserved-of, inverse-same, units-dual, spans, undone, by-there, renew-keeps}

module _ (F : Field) (h : ℕ) (b : ℕ → List ℕ) (small : AllSmall F h b) (independent : Independent F h b) where
  open F use {size, times, laws}
  open laws use {sum_below, times_below, comm, assoc, one}

  -- the first t vectors have taken their places
  record Stage (t : ℕ) : Type 0 where
    rows : List (List ℕ)
    now : ℕ → List ℕ
    elements : AllSmall F h now
    dual : Inverse F h (row rows) now
    front : (i : ℕ) → i < t → now i ≡ b i

  -- v takes the place p, which none of the first t has
  placed : (t p : ℕ) (v : List ℕ) (s : Stage t) → t ≤ p → p < h → ((k : ℕ) → k < h → at v k < size) → serves F h v (row s.rows p) ≡ true → Stage t
  placed t p v s le lp sv served = record {
    rows = renew F h p v s.rows;
    now = put s.now p v;
    elements = λ i li k lk. cond_both (eqb i p) v (s.now i) (λ x. at x k < size) (λ _. sv k lk) (λ _. s.elements i li k lk);
    dual = renew-keeps F h p v s.rows s.now lp sv s.dual served;
    front = λ i li. put-there s.now p v i (λ e. omega arith) ∙ s.front i li;
  }

  stage-more : (t : ℕ) → t < h → (s : Stage t) → serves F h (b t) (row s.rows t) ≡ true → Stage (suc t)
  unfolding placed
  stage-more t lt s served =
      let s' = placed t t (b t) s (omega arith) lt (small t lt) served in
      record {
        rows = s'.rows;
        now = s'.now;
        elements = s'.elements;
        dual = s'.dual;
        front = λ i li.
            elim (cases_eq i t) [
              | inl e ↦ put-here s.now t (b t) i e ∙ ap b (sym e)
              | inr ne ↦ s'.front i (omega arith)
            ];
      }

  module _ (t p : ℕ) (lt : t < p) (lp : p < h) (s : Stage t)
      (unserved : serves F h (b t) (row s.rows t) ≡ false) (served : serves F h (b t) (row s.rows p) ≡ true) where
    lt' : t < h
    lt' = omega arith

    w : List ℕ
    w = plus (s.now p) (s.now t)

    w-small : (k : ℕ) → k < h → at w k < size
    unfolding w
    w-small k lk = rw (at-plus (s.now p) (s.now t) k) (sum_below _ _ (s.elements p lp k lk) (s.elements t lt' k lk))

    -- the products of the rows with the sum
    dot-w : (i : ℕ) → i < h → dot F h (row s.rows i) w ≡ bit_xor (delta i p) (delta i t)
    unfolding w
    dot-w i li =
        by_right F h (at (row s.rows i)) (at w) (λ k. bit_xor (at (s.now p) k) (at (s.now t) k)) (λ k lk. at-plus (s.now p) (s.now t) k)
        ∙ by-plus' F h (at (row s.rows i)) (at (s.now p)) (at (s.now t))
        ∙ ap₂ bit_xor (s.dual.one i p li lp) (s.dual.one i t li lt')

    at_p : dot F h (row s.rows p) w ≡ 1
    at_p = dot-w p lp ∙ ap₂ bit_xor (delta-same p p refl) (delta-other p t (λ e. omega arith))

    at-t : dot F h (row s.rows t) w ≡ 1
    at-t = dot-w t lt' ∙ ap₂ bit_xor (delta-other t p (λ e. omega arith)) (delta-same t t refl)

    ne : dot F h (row s.rows p) w ≡ 0 → ⊥
    ne z = let e : ◌≡◌ {A = ℕ} 1 0 = sym at_p ∙ z in omega arith

    turned : Stage t
    turned = placed t p w s (omega arith) lp w-small (of-serves F h w (row s.rows p) ne)

    -- the product of the new row t with vector t, but for a factor that can be undone, is that of row p
    turned-serves : serves F h (b t) (row turned.rows t) ≡ true
    unfolding turned placed
    turned-serves =
        of-serves F h (b t) (row turned.rows t)
        (λ z.
        serves-of F h (b t) (row s.rows p) served
        (sym (one x (by-small F h (at (row s.rows p)) (at (b t))))
        ∙ ap (λ a. times a x) (sym (undone F h p w s.rows s.now lp w-small s.dual ne) ∙ comm u (dot F h (row s.rows p) w))
        ∙ assoc (dot F h (row s.rows p) w) u x
        ∙ ap (times (dot F h (row s.rows p) w))
        (sym (one (times u x) (times_below u x))
        ∙ sym
        (by-there F h p w s.rows s.now lp w-small s.dual ne t lt' (λ e. omega arith) (at (b t))
        ∙ ap₂ (λ y a. bit_xor y (times a (times u x))) (unserved-of F h (b t) (row s.rows t) unserved) at-t)
        ∙ z)
        ∙ times_none F (dot F h (row s.rows p) w)))
      where
        u : ℕ
        u = inverse F (dot F h (row s.rows p) w)

        x : ℕ
        x = dot F h (row s.rows p) (b t)

  -- where no row from t on serves, vector t is a mix of those before it
  none_left : (t : ℕ) → t < h → (s : Stage t) → ((i : ℕ) → i < h → t ≤ i → serves F h (b t) (row s.rows i) ≡ false) → ⊥
  none_left t lt s none =
      independent t lt (λ i. dot F h (row s.rows i) (b t)) (λ i li. by-small F h (at (row s.rows i)) (at (b t))) (zero-from t lt (omega arith))
      (λ l ll.
      by-where F h (λ i. dot F h (row s.rows i) (b t)) (λ i. at (b i) l) (λ i. at (s.now i) l)
      (λ i li.
      elim (dec_lt i t) [
        | yes before ↦ inr (ap (λ x. at x l) (sym (s.front i before)))
        | no from ↦ inl (zero-from i li (omega arith))
      ])
      ∙ spans F h (row s.rows) s.now s.dual (at (b t)) (small t lt) l ll)
    where
      zero-from : (i : ℕ) → i < h → t ≤ i → dot F h (row s.rows i) (b t) ≡ 0
      zero-from i li le = unserved-of F h (b t) (row s.rows i) (none i li le)

  step : (t : ℕ) → t < h → Stage t → Stage (suc t)
  step t lt s =
      elim (cases_Bool (serves F h (b t) (row s.rows t))) [
        | inl here ↦ stage-more t lt s here
        | inr unserved ↦ elim (search-below (λ p. ltb t p && serves F h (b t) (row s.rows p)) h) [
          | inl r ↦
              let found = and_parts (ltb t r.0) _ r.2 in
              let later : t < r.0 = ltb-true t r.0 found.0 in
              stage-more t lt (turned t r.0 later r.1 s unserved found.1) (turned-serves t r.0 later r.1 s unserved found.1)
          | inr none ↦
              absurd
              (none_left t lt s
              (λ i li le.
              elim (cases_eq i t) [
                | inl e ↦ ap (λ m. serves F h (b t) (row s.rows m)) e ∙ unserved
                | inr later ↦ elim (cases_Bool (serves F h (b t) (row s.rows i))) [
                  | inl yes' ↦ absurd (both_ways _ (none i li) (and_from _ _ (lt-ltb t i (omega arith)) yes'))
                  | inr no' ↦ no'
                ]
              ]))
        ]
      ]

  stages : (t : ℕ) → t ≤ h → Stage t
  stages zero le = record {
    rows = units h;
    now = row (units h);
    elements = λ i li k lk. rw (units-at h i k li lk) (delta-below F i k);
    dual = units-dual F h;
    front = λ i li. absurd (omega arith);
  }
  stages (suc t) le = step t (omega arith) (stages t (omega arith))

  exist : HasRows F h b
  exist =
      let s = stages h (omega arith) in
      record {
        rows = s.rows;
        dual = inverse-same F h (row s.rows) (row s.rows) s.now b (λ i k li lk. refl) (λ i k li lk. ap (λ x. at x k) (sym (s.front i li))) s.dual;
      }

pub rows-exist : (F : Field) → RowsExist F
rows-exist F h b small independent = exist F h b small independent
