-- Sums over any field, and products of vectors that are functions of the place.
-- A sum is taken apart at its end; two sums are exchanged by induction on the outer one; a product of vectors is linear in each
-- of them, since the product of elements is; with a unit vector, one term is left.
use Rattle.std.proofs.Common.{◌≡◌, ℕ, zero, suc, ◌<◌, ◌≤◌, true, false, cond, eqb, ◌⊎◌, sym, refl, ap, ◌∙◌, ap₂, inl, inr, arith}
use native.Mathlib.Decide.{dec_lt}
use lib.Bits.{bit_xor, xor_assoc, xor_zero_r}
use Rattle.std.proofs.lemmas.Bool.{cond-true, cond-false, eq-eqb, ne_eqb, cases_eq}
use Rattle.gf.specs.Field.{Field}
use Rattle.gf.specs.Sum.{sum}
use Rattle.gf.proofs.Xor.{xor4, additive-zero}
use Rattle.linear.specs.Vectors.{delta}

-- ---- sums
pub sum_same : (n : ℕ) (f g : ℕ → ℕ) → ((i : ℕ) → i < n → f i ≡ g i) → sum n f ≡ sum n g
sum_same zero f g e = refl
sum_same (suc n) f g e = ap₂ bit_xor (sum_same n f g (λ i h. e i (omega arith))) (e n (omega arith))

pub sum-zero : (n : ℕ) → sum n (λ i. 0) ≡ 0
sum-zero zero = refl
sum-zero (suc n) = xor_zero_r (sum n (λ i. 0)) ∙ sum-zero n

pub sum-plus : (n : ℕ) (f g : ℕ → ℕ) → sum n (λ i. bit_xor (f i) (g i)) ≡ bit_xor (sum n f) (sum n g)
sum-plus zero f g = refl
sum-plus (suc n) f g = ap (λ s. bit_xor s (bit_xor (f n) (g n))) (sum-plus n f g) ∙ xor4 (sum n f) (sum n g) (f n) (g n)

pub sum-swap : (m n : ℕ) (f : ℕ → ℕ → ℕ) → sum m (λ i. sum n (f i)) ≡ sum n (λ j. sum m (λ i. f i j))
sum-swap zero n f = sym (sum-zero n)
sum-swap (suc m) n f =
    ap (λ s. bit_xor s (sum n (f m))) (sum-swap m n f) ∙ sym (sum-plus n (λ j. sum m (λ i. f i j)) (f m))

-- the first term apart
pub sum-front : (n : ℕ) (f : ℕ → ℕ) → sum (suc n) f ≡ bit_xor (f 0) (sum n (λ i. f (suc i)))
sum-front zero f = sym (xor_zero_r (f 0))
sum-front (suc n) f = ap (λ x. bit_xor x (f (suc n))) (sum-front n f) ∙ xor_assoc (f 0) (sum n (λ i. f (suc i))) (f (suc n))

-- where only the term at i can be other than 0
sum-none : (n i : ℕ) (f : ℕ → ℕ) → n ≤ i → ((j : ℕ) → (j ≡ i → ⊥) → f j ≡ 0) → sum n f ≡ 0
sum-none zero i f le off = refl
sum-none (suc n) i f le off = ap₂ bit_xor (sum-none n i f (omega arith) off) (off n (λ e. omega arith))

pub sum_one : (n i : ℕ) (f : ℕ → ℕ) → i < n → ((j : ℕ) → (j ≡ i → ⊥) → f j ≡ 0) → sum n f ≡ f i
sum_one zero i f lt off = absurd (omega arith)
sum_one (suc n) i f lt off =
    elim (dec_lt i n) [
      | yes l ↦ ap₂ bit_xor (sum_one n i f l off) (off n (λ e. omega arith)) ∙ xor_zero_r (f i)
      | no g ↦ ap₂ bit_xor (sum-none n i f (omega arith) off) (ap f (let e : n ≡ i = omega arith in e))
    ]

-- ---- unit vectors
pub delta-same : (i j : ℕ) → i ≡ j → delta i j ≡ 1
delta-same i j e = cond-true _ _ _ (eq-eqb i j e)

pub delta-other : (i j : ℕ) → (i ≡ j → ⊥) → delta i j ≡ 0
delta-other i j ne = cond-false _ _ _ (ne_eqb i j ne)

pub delta-turn : (i j : ℕ) → delta i j ≡ delta j i
delta-turn i j =
    elim (cases_eq i j) [
      | inl e ↦ delta-same i j e ∙ sym (delta-same j i (sym e))
      | inr ne ↦ delta-other i j ne ∙ sym (delta-other j i (λ e. ne (sym e)))
    ]

module _ (F : Field) where
  open F use {size, times, laws}
  open laws use {more, sum_below, times_below, comm, assoc, over-sum, one, undo}

  -- ---- elements
  pub zero-below : 0 < size
  zero-below = omega (arith, more)

  pub delta-below : (i j : ℕ) → delta i j < size
  delta-below i j = elim (eqb i j) as (λ v. cond v 1 0 < size) [ true ↦ more | false ↦ zero-below ]

  pub times_none : (a : ℕ) → times a 0 ≡ 0
  times_none a = additive-zero (times a) (over-sum a)

  pub none-times : (a : ℕ) → times 0 a ≡ 0
  none-times a = comm 0 a ∙ times_none a

  pub times-one : (a : ℕ) → a < size → times a 1 ≡ a
  times-one a h = comm a 1 ∙ one a h

  pub plus-over : (a b c : ℕ) → times (bit_xor a b) c ≡ bit_xor (times a c) (times b c)
  plus-over a b c = comm (bit_xor a b) c ∙ over-sum c a b ∙ ap₂ bit_xor (comm c a) (comm c b)

  -- a factor other than 0 can be taken off
  pub cancel : (a b x : ℕ) → a < size → b < size → x < size → (x ≡ 0 → ⊥) → times a x ≡ times b x → a ≡ b
  cancel a b x la lb lx ne e =
      let u = undo x (omega arith) lx in
      sym (times-one a la)
      ∙ ap (times a) (sym u.2) ∙ sym (assoc a x u.0) ∙ ap (λ y. times y u.0) e
      ∙ assoc b x u.0 ∙ ap (times b) u.2 ∙ times-one b lb

  pub times-sum : (n a : ℕ) (f : ℕ → ℕ) → times a (sum n f) ≡ sum n (λ i. times a (f i))
  times-sum zero a f = times_none a
  times-sum (suc n) a f = over-sum a (sum n f) (f n) ∙ ap (λ s. bit_xor s (times a (f n))) (times-sum n a f)

  -- ---- the product of two vectors of h places
  abbrev pub by : ℕ → (ℕ → ℕ) → (ℕ → ℕ) → ℕ
  by h x y = sum h (λ k. times (x k) (y k))

  pub by-small : (h : ℕ) (x y : ℕ → ℕ) → by h x y < size
  by-small zero x y = zero-below
  by-small (suc h) x y = sum_below (by h x y) (times (x h) (y h)) (by-small h x y) (times_below (x h) (y h))

  pub by-comm : (h : ℕ) (x y : ℕ → ℕ) → by h x y ≡ by h y x
  by-comm h x y = sum_same h _ _ (λ k l. comm (x k) (y k))

  pub by-same : (h : ℕ) (x x' y y' : ℕ → ℕ) → ((k : ℕ) → k < h → x k ≡ x' k) → ((k : ℕ) → k < h → y k ≡ y' k) → by h x y ≡ by h x' y'
  by-same h x x' y y' e f = sum_same h _ _ (λ k l. ap₂ times (e k l) (f k l))

  pub by_left : (h : ℕ) (x x' y : ℕ → ℕ) → ((k : ℕ) → k < h → x k ≡ x' k) → by h x y ≡ by h x' y
  by_left h x x' y e = by-same h x x' y y e (λ k l. refl)

  pub by_right : (h : ℕ) (x y y' : ℕ → ℕ) → ((k : ℕ) → k < h → y k ≡ y' k) → by h x y ≡ by h x y'
  by_right h x y y' e = by-same h x x y y' (λ k l. refl) e

  -- places with the factor 0 don't count
  pub by-where : (h : ℕ) (a x y : ℕ → ℕ) → ((k : ℕ) → k < h → (a k ≡ 0) ⊎ (x k ≡ y k)) → by h a x ≡ by h a y
  by-where h a x y e =
      sum_same h _ _
      (λ k lk.
      elim (e k lk) [
        | inl z ↦ ap (λ t. times t (x k)) z ∙ none-times (x k) ∙ sym (ap (λ t. times t (y k)) z ∙ none-times (y k))
        | inr q ↦ ap (times (a k)) q
      ])

  -- the product is linear in its first vector
  pub by_plus : (h : ℕ) (x x' y : ℕ → ℕ) → by h (λ k. bit_xor (x k) (x' k)) y ≡ bit_xor (by h x y) (by h x' y)
  by_plus h x x' y = sum_same h _ _ (λ k l. plus-over (x k) (x' k) (y k)) ∙ sum-plus h _ _

  pub by-scale : (h a : ℕ) (x y : ℕ → ℕ) → by h (λ k. times a (x k)) y ≡ times a (by h x y)
  by-scale h a x y = sum_same h _ _ (λ k l. assoc a (x k) (y k)) ∙ sym (times-sum h a (λ k. times (x k) (y k)))

  -- and in its second
  pub by-plus' : (h : ℕ) (x y y' : ℕ → ℕ) → by h x (λ k. bit_xor (y k) (y' k)) ≡ bit_xor (by h x y) (by h x y')
  by-plus' h x y y' = sum_same h _ _ (λ k l. over-sum (x k) (y k) (y' k)) ∙ sum-plus h _ _

  pub by-scale' : (h a : ℕ) (x y : ℕ → ℕ) → by h x (λ k. times a (y k)) ≡ times a (by h x y)
  by-scale' h a x y = by-comm h x _ ∙ by-scale h a y x ∙ ap (times a) (by-comm h y x)

  pub none-by : (h : ℕ) (y : ℕ → ℕ) → by h (λ k. 0) y ≡ 0
  none-by h y = sum_same h _ (λ k. 0) (λ k l. none-times (y k)) ∙ sum-zero h

  -- with a unit vector
  pub by-unit : (h i : ℕ) (x : ℕ → ℕ) → i < h → x i < size → by h x (delta i) ≡ x i
  by-unit h i x l s =
      sum_one h i (λ k. times (x k) (delta i k)) l (λ k ne. ap (times (x k)) (delta-other i k (λ e. ne (sym e))) ∙ times_none (x k))
      ∙ ap (times (x i)) (delta-same i i refl) ∙ times-one (x i) s

  pub unit-by : (h i : ℕ) (x : ℕ → ℕ) → i < h → x i < size → by h (delta i) x ≡ x i
  unit-by h i x l s = by-comm h (delta i) x ∙ by-unit h i x l s

  -- the mix by c of the products of x with the rows of B is the product of x with the mix of the rows
  pub by-by : (h n : ℕ) (c : ℕ → ℕ) (B : ℕ → ℕ → ℕ) (x : ℕ → ℕ) → by n c (λ j. by h (B j) x) ≡ by h (λ l. by n c (λ j. B j l)) x
  by-by h n c B x =
      sum_same n _ (λ j. by h (λ l. times (c j) (B j l)) x) (λ j lj. sym (by-scale h (c j) (B j) x))
      ∙ sum-swap n h (λ j l. times (times (c j) (B j l)) (x l))
      ∙ sum_same h _ _ (λ l ll. sum_same n _ _ (λ j lj. comm (times (c j) (B j l)) (x l)) ∙ sym (times-sum n (x l) (λ j. times (c j) (B j l))) ∙ comm (x l) _)
