-- Vectors as lists: what stands at each place of a table, a sum, a multiple and a mix.
-- A mix is a product of vectors at each place: that of its coefficients with what the packets have there. From this the laws of
-- mixes follow by those of products.
use Rattle.std.proofs.Common.{◌≡◌, ℕ, zero, suc, ◌<◌, List, [], ◌∷◌, map, length, get_or, sym, refl, ap, ◌∙◌, ap₂, arith}
use lib.Bits.{bit_xor, xor_zero_r}
use Rattle.gf.specs.Field.{Field}
use Rattle.linear.specs.Vectors.{at, row, table, delta, units, plus, scale, mix, mixed, Mixes}
use Rattle.linear.proofs.Sums.{sum-front, zero-below, times_none, by, by-small, by_left, by_right, by_plus, by-scale, none-by}

pub get_d-table : {A : Type 0} (n i : ℕ) (f : ℕ → A) (d : A) → i < n → get_or (table n f) i d ≡ f i
unfolding table
get_d-table zero i f d l = absurd (omega arith)
get_d-table (suc n) zero f d l = refl
get_d-table (suc n) (suc i) f d l = get_d-table n i (λ k. f (suc k)) d (omega arith)

pub length-table : {A : Type 0} (n : ℕ) (f : ℕ → A) → length (table n f) ≡ n
unfolding table
length-table zero f = refl
length-table (suc n) f = ap suc (length-table n (λ k. f (suc k)))

pub table-small : (s n : ℕ) (f : ℕ → ℕ) → 0 < s → ((i : ℕ) → f i < s) → (i : ℕ) → at (table n f) i < s
unfolding table
table-small s zero f pos b i = pos
table-small s (suc n) f pos b zero = b 0
table-small s (suc n) f pos b (suc i) = table-small s n (λ k. f (suc k)) pos (λ k. b (suc k)) i

pub units-at : (h i k : ℕ) → i < h → k < h → at (row (units h) i) k ≡ delta i k
units-at h i k li lk = ap (λ x. at x k) (get_d-table h i (λ j. table h (delta j)) [] li) ∙ get_d-table h k (delta i) 0 lk

pub get_d_map : {A B : Type 0} (g : A → B) (xs : List A) (k : ℕ) (d : A) (d' : B) → k < length xs → get_or (map g xs) k d' ≡ g (get_or xs k d)
get_d_map g [] k d d' l = absurd (omega arith)
get_d_map g (x ∷ xs) zero d d' l = refl
get_d_map g (x ∷ xs) (suc k) d d' l = get_d_map g xs k d d' (omega arith)

pub at-plus : (x y : List ℕ) (i : ℕ) → at (plus x y) i ≡ bit_xor (at x i) (at y i)
unfolding plus
at-plus [] y i = refl
at-plus (a ∷ x) [] i = sym (xor_zero_r (at (a ∷ x) i))
at-plus (a ∷ x) (b ∷ y) zero = refl
at-plus (a ∷ x) (b ∷ y) (suc i) = at-plus x y i

pub length-plus : (x y : List ℕ) → length x ≡ length y → length (plus x y) ≡ length y
unfolding plus
length-plus [] y e = refl
length-plus (a ∷ x) [] e = absurd (omega arith)
length-plus (a ∷ x) (b ∷ y) e = ap suc (length-plus x y (omega arith))

module _ (F : Field) where
  open F use {size, times}

  pub at-scale : (t : ℕ) (x : List ℕ) (i : ℕ) → at (scale F t x) i ≡ times t (at x i)
  unfolding scale
  at-scale t [] i = sym (times_none F t)
  at-scale t (a ∷ x) zero = refl
  at-scale t (a ∷ x) (suc i) = at-scale t x i

  pub length-scale : (t : ℕ) (x : List ℕ) → length (scale F t x) ≡ length x
  unfolding scale
  length-scale t [] = refl
  length-scale t (a ∷ x) = ap suc (length-scale t x)

  pub mix-step : (c : ℕ) (cs b : List ℕ) (bs : List (List ℕ)) (i : ℕ) → at (mix F (c ∷ cs) (b ∷ bs)) i ≡ bit_xor (times c (at b i)) (at (mix F cs bs) i)
  unfolding mix
  mix-step c cs b bs i = at-plus (scale F c b) (mix F cs bs) i ∙ ap (λ x. bit_xor x (at (mix F cs bs) i)) (at-scale c b i)

  pub at-mix : (cs : List ℕ) (bs : List (List ℕ)) (i : ℕ) → at (mix F cs bs) i ≡ by F (length bs) (at cs) (λ j. at (row bs j) i)
  unfolding mix
  at-mix [] bs i = sym (none-by F (length bs) (λ j. at (row bs j) i))
  at-mix (c ∷ cs) [] i = refl
  at-mix (c ∷ cs) (b ∷ bs) i =
      mix-step c cs b bs i
      ∙ ap (bit_xor (times c (at b i))) (at-mix cs bs i)
      ∙ sym (sum-front (length bs) (λ j. times (at (c ∷ cs) j) (at (row (b ∷ bs) j) i)))

  pub at-mix-table : (cs : List ℕ) (n : ℕ) (b : ℕ → List ℕ) (i : ℕ) → at (mix F cs (table n b)) i ≡ by F n (at cs) (λ j. at (b j) i)
  at-mix-table cs n b i =
      at-mix cs (table n b) i
      ∙ ap (λ m. by F m (at cs) (λ j. at (row (table n b) j) i)) (length-table n b)
      ∙ by_right F n (at cs) _ _ (λ j lj. ap (λ x. at x i) (get_d-table n j b [] lj))

  pub at-mixed : (n : ℕ) (cs : List ℕ) (bs : List (List ℕ)) (i : ℕ) → i < n → at (mixed F n cs bs) i ≡ at (mix F cs bs) i
  at-mixed n cs bs i li = get_d-table n i (λ i. at (mix F cs bs) i) 0 li

  pub mix-small : (cs : List ℕ) (bs : List (List ℕ)) (i : ℕ) → at (mix F cs bs) i < size
  mix-small cs bs i = rw (at-mix cs bs i) (by-small F (length bs) (at cs) (λ j. at (row bs j) i))

  pub mixed-small : (n : ℕ) (cs : List ℕ) (bs : List (List ℕ)) (i : ℕ) → at (mixed F n cs bs) i < size
  mixed-small n cs bs i = table-small size n (λ i. at (mix F cs bs) i) (zero-below F) (mix-small cs bs) i

  pub mix-plus : (cs ds : List ℕ) (bs : List (List ℕ)) (i : ℕ) → at (mix F (plus cs ds) bs) i ≡ bit_xor (at (mix F cs bs) i) (at (mix F ds bs) i)
  mix-plus cs ds bs i =
      at-mix (plus cs ds) bs i
      ∙ by_left F (length bs) _ _ (λ j. at (row bs j) i) (λ j lj. at-plus cs ds j)
      ∙ by_plus F (length bs) (at cs) (at ds) (λ j. at (row bs j) i)
      ∙ sym (ap₂ bit_xor (at-mix cs bs i) (at-mix ds bs i))

  pub mix-scale : (t : ℕ) (cs : List ℕ) (bs : List (List ℕ)) (i : ℕ) → at (mix F (scale F t cs) bs) i ≡ times t (at (mix F cs bs) i)
  mix-scale t cs bs i =
      at-mix (scale F t cs) bs i
      ∙ by_left F (length bs) _ _ (λ j. at (row bs j) i) (λ j lj. at-scale t cs j)
      ∙ by-scale F (length bs) t (at cs) (λ j. at (row bs j) i)
      ∙ ap (times t) (sym (at-mix cs bs i))

  mixed-none : (n : ℕ) (cs : List ℕ) → mixed F n cs [] ≡ table n (λ i. 0)
  unfolding mix
  mixed-none n [] = refl
  mixed-none n (c ∷ cs) = refl

  none-mixed : (n : ℕ) (bs : List (List ℕ)) → mixed F n [] bs ≡ table n (λ i. 0)
  unfolding mix
  none-mixed n bs = refl

  pub mixes : Mixes F
  mixes = record {
    at-plus = at-plus;
    at-scale = at-scale;
    at-mix = at-mix;
    at-mixed = at-mixed;
    mix-small = mix-small;
    mixed-small = mixed-small;
    mixed-none = mixed-none;
    none-mixed = none-mixed;
    mix-plus = mix-plus;
    mix-scale = mix-scale;
    length-plus = length-plus;
    length-scale = length-scale;
    length-mixed = λ n cs bs. length-table n (λ i. at (mix F cs bs) i);
  }
