-- Vectors and packets over a field, as lists of elements that are read with 0 past their end. In this order:
--   at x i, row xs i    the element i of a vector, the vector i of a list
--   table n f           f 0, .., f (n - 1)
--   delta i j           1 for i = j, else 0
--   units h             the h unit vectors
--   plus x y            the sum, place by place
--   Small h x           x 0, .., x (h - 1) are elements of the field
--   AllSmall h b        so are h elements of each of the h vectors b 0, .., b (h - 1)
--   scale t x           the multiple by t, place by place
--   mix cs bs           the sum of the packets bs, each with its coefficient out of cs
--   mixed n cs bs       the same as a packet of n elements, also where there is nothing to add
--   dot h x y           the product of two vectors of h elements
--   Mixes               what these are place by place, and how long
use Rattle.std.specs.Prelude.{◌≡◌, ℕ, zero, suc, ◌<◌, cond, List, [], ◌∷◌, length, ◌==◌, bit_xor, slice_index, slice_index_or}
use Rattle.gf.specs.Field.{Field}
use Rattle.gf.specs.Sum.{sum}

abbrev pub at : List ℕ → ℕ → ℕ
at x i = slice_index x i

abbrev pub row : List (List ℕ) → ℕ → List ℕ
row xs i = slice_index_or xs i []

unfoldable pub table : {A : Type 0} → ℕ → (ℕ → A) → List A
table zero f = []
table (suc n) f = f 0 ∷ table n (λ i. f (suc i))

abbrev pub delta : ℕ → ℕ → ℕ
delta i j = cond (i == j) 1 0

-- what each packet of a message is in terms of the message
abbrev pub units : ℕ → List (List ℕ)
units h = table h (λ k. table h (λ i. delta k i))

unfoldable pub plus : List ℕ → List ℕ → List ℕ
plus [] ys = ys
plus (x ∷ xs) [] = x ∷ xs
plus (x ∷ xs) (y ∷ ys) = bit_xor x y ∷ plus xs ys

module _ (F : Field) where
  open F use {size, times}

  abbrev pub Small : ℕ → (ℕ → ℕ) → Type 0
  Small h x = (k : ℕ) → k < h → x k < size

  abbrev pub AllSmall : ℕ → (ℕ → List ℕ) → Type 0
  AllSmall h b = (i : ℕ) → i < h → Small h (at (b i))

  unfoldable pub scale : ℕ → List ℕ → List ℕ
  scale t [] = []
  scale t (x ∷ xs) = times t x ∷ scale t xs

  unfoldable pub mix : List ℕ → List (List ℕ) → List ℕ
  mix [] bs = []
  mix (c ∷ cs) [] = []
  mix (c ∷ cs) (b ∷ bs) = plus (scale c b) (mix cs bs)

  abbrev pub mixed : ℕ → List ℕ → List (List ℕ) → List ℕ
  mixed n cs bs = table n (λ i. at (mix cs bs) i)

  abbrev pub dot : ℕ → List ℕ → List ℕ → ℕ
  dot h x y = sum h (λ k. times (at x k) (at y k))

  -- What stands at a place never depends on how long the lists are: what is missing counts as 0.
  pub record Mixes : Type 0 where
    pub at-plus : (x y : List ℕ) (i : ℕ) → at (plus x y) i ≡ bit_xor (at x i) (at y i)
    pub at-scale : (t : ℕ) (x : List ℕ) (i : ℕ) → at (scale t x) i ≡ times t (at x i)
    pub at-mix : (cs : List ℕ) (bs : List (List ℕ)) (i : ℕ) → at (mix cs bs) i ≡ sum (length bs) (λ j. times (at cs j) (at (row bs j) i))
    pub at-mixed : (n : ℕ) (cs : List ℕ) (bs : List (List ℕ)) (i : ℕ) → i < n → at (mixed n cs bs) i ≡ at (mix cs bs) i
    -- a mix is of elements of the field, whatever it is a mix of
    pub mix-small : (cs : List ℕ) (bs : List (List ℕ)) (i : ℕ) → at (mix cs bs) i < size
    pub mixed-small : (n : ℕ) (cs : List ℕ) (bs : List (List ℕ)) (i : ℕ) → at (mixed n cs bs) i < size
    -- the mix of nothing is 0
    pub mixed-none : (n : ℕ) (cs : List ℕ) → mixed n cs [] ≡ table n (λ i. 0)
    pub none-mixed : (n : ℕ) (bs : List (List ℕ)) → mixed n [] bs ≡ table n (λ i. 0)
    -- coefficients that are added, or multiplied, give the sum or the multiple of the mixes
    pub mix-plus : (cs ds : List ℕ) (bs : List (List ℕ)) (i : ℕ) → at (mix (plus cs ds) bs) i ≡ bit_xor (at (mix cs bs) i) (at (mix ds bs) i)
    pub mix-scale : (t : ℕ) (cs : List ℕ) (bs : List (List ℕ)) (i : ℕ) → at (mix (scale t cs) bs) i ≡ times t (at (mix cs bs) i)
    -- how long they are
    pub length-plus : (x y : List ℕ) → length x ≡ length y → length (plus x y) ≡ length y
    pub length-scale : (t : ℕ) (x : List ℕ) → length (scale t x) ≡ length x
    pub length-mixed : (n : ℕ) (cs : List ℕ) (bs : List (List ℕ)) → length (mixed n cs bs) ≡ n
