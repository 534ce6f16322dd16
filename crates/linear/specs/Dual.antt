-- Dual rows: the rows of the inverse of a matrix of vectors. In this order:
--   put b j v           the vectors b with v in place of vector j
--   inverse a           the lowest element by which a gives 1
--   serves h v test     the row `test` times the vector v isn't 0
--   Inverse h d b       the rows d and the vectors b undo each other, on either side
--   renew h j v d       the rows when v takes the place j: one element is inverted, and no matrix
--   UnitsDual           unit vectors are their own dual rows
--   InverseIndependent  vectors with dual rows are independent
--   HasRows h b         rows that are dual to the vectors b
--   RowsExist           independent vectors have them
--   Decided h j v d b   whether v serves row j decides whether the vectors are independent with v in place of vector j
--   TestDecides         this holds of all vectors with dual rows
--   RenewKeeps          where v serves row j, the renewed rows are dual rows of the new vectors
use Rattle.std.specs.Prelude.{◌≡◌, ℕ, ◌<◌, Bool, true, false, cond, not, List, ◌==◌, nat_eq}
use Rattle.gf.specs.Field.{Field}
use Rattle.gf.specs.Sum.{sum}
use Rattle.linear.specs.Vectors.{at, row, table, delta, units, plus, scale, Small, AllSmall, dot}
use Rattle.linear.specs.Independence.{Independent}
use Rattle.linear.specs.Lowest.{lowest}

abbrev pub put : (ℕ → List ℕ) → ℕ → List ℕ → ℕ → List ℕ
put b j v i = cond (i == j) v (b i)

module _ (F : Field) where
  open F use {size, times}

  abbrev pub inverse : ℕ → ℕ
  inverse a = lowest (λ u. nat_eq (times a u) 1) size 0

  abbrev pub serves : ℕ → List ℕ → List ℕ → Bool
  serves h v test = not (dot F h test v == 0)

  pub record Inverse (h : ℕ) (d b : ℕ → List ℕ) : Type 0 where
    pub small : (i k : ℕ) → i < h → k < h → at (d i) k < size
    pub one : (i j : ℕ) → i < h → j < h → dot F h (d i) (b j) ≡ delta i j
    pub other : (k l : ℕ) → k < h → l < h → sum h (λ i. times (at (d i) k) (at (b i) l)) ≡ delta k l

  unfoldable pub renew : ℕ → ℕ → List ℕ → List (List ℕ) → List (List ℕ)
  renew h j v d =
      let new : List ℕ = scale F (inverse (dot F h (row d j) v)) (row d j) in
      table h (λ i. cond (i == j) new (plus (row d i) (scale F (dot F h (row d i) v) new)))

  abbrev pub UnitsDual : Type 0
  UnitsDual = (h : ℕ) → Inverse h (row (units h)) (row (units h))

  abbrev pub InverseIndependent : Type 0
  InverseIndependent = (h : ℕ) (d b : ℕ → List ℕ) → Inverse h d b → Independent F h b

  pub record HasRows (h : ℕ) (b : ℕ → List ℕ) : Type 0 where
    pub rows : List (List ℕ)
    pub dual : Inverse h (row rows) b

  abbrev pub RowsExist : Type 0
  RowsExist = (h : ℕ) (b : ℕ → List ℕ) → AllSmall F h b → Independent F h b → HasRows h b

  pub record Decided (h j : ℕ) (v : List ℕ) (d b : ℕ → List ℕ) : Type 0 where
    pub yes : serves h v (d j) ≡ true → Independent F h (put b j v)
    pub no : serves h v (d j) ≡ false → Independent F h (put b j v) → ⊥

  abbrev pub TestDecides : Type 0
  TestDecides =
      (h j : ℕ) (v : List ℕ) (d b : ℕ → List ℕ) → j < h → Small F h (at v) → Inverse h d b → Decided h j v d b

  abbrev pub RenewKeeps : Type 0
  RenewKeeps =
      (h j : ℕ) (v : List ℕ) (d : List (List ℕ)) (b : ℕ → List ℕ) → j < h → Small F h (at v) → Inverse h (row d) b
      → serves h v (row d j) ≡ true → Inverse h (row (renew h j v d)) (put b j v)
