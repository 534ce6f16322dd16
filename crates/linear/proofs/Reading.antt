-- Rows by which a message is read.
-- Row k of the transposed dual rows makes, out of the packets, the mix of the message by (row k)·(vectors), a unit vector: packet k.
-- Other rows don't: from the message whose mix by vector j is 1, and by every other vector 0, a row reads its own element j. Rows that
-- read the message there have the message's elements, which are those of the dual rows.
use Rattle.std.proofs.Common.{◌≡◌, ℕ, ◌<◌, List, [], length, sym, ap, ◌∙◌, arith, ext_get_or}
use lib.ListN.{length-map}
use Rattle.gf.specs.Field.{Field}
use Rattle.linear.specs.Vectors.{at, row, table, delta, mix, mixed}
use Rattle.linear.specs.Dual.{Inverse}
use Rattle.linear.specs.Transport.{Message}
use Rattle.linear.specs.Reading.{transpose, read_by, Square, Delivers, Reads, MixesDelivered, RowsRead, OnlyRows, IndependentRead}
use Rattle.linear.proofs.Sums.{by, by-comm, by_left, by_right, by-unit, unit-by, by-by}
use Rattle.linear.proofs.Exchange.{rows-exist}
use Rattle.linear.proofs.Lists.{get_d-table, length-table, get_d_map, at-mix, at-mix-table, at-mixed}

-- ---- a table of tables
module _ (h n : ℕ) (f : ℕ → ℕ → ℕ) where
  pub row-grid : (k : ℕ) → k < h → row (table h (λ k. table n (f k))) k ≡ table n (f k)
  row-grid k lk = get_d-table h k (λ k. table n (f k)) [] lk

  pub at-grid : (k j : ℕ) → k < h → j < n → at (row (table h (λ k. table n (f k))) k) j ≡ f k j
  at-grid k j lk lj = ap (λ q. at q j) (row-grid k lk) ∙ get_d-table n j (f k) 0 lj

  pub length-grid : (k : ℕ) → k < h → length (row (table h (λ k. table n (f k))) k) ≡ n
  length-grid k lk = ap length (row-grid k lk) ∙ length-table n (f k)

module _ (F : Field) (n h : ℕ) (d b : ℕ → List ℕ) (p : List (List ℕ) → ℕ → List ℕ) (inv : Inverse F h d b) (delivers : Delivers F n h b p) where
  -- what a row reads, element by element
  seen : (m : List (List ℕ)) → Message F n h m → (q : List ℕ) (i : ℕ) → i < n
      → at (mixed F n q (table h (p m))) i ≡ by F h (at q) (λ j. by F h (at (b j)) (λ k. at (row m k) i))
  seen m msg q i li =
      at-mixed F n q (table h (p m)) i li
      ∙ at-mix-table F q h (p m) i
      ∙ by_right F h (at q) _ _ (λ j lj. delivers m msg j lj i li)

  transposed : (k j : ℕ) → k < h → j < h → at (row (transpose h d) k) j ≡ at (d j) k
  transposed = at-grid h h (λ k j. at (d j) k)

  square : Square F h (transpose h d)
  square = record {
    many = length-table h _;
    long = length-grid h h (λ k j. at (d j) k);
    small = λ k j lk lj. rw (transposed k j lk lj) (inv.small j k lj lk);
  }

  reads : Reads F n h p (transpose h d)
  reads m msg =
      ext_get_or [] (read_by F n (transpose h d) (table h (p m))) m (length-map (transpose h d) _ ∙ length-table h _ ∙ sym msg.many)
      (λ k lk. let lk' : k < h = omega (arith, length-map (transpose h d) (λ q. mixed F n q (table h (p m))), square.many) in
      get_d_map (λ q. mixed F n q (table h (p m))) (transpose h d) k [] [] (omega (arith, square.many)) ∙ packet k lk')
    where
      packet : (k : ℕ) → k < h → mixed F n (row (transpose h d) k) (table h (p m)) ≡ row m k
      packet k lk =
          ext_get_or 0 (mixed F n (row (transpose h d) k) (table h (p m))) (row m k) (length-table n _ ∙ sym (msg.long k lk))
          (λ i li. let li' : i < n = omega (arith, length-table n (λ i. at (mix F (row (transpose h d) k) (table h (p m))) i)) in
          seen m msg (row (transpose h d) k) i li'
          ∙ by_left F h (at (row (transpose h d) k)) (λ j. at (d j) k) _ (λ j lj. transposed k j lk lj)
          ∙ by-by F h h (λ j. at (d j) k) (λ j. at (b j)) (λ k. at (row m k) i)
          ∙ by_left F h _ (delta k) (λ k. at (row m k) i) (λ l ll. inv.other k l lk ll)
          ∙ unit-by F h k (λ k. at (row m k) i) lk (msg.small k i lk li'))

  -- the message whose mix by the vector j is all 1, and by each other vector all 0
  probe : ℕ → List (List ℕ)
  probe j = table h (λ k. table n (λ i. at (d j) k))

  probe-at : (j k i : ℕ) → k < h → i < n → at (row (probe j) k) i ≡ at (d j) k
  unfolding probe
  probe-at j = at-grid h n (λ k i. at (d j) k)

  probe-message : (j : ℕ) → j < h → Message F n h (probe j)
  unfolding probe
  probe-message j lj = record {
    many = length-table h _;
    long = length-grid h n (λ k i. at (d j) k);
    small = λ k i lk li. rw (probe-at j k i lk li) (inv.small j k lj lk);
  }

  only : 0 < n → (qs : List (List ℕ)) → Square F h qs → Reads F n h p qs → qs ≡ transpose h d
  only pos qs sq rd =
      ext_get_or [] qs (transpose h d) (sq.many ∙ sym square.many)
      (λ k lk. let lk' : k < h = omega (arith, sq.many) in
      ext_get_or 0 (row qs k) (row (transpose h d) k) (sq.long k lk' ∙ sym (square.long k lk'))
      (λ j lj. let lj' : j < h = omega (arith, sq.long k lk') in
      sym (by-unit F h j (at (row qs k)) lj' (sq.small k j lk' lj'))
      ∙ sym
      (by_right F h (at (row qs k)) (λ i. by F h (at (b i)) (λ k. at (row (probe j) k) 0)) (delta j)
      (λ i li.
      by_right F h (at (b i)) (λ k. at (row (probe j) k) 0) (at (d j)) (λ k lk. probe-at j k 0 lk pos)
      ∙ by-comm F h (at (b i)) (at (d j))
      ∙ inv.one j i lj' li))
      ∙ sym (seen (probe j) (probe-message j lj') (row qs k) 0 pos)
      ∙ ap (λ q. at q 0) (sym (get_d_map (λ q. mixed F n q (table h (p (probe j)))) qs k [] [] lk))
      ∙ ap (λ q. at (row q k) 0) (rd (probe j) (probe-message j lj'))
      ∙ probe-at j k 0 lk' pos
      ∙ sym (transposed k j lk' lj')))

module _ (F : Field) where
  pub mixes-delivered : MixesDelivered F
  mixes-delivered n h b m msg j lj i li =
      at-mixed F n (b j) m i li ∙ at-mix F (b j) m i ∙ ap (λ l. by F l (at (b j)) (λ k. at (row m k) i)) msg.many

  pub rows-read : RowsRead F
  rows-read n h d b p inv delivers = (square F n h d b p inv delivers, reads F n h d b p inv delivers)

  pub only-rows : OnlyRows F
  only-rows n h d b p pos inv delivers = only F n h d b p inv delivers pos

  pub independent-read : IndependentRead F
  independent-read n h b p pos small independent delivers =
      let e = rows-exist F h b small independent in
      record {
        rows = transpose h (row e.rows);
        square = square F n h (row e.rows) b p e.dual delivers;
        reads = reads F n h (row e.rows) b p e.dual delivers;
        only = only F n h (row e.rows) b p e.dual delivers pos;
      }
