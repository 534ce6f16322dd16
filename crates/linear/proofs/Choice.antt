-- A coefficient t that serves all.
-- A row's product with the vector is y + t·x, where y is that without and x that of the trial coefficients. Where y isn't 0, this is 0
-- for at most one t, since a factor other than 0 can be taken off; where y is 0 and x isn't, only for t = 0. So fewer than size - 1
-- rows leave one of the size - 1 other t, and the search from 1 on finds the lowest.
use Rattle.std.proofs.Common.{◌≡◌, ℕ, zero, suc, ◌<◌, true, false, not, List, [], ◌∷◌, length, sym, refl, ap, ◌∙◌, arith}
use lib.Bits.{bit_xor}
use Rattle.std.proofs.lemmas.Bool.{not-true, not-false, and_parts, and_from}
use Rattle.gf.specs.Field.{Field}
use Rattle.gf.proofs.Xor.{xor-zero-eq}
use Rattle.linear.specs.Vectors.{at, row, scale, mix, dot}
use Rattle.linear.specs.Dual.{serves}
use Rattle.linear.specs.Choice.{added, serves_all, ForbidsAtMostOne, ForbidsNone, TFound}
use Rattle.linear.proofs.Sums.{zero-below, times_none, none-times, cancel, by-small, by_right, by-plus', by-scale'}
use Rattle.linear.proofs.Lists.{mix-plus, mix-scale}
use Rattle.linear.proofs.Dual.{serves-of, of-serves, unserved-of}
use Rattle.linear.proofs.Lowest.{lowest-found}
use Rattle.linear.proofs.Pigeonhole.{some_left}

module _ (F : Field) where
  open F use {size, times}

  pub all-at : (h : ℕ) (v : List ℕ) (rs : List (List ℕ)) → serves_all F h v rs ≡ true → (k : ℕ) → k < length rs → serves F h v (row rs k) ≡ true
  unfolding serves_all
  all-at h v [] t k lk = absurd (omega arith)
  all-at h v (r ∷ rs) t zero lk = (and_parts (serves F h v r) (serves_all F h v rs) t).0
  all-at h v (r ∷ rs) t (suc k) lk = all-at h v rs (and_parts (serves F h v r) (serves_all F h v rs) t).1 k (omega arith)

  pub all_of : (h : ℕ) (v : List ℕ) (rs : List (List ℕ)) → ((k : ℕ) → k < length rs → serves F h v (row rs k) ≡ true) → serves_all F h v rs ≡ true
  unfolding serves_all
  all_of h v [] t = refl
  all_of h v (r ∷ rs) t = and_from _ _ (t 0 (omega arith)) (all_of h v rs (λ k lk. t (suc k) (omega arith)))

  module _ (h : ℕ) (hands : List (List ℕ)) (cs ds : List ℕ) where
    pub dot-added : (r : List ℕ) (t : ℕ) → dot F h r (added F hands cs ds t) ≡ bit_xor (dot F h r (mix F cs hands)) (times t (dot F h r (mix F ds hands)))
    dot-added r t =
        by_right F h (at r) (at (added F hands cs ds t)) (λ l. bit_xor (at (mix F cs hands) l) (times t (at (mix F ds hands) l)))
        (λ l _. mix-plus F cs (scale F t ds) hands l ∙ ap (bit_xor (at (mix F cs hands) l)) (mix-scale F t ds hands l))
        ∙ by-plus' F h (at r) (at (mix F cs hands)) (λ l. times t (at (mix F ds hands) l))
        ∙ ap (bit_xor (dot F h r (mix F cs hands))) (by-scale' F h t (at r) (at (mix F ds hands)))

    -- a t that is forbidden makes y + t·x 0
    forbidden : (r : List ℕ) (t : ℕ) → serves F h (added F hands cs ds t) r ≡ false → dot F h r (mix F cs hands) ≡ times t (dot F h r (mix F ds hands))
    forbidden r t f = xor-zero-eq _ _ (sym (dot-added r t) ∙ unserved-of F h (added F hands cs ds t) r f)

  pub forbids-at-most-one : ForbidsAtMostOne F
  forbids-at-most-one h hands cs ds r served s t ls lt fs ft =
      cancel F s t (dot F h r (mix F ds hands)) ls lt (by-small F h (at r) (at (mix F ds hands)))
      (λ z. serves-of F h (mix F cs hands) r served (forbidden h hands cs ds r s fs ∙ ap (times s) z ∙ times_none F s))
      (sym (forbidden h hands cs ds r s fs) ∙ forbidden h hands cs ds r t ft)

  pub forbids-none : ForbidsNone F
  forbids-none h hands cs ds r unserved trial t pos lt =
      of-serves F h (added F hands cs ds t) r
      (λ z.
      let e : t ≡ 0 =
      cancel F t 0 (dot F h r (mix F ds hands)) lt (zero-below F) (by-small F h (at r) (at (mix F ds hands))) (serves-of F h (mix F ds hands) r trial)
      (ap (λ y. bit_xor y (times t (dot F h r (mix F ds hands)))) (sym (unserved-of F h (mix F cs hands) r unserved)) ∙ sym (dot-added h hands cs ds r t) ∙ z
      ∙ sym (none-times F (dot F h r (mix F ds hands)))) in
      omega arith)

  pub t-found : TFound F
  unfolding serves_all
  t-found h hands done cs ds r served unserved trial room =
      let q = some_left size (length done) (λ k t. not (serves F h (added F hands cs ds t) (row done k))) room
      (λ k s t lk _ ls _ lt fs ft.
      forbids-at-most-one h hands cs ds (row done k) (all-at h (mix F cs hands) done served k lk) s t ls lt (not-true _ fs) (not-true _ ft)) in
      lowest-found (λ t. serves_all F h (added F hands cs ds t) (r ∷ done)) size q.value q.some q.below
      (and_from _ _ (forbids-none h hands cs ds r unserved trial q.value q.some q.below)
      (all_of h (added F hands cs ds q.value) done (λ k lk. not-false _ (q.allowed k lk))))
