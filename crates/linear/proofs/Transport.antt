-- What a mix of packets is in terms of the message: a sum of sums, exchanged.
-- Element i of the mix is the sum of coefficients with element i of each packet, and this is the sum of its vector with the message.
-- In the other order it is the sum of the message with what the mix of the vectors has at each place.
use Rattle.std.proofs.Common.{◌≡◌, ℕ, zero, suc, ◌<◌, List, [], ◌∷◌, length, get_or, sym, refl, ap, ◌∙◌, arith}
use Rattle.gf.specs.Field.{Field}
use Rattle.linear.specs.Vectors.{at, row, table, delta, mix, mixed}
use Rattle.linear.specs.Transport.{Both, none, and, IsMix, Unmixed, Transport}
use Rattle.linear.proofs.Sums.{by, by_left, by_right, unit-by, by-by}
use Rattle.linear.proofs.Lists.{get_d-table, at-mix, at-mixed}

module _ {A B : Type 0} (R : A → B → Type 0) where
  pub both-length : (xs : List A) (ys : List B) → Both R xs ys → length xs ≡ length ys
  both-length [] [] none = refl
  both-length [] (y ∷ ys) s = elim s [ ]
  both-length (x ∷ xs) [] s = elim s [ ]
  both-length (x ∷ xs) (y ∷ ys) (and r s) = ap suc (both-length xs ys s)

  pub both_at : (xs : List A) (ys : List B) (a : A) (b : B) → Both R xs ys → (k : ℕ) → k < length xs → R (get_or xs k a) (get_or ys k b)
  both_at [] [] a b none k l = absurd (omega arith)
  both_at [] (y ∷ ys) a b s k l = elim s [ ]
  both_at (x ∷ xs) [] a b s k l = elim s [ ]
  both_at (x ∷ xs) (y ∷ ys) a b (and r s) zero l = r
  both_at (x ∷ xs) (y ∷ ys) a b (and r s) (suc k) l = both_at xs ys a b s k (omega arith)

  pub both-table : (n : ℕ) (xs : List A) (a : A) (f : ℕ → B) → length xs ≡ n → ((k : ℕ) → k < n → R (get_or xs k a) (f k)) → Both R xs (table n f)
  unfolding table
  both-table zero [] a f l r = none
  both-table zero (x ∷ xs) a f l r = absurd (omega arith)
  both-table (suc n) [] a f l r = absurd (omega arith)
  both-table (suc n) (x ∷ xs) a f l r =
      and (r 0 (omega arith)) (both-table n xs a (λ i. f (suc i)) (omega arith) (λ k lk. r (suc k) (omega arith)))

module _ (F : Field) where
  pub unmixed : Unmixed F
  unmixed n h m msg =
      both-table (IsMix F n h m) h m [] (λ k. table h (delta k)) msg.many
      (λ k lk i li.
      sym
      (by_left F h (at (table h (delta k))) (delta k) (λ j. at (row m j) i) (λ j lj. get_d-table h j (delta k) 0 lj)
      ∙ unit-by F h k (λ j. at (row m j) i) lk (msg.small k i lk li)))

  pub transport : Transport F
  transport n h m bs vs s cs = (
    is-mix,
    λ i li.
        at-mixed F n cs bs i li ∙ is-mix i li
        ∙ by_left F h (at (mix F cs vs)) (at (mixed F h cs vs)) (λ k. at (row m k) i) (λ k lk. sym (at-mixed F h cs vs k lk)),
  )
    where
      is-mix : IsMix F n h m (mix F cs bs) (mix F cs vs)
      is-mix i li =
          at-mix F cs bs i
          ∙ by_right F (length bs) (at cs) (λ j. at (row bs j) i) (λ j. by F h (at (row vs j)) (λ k. at (row m k) i)) (λ j lj. both_at (IsMix F n h m) bs vs [] [] s j lj i li)
          ∙ by-by F h (length bs) (at cs) (λ j. at (row vs j)) (λ k. at (row m k) i)
          ∙ by_left F h _ (at (mix F cs vs)) (λ k. at (row m k) i)
          (λ l ll. ap (λ n. by F n (at cs) (λ j. at (row vs j) l)) (both-length (IsMix F n h m) bs vs s) ∙ sym (at-mix F cs vs l))
