-- Each receiver whose trial set alone would serve it is served in the end: if the coefficients serve it already they stay, else some t
-- serves it and all before it, since each of those forbids at most one t, and there are fewer receivers than field elements.
use Rattle.std.proofs.Common.{◌≡◌, ℕ, suc, ◌+◌, ◌-◌, ◌<◌, true, List, [], ◌∷◌, length, sym, ◌∙◌, arith}
use Rattle.std.proofs.lemmas.Bool.{cond_both, and_parts, and_from}
use Rattle.gf.specs.Field.{Field}
use Rattle.linear.specs.Vectors.{plus, scale, mix, dot}
use Rattle.linear.specs.Lowest.{lowest}
use Rattle.linear.specs.Dual.{serves}
use Rattle.linear.specs.Choice.{serves_all}
use Rattle.linear.proofs.Dual.{of-serves}
use Rattle.linear.proofs.Choice.{t-found}
use Rattle.coding_theory.specs.Coding.{next, choose, Want}
use Rattle.std.specs.List.{All}
use Rattle.std.proofs.lemmas.List.Elements.{All-nil, All-cons, All-head, All-tail}

module _ (F : Field) where
  open F use {size, times, laws}
  open laws use {more, times_below, sum_below, comm, assoc, over-sum, one, undo}

  -- what a receiver wants can be had: its trial set alone would serve it
  abbrev pub Wanted : ℕ → List (List ℕ) → Want → Type 0
  Wanted h hands w = dot F h w.test (mix F w.trial hands) ≡ 1

  module _ (h : ℕ) (hands : List (List ℕ)) where
    next-serves : (done : List (List ℕ)) (cs : List ℕ) (w : Want) → serves_all F h (mix F cs hands) done ≡ true → Wanted h hands w
        → suc (length done) < size → serves_all F h (mix F (next F h hands done cs w) hands) (w.test ∷ done) ≡ true
    unfolding next serves_all
    next-serves done cs w t u room =
        cond_both (serves F h (mix F cs hands) w.test) cs
        (plus cs (scale F (lowest (λ t. serves_all F h (mix F (plus cs (scale F t w.trial)) hands) (w.test ∷ done)) (size - 1) 1) w.trial))
        (λ x. serves_all F h (mix F x hands) (w.test ∷ done) ≡ true)
        (λ e. and_from _ _ e t)
        (λ e.
        (t-found F h hands done cs w.trial w.test t e (of-serves F h _ w.test (λ z. let n : ◌≡◌ {A = ℕ} 1 0 = sym u ∙ z in omega arith)) (omega arith)).holds)

    pub choose-serves : (ws : List Want) (done : List (List ℕ)) (cs : List ℕ) → serves_all F h (mix F cs hands) done ≡ true → All (Wanted h hands) ws
        → length done + length ws < size
        → (serves_all F h (mix F (choose F h hands done cs ws) hands) done ≡ true)
        × All (λ w. serves F h (mix F (choose F h hands done cs ws) hands) w.test ≡ true) ws
    unfolding choose serves_all
    choose-serves [] done cs t a room = (t, All-nil (λ w. serves F h (mix F cs hands) w.test ≡ true))
    choose-serves (w ∷ ws) done cs t a room =
        let u : Wanted h hands w = All-head (Wanted h hands) w ws a in
        let r = choose-serves ws (w.test ∷ done) (next F h hands done cs w) (next-serves done cs w t u (omega arith)) (All-tail (Wanted h hands) w ws a) (omega arith) in
        let p = and_parts _ _ r.0 in
        (p.1, All-cons (λ x. serves F h (mix F (choose F h hands (w.test ∷ done) (next F h hands done cs w) ws) hands) x.test ≡ true) w ws p.0 r.1)
