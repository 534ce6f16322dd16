-- The order of walks is strict: none is ahead of itself, and what is ahead of what is ahead is ahead. So only one walk is the first.
use Rattle.std.proofs.Common.{◌≡◌, ℕ, suc, Bool, ◌⊎◌, List, [], ◌∷◌, sym, ap, ◌∙◌, subst, inl, inr, arith}
use Rattle.std.proofs.lemmas.Bool.{both_ways}
use Rattle.flow_theory.specs.Flow.{is_used}
use Rattle.flow_theory.specs.Order.{Sooner, Before, Ahead}
use Rattle.flow_theory.specs.Promise.{OnlyOne}

module _ (us : List Bool) where
  sooner-trans : (i j k : ℕ) → Sooner us i j → Sooner us j k → Sooner us i k
  sooner-trans i j k (inl a) (inl b) = absurd (both_ways (is_used us j) b.0 a.1)
  sooner-trans i j k (inl a) (inr b) = inl (a.0, sym b.0 ∙ a.1)
  sooner-trans i j k (inr a) (inl b) = inl (a.0 ∙ b.0, b.1)
  sooner-trans i j k (inr a) (inr b) = inr (a.0 ∙ b.0, omega arith)

  not-sooner : (k : ℕ) → Sooner us k k → ⊥
  not-sooner k (inl a) = both_ways (is_used us k) a.0 a.1
  not-sooner k (inr a) = omega arith

  before-trans : (is js ks : List ℕ) → Before us is js → Before us js ks → Before us is ks
  before-trans [] js ks a b = elim a [ ]
  before-trans (i ∷ is) [] ks a b = elim a [ ]
  before-trans (i ∷ is) (j ∷ js) [] a b = elim b [ ]
  before-trans (i ∷ is) (j ∷ js) (k ∷ ks) (inl a) (inl b) = inl (before-trans is js ks a b)
  before-trans (i ∷ is) (j ∷ js) (k ∷ ks) (inl a) (inr b) = inl (subst (Before us is) b.0 a)
  before-trans (i ∷ is) (j ∷ js) (k ∷ ks) (inr a) (inl b) = inl (subst (λ x. Before us x ks) (sym a.0) b)
  before-trans (i ∷ is) (j ∷ js) (k ∷ ks) (inr a) (inr b) = inr (a.0 ∙ b.0, sooner-trans i j k a.1 b.1)

  not-before : (ks : List ℕ) → Before us ks ks → ⊥
  not-before [] b = b
  not-before (k ∷ ks) (inl b) = not-before ks b
  not-before (k ∷ ks) (inr b) = not-sooner k b.1

  pub ahead-trans : (is js ks : List ℕ) → Ahead us is js → Ahead us js ks → Ahead us is ks
  ahead-trans is js ks (inl a) (inl b) = inl (omega arith)
  ahead-trans is js ks (inl a) (inr b) = inl (omega arith)
  ahead-trans is js ks (inr a) (inl b) = inl (omega arith)
  ahead-trans is js ks (inr a) (inr b) = inr (a.0 ∙ b.0, before-trans is js ks a.1 b.1)

  not-ahead : (ks : List ℕ) → Ahead us ks ks → ⊥
  not-ahead ks (inl a) = omega arith
  not-ahead ks (inr a) = not-before ks a.1

  -- with one more step, the same on both sides
  pub ahead-cons : (k : ℕ) (is js : List ℕ) → Ahead us is js → Ahead us (k ∷ is) (k ∷ js)
  ahead-cons k is js (inl a) = inl (omega arith)
  ahead-cons k is js (inr a) = inr (ap suc a.0, inl a.1)

  abbrev pub NotAfter : (is js : List ℕ) → Type 0
  NotAfter is js = (is ≡ js) ⊎ Ahead us is js

  pub not-after-trans : (is js ks : List ℕ) → NotAfter is js → NotAfter js ks → NotAfter is ks
  not-after-trans is js ks (inl a) b = subst (λ x. NotAfter x ks) (sym a) b
  not-after-trans is js ks (inr a) (inl b) = inr (subst (Ahead us is) b a)
  not-after-trans is js ks (inr a) (inr b) = inr (ahead-trans is js ks a b)

  pub not-after-cons : (k : ℕ) (is js : List ℕ) → NotAfter is js → NotAfter (k ∷ is) (k ∷ js)
  not-after-cons k is js (inl a) = inl (ap (λ x. k ∷ x) a)
  not-after-cons k is js (inr a) = inr (ahead-cons k is js a)

pub only_one : OnlyOne
only_one ls us q js ks a b = go (a.least ks b.walk) (b.least js a.walk)
  where
    go : NotAfter us js ks → NotAfter us ks js → js ≡ ks
    go (inl e) g = e
    go (inr f) (inl e) = sym e
    go (inr f) (inr g) = absurd (not-ahead us js (ahead-trans us js ks js f g))
