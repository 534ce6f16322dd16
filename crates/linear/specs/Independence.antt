-- Independent vectors: none is a mix of the others. In this order:
--   SameWords P Q       P and Q say the same
--   Independent h b     of the h vectors b 0, .., b (h - 1), of h elements each
--   NoneMixed h b       the same said by `mix`
--   MixWords            both say the same
--   OneVector v         one vector is independent where it isn't 0, since the mix of no others is 0
--   OneVectorAlone      this holds of all vectors of one element
--   NoRelation h b      the usual other words: the mix of all is 0 only where all coefficients are
--   UsualWords          both say the same of vectors of elements
use Rattle.std.specs.Prelude.{◌≡◌, ℕ, ◌<◌, List, ◌≢◌}
use Rattle.gf.specs.Field.{Field}
use Rattle.gf.specs.Sum.{sum}
use Rattle.linear.specs.Vectors.{at, table, Small, AllSmall, mix}

pub record SameWords (P Q : Type 0) : Type 0 where
  pub there : P → Q
  pub back : Q → P

module _ (F : Field) where
  open F use {times}

  -- a mix of the others is one in which the vector itself has the coefficient 0
  abbrev pub Independent : ℕ → (ℕ → List ℕ) → Type 0
  Independent h b =
      (j : ℕ) → j < h → (c : ℕ → ℕ) → Small F h c → c j ≡ 0
      → ((l : ℕ) → l < h → sum h (λ i. times (c i) (at (b i) l)) ≡ at (b j) l) → ⊥

  abbrev pub NoneMixed : ℕ → (ℕ → List ℕ) → Type 0
  NoneMixed h b =
      (j : ℕ) → j < h → (cs : List ℕ) → Small F h (at cs) → at cs j ≡ 0 → ((l : ℕ) → l < h → at (mix F cs (table h b)) l ≡ at (b j) l) → ⊥

  abbrev pub MixWords : Type 0
  MixWords = (h : ℕ) (b : ℕ → List ℕ) → SameWords (Independent h b) (NoneMixed h b)

  pub record OneVector (v : List ℕ) : Type 0 where
    pub yes : (at v 0 ≢ 0) → Independent 1 (λ i. v)
    pub no : at v 0 ≡ 0 → Independent 1 (λ i. v) → ⊥

  abbrev pub OneVectorAlone : Type 0
  OneVectorAlone = (v : List ℕ) → OneVector v

  abbrev pub NoRelation : ℕ → (ℕ → List ℕ) → Type 0
  NoRelation h b =
      (c : ℕ → ℕ) → Small F h c → ((l : ℕ) → l < h → sum h (λ i. times (c i) (at (b i) l)) ≡ 0) → (j : ℕ) → j < h → c j ≡ 0

  abbrev pub UsualWords : Type 0
  UsualWords = (h : ℕ) (b : ℕ → List ℕ) → AllSmall F h b → SameWords (Independent h b) (NoRelation h b)
