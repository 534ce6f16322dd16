-- What a mix of packets is in terms of the message. In this order:
--   Both R xs ys        two lists of the same length whose elements are related, place by place
--   Message n h m       m is a message of h packets of n elements
--   IsMix n h m b v     the first n elements of packet b are those of the mix of the message m by the coding vector v
--   Unmixed             the packets of a message are its mixes by the unit vectors
--   Transport           a mix of packets is the mix of the message by the mix of their coding vectors
use Rattle.std.specs.Prelude.{◌≡◌, ℕ, ◌<◌, List, [], ◌∷◌, length}
use Rattle.gf.specs.Field.{Field}
use Rattle.gf.specs.Sum.{sum}
use Rattle.linear.specs.Vectors.{at, row, units, mix, mixed}

pub data Both {A B : Type 0} (R : A → B → Type 0) : List A → List B → Type 0 where
  none : Both R [] []
  and : {x : A} {y : B} {xs : List A} {ys : List B} → R x y → Both R xs ys → Both R (x ∷ xs) (y ∷ ys)

module _ (F : Field) where
  open F use {size, times}

  pub record Message (n h : ℕ) (m : List (List ℕ)) : Type 0 where
    pub many : length m ≡ h
    pub long : (k : ℕ) → k < h → length (row m k) ≡ n
    pub small : (k i : ℕ) → k < h → i < n → at (row m k) i < size

  abbrev pub IsMix : ℕ → ℕ → List (List ℕ) → List ℕ → List ℕ → Type 0
  IsMix n h m b v = (i : ℕ) → i < n → at b i ≡ sum h (λ k. times (at v k) (at (row m k) i))

  abbrev pub Unmixed : Type 0
  Unmixed = (n h : ℕ) (m : List (List ℕ)) → Message n h m → Both (IsMix n h m) m (units h)

  -- as it stands, and cut to packets of n and vectors of h elements
  abbrev pub Transport : Type 0
  Transport =
      (n h : ℕ) (m bs vs : List (List ℕ)) → Both (IsMix n h m) bs vs → (cs : List ℕ)
      → IsMix n h m (mix F cs bs) (mix F cs vs) × IsMix n h m (mixed F n cs bs) (mixed F h cs vs)
