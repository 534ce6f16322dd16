-- Rows by which a message is read from packets. In this order:
--   read_by n qs bs     what the rows qs make of packets
--   transpose h d       rows and columns exchanged
--   Square h qs         h rows of h elements
--   Delivers n h b p    whatever the message m, packet j of p m is its mix by the coding vector b j
--   Reads n h p qs      by the rows qs every message m is read from p m
--   MixesDelivered      the mixes themselves are such packets
--   RowsRead            the dual rows of the coding vectors, transposed, read every message
--   OnlyRows            no other rows do, if packets have any elements
--   Decoder n h p       rows that read every message, and the only ones that do
--   IndependentRead     where the coding vectors are independent, there is a decoder
use Rattle.std.specs.Prelude.{◌≡◌, ℕ, ◌<◌, List, map, length}
use Rattle.gf.specs.Field.{Field}
use Rattle.linear.specs.Vectors.{at, row, table, AllSmall, mixed}
use Rattle.linear.specs.Independence.{Independent}
use Rattle.linear.specs.Dual.{Inverse}
use Rattle.linear.specs.Transport.{Message, IsMix}

abbrev pub transpose : ℕ → (ℕ → List ℕ) → List (List ℕ)
transpose h d = table h (λ k. table h (λ j. at (d j) k))

module _ (F : Field) where
  open F use {size}

  abbrev pub read_by : ℕ → List (List ℕ) → List (List ℕ) → List (List ℕ)
  read_by n qs bs = map (λ q. mixed F n q bs) qs

  pub record Square (h : ℕ) (qs : List (List ℕ)) : Type 0 where
    pub many : length qs ≡ h
    pub long : (k : ℕ) → k < h → length (row qs k) ≡ h
    pub small : (k j : ℕ) → k < h → j < h → at (row qs k) j < size

  abbrev pub Delivers : ℕ → ℕ → (ℕ → List ℕ) → (List (List ℕ) → ℕ → List ℕ) → Type 0
  Delivers n h b p = (m : List (List ℕ)) → Message F n h m → (j : ℕ) → j < h → IsMix F n h m (p m j) (b j)

  abbrev pub Reads : ℕ → ℕ → (List (List ℕ) → ℕ → List ℕ) → List (List ℕ) → Type 0
  Reads n h p qs = (m : List (List ℕ)) → Message F n h m → read_by n qs (table h (p m)) ≡ m

  abbrev pub MixesDelivered : Type 0
  MixesDelivered = (n h : ℕ) (b : ℕ → List ℕ) → Delivers n h b (λ m j. mixed F n (b j) m)

  abbrev pub RowsRead : Type 0
  RowsRead =
      (n h : ℕ) (d b : ℕ → List ℕ) (p : List (List ℕ) → ℕ → List ℕ) → Inverse F h d b → Delivers n h b p
      → Square h (transpose h d) × Reads n h p (transpose h d)

  abbrev pub OnlyRows : Type 0
  OnlyRows =
      (n h : ℕ) (d b : ℕ → List ℕ) (p : List (List ℕ) → ℕ → List ℕ) → 0 < n → Inverse F h d b → Delivers n h b p
      → (qs : List (List ℕ)) → Square h qs → Reads n h p qs → qs ≡ transpose h d

  pub record Decoder (n h : ℕ) (p : List (List ℕ) → ℕ → List ℕ) : Type 0 where
    pub rows : List (List ℕ)
    pub square : Square h rows
    pub reads : Reads n h p rows
    pub only : (qs : List (List ℕ)) → Square h qs → Reads n h p qs → qs ≡ rows

  abbrev pub IndependentRead : Type 0
  IndependentRead =
      (n h : ℕ) (b : ℕ → List ℕ) (p : List (List ℕ) → ℕ → List ℕ) → 0 < n → AllSmall F h b → Independent F h b → Delivers n h b p
      → Decoder n h p
