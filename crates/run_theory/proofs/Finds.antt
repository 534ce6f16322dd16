-- What is found among packets under way when one is picked from them, and what came into a node when all has come.
use Rattle.std.proofs.Common.{◌≡◌, ℕ, zero, suc, ◌+◌, ◌<◌, ◌≤◌, Bool, true, false, cond, ◌&&◌, eqb, ◌⊎◌, List, [], ◌∷◌, ◌++◌, length, get_or, sym, refl, ap, ◌∙◌, ap₂, inl, inr, arith}
use Rattle.std.proofs.lemmas.Bool.{cases_eq, eq-eqb, ne_eqb}
use Rattle.network.specs.Network.{Link, link_at}
use Rattle.network_cuts.specs.Scheme.{Packet, into}
use Rattle.relay_theory.specs.Relay.{Parcel, added, find, numbers, came_in}
use Rattle.relay_theory.proofs.Finds.{Other, find-same, find-other, hit, miss, hits}
use Rattle.run_theory.specs.Run.{nothing, picked, beyond, pick}

-- what is said of the rest of a list once one is picked from it
pub data Taken (x : Parcel Packet) : List (Parcel Packet) → List (Parcel Packet) → Type 0 where
  first : {xs : List (Parcel Packet)} → Taken x (x ∷ xs) xs
  later : {y : Parcel Packet} {xs ys : List (Parcel Packet)} → Taken x xs ys → Taken x (y ∷ xs) (y ∷ ys)

pub taken-other : {x : Parcel Packet} {xs ys : List (Parcel Packet)} (k r : ℕ) → Taken x xs ys → Other k r x → find xs k r ≡ find ys k r
unfolding find added
taken-other {x} k r (first {xs}) o = find-other k r x xs o
taken-other {x} k r (later {y} {xs} {ys} t) o = ap (λ l. cond (eqb k y.link && eqb r y.round) (y.content ∷ l) l) (taken-other k r t o)

-- of what is picked there was one more
taken-length : {x : Parcel Packet} {xs ys : List (Parcel Packet)} → Taken x xs ys → length (find xs x.link x.round) ≡ suc (length (find ys x.link x.round))
unfolding find added
taken-length {x} (first {xs}) = ap length (find-same x xs)
taken-length {x} (later {y} {xs} {ys} t) = one_more (eqb x.link y.link && eqb x.round y.round) y.content _ _ (taken-length t)
  where
    one_more : (v : Bool) (b : Packet) (l m : List Packet) → length l ≡ suc (length m) → length (cond v (b ∷ l) l) ≡ suc (length (cond v (b ∷ m) m))
    one_more true b l m h = ap suc h
    one_more false b l m h = h

pub taken-some : {x : Parcel Packet} {xs ys : List (Parcel Packet)} → Taken x xs ys → find xs x.link x.round ≡ [] → ⊥
taken-some t e = let n = ap length e in omega (arith, taken-length t)

-- and where it was the only one, none is left
pub taken-one : {x : Parcel Packet} {xs ys : List (Parcel Packet)} (v : Packet) → Taken x xs ys → find xs x.link x.round ≡ v ∷ [] → (x.content ≡ v) × (find ys x.link x.round ≡ [])
taken-one {x} v (first {xs}) e = let h = find-same x xs in (cc, cc)
taken-one {x} v (later {y} {xs} {ys} t) e =
    elim (hits x.link x.round y) [
      | hit d b ↦ let h = find-same y xs in let n : find xs x.link x.round ≡ [] = cc in absurd (taken-some t n)
      | miss o ↦
          let r = taken-one v t (sym (find-other _ _ y xs o) ∙ e) in
          (r.0, find-other _ _ y ys o ∙ r.1)
    ]

-- a place of a list, or none
pub data Picks (i : ℕ) (xs : List (Parcel Packet)) : Type 0 where
  none : pick i xs ≡ nothing → length xs ≤ i → Picks i xs
  some : (x : Parcel Packet) (ys : List (Parcel Packet)) → pick i xs ≡ picked x ys → Taken x xs ys → Picks i xs

pub picks : (i : ℕ) (xs : List (Parcel Packet)) → Picks i xs
unfolding pick
picks i [] = none refl (omega arith)
picks zero (x ∷ xs) = some x xs refl first
picks (suc i) (y ∷ xs) =
    elim (picks i xs) [
      | none e l ↦ none (ap (beyond y) e) (omega arith)
      | some x ys e t ↦ some x (y ∷ ys) (ap (beyond y) e) (later t)
    ]

pub came-into : (r p : ℕ) (kept : ℕ → ℕ → List Packet) (ls : List Link) (bs : List Packet) (j : ℕ) → length ls ≡ length bs → ((k i : ℕ) → k ≡ j + i → i < length ls → (link_at ls i).to ≡ p → kept k r ≡ get_or bs i [] ∷ []) → came_in r (numbers (λ l. l.to) p j ls) kept ≡ into p ls bs
unfolding came_in numbers into
came-into r p kept [] bs j n h = refl
came-into r p kept (l ∷ ls) [] j n h = absurd (omega arith)
came-into r p kept (l ∷ ls) (b ∷ bs) j n h = go (cases_eq p l.to) (came-into r p kept ls bs (j + 1) (omega arith) (λ k i e m t. h k (suc i) (omega arith) (omega arith) t))
  where
    go : (p ≡ l.to) ⊎ (p ≡ l.to → ⊥) → came_in r (numbers (λ l. l.to) p (j + 1) ls) kept ≡ into p ls bs → came_in r (numbers (λ l. l.to) p j (l ∷ ls)) kept ≡ into p (l ∷ ls) (b ∷ bs)
    go (inl t) ih = rw (eq-eqb p l.to t) (ap₂ (λ x y. x ++ y) (h j 0 (omega arith) (omega arith) (sym t)) ih)
    go (inr t) ih = rw (ne_eqb p l.to t) ih
