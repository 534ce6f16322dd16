-- What comes in at nodes outside a set that holds the source depends only on what goes over the links out of the set.
-- By induction along the links: as long as the same has come in at every node outside, a link that begins outside carries the same,
-- a link out of the set does so by assumption, and what a link within the set carries comes in at no node outside.
use Rattle.std.proofs.Common.{◌≡◌, ℕ, ◌+◌, Bool, true, false, cond, not, ◌&&◌, eqb, List, [], ◌∷◌, ◌++◌, length, sym, refl, ap, ◌∙◌, ap₂, inl, inr, append_assoc, append-nil, arith, length-append}
use Rattle.std.specs.List.{AllByRecursion}
use Rattle.std.proofs.ByRecursion.{All-push}
use Rattle.std.proofs.lemmas.Bool.{eqb-true, cases_Bool, ne_eqb, both_ways}
use Rattle.network.specs.Network.{Link}
use Rattle.network_cuts.specs.Scheme.{Packet, Scheme, into, hand, carry}
use Rattle.network_cuts.specs.Cut.{out}
use Rattle.network_cuts.specs.Across.{Tuple, IsPacket, Honest}

-- one more link
into-push : (p : ℕ) (ls : List Link) (l : Link) (bs : List Packet) (b : Packet) → length ls ≡ length bs
    → into p (ls ++ l ∷ []) (bs ++ b ∷ []) ≡ into p ls bs ++ cond (eqb p l.to) (b ∷ []) []
unfolding into
into-push p [] l [] b e = elim (eqb p l.to) as (λ v. cond v (b ∷ []) [] ≡ [] ++ cond v (b ∷ []) []) [ true ↦ refl | false ↦ refl ]
into-push p [] l (y ∷ bs) b e = absurd (omega arith)
into-push p (d ∷ ls) l [] b e = absurd (omega arith)
into-push p (d ∷ ls) l (y ∷ bs) b e =
    let L : List Packet = into p (ls ++ l ∷ []) (bs ++ b ∷ []) in
    let S : List Packet = cond (eqb p l.to) (b ∷ []) [] in
    let r : L ≡ into p ls bs ++ S = into-push p ls l bs b (omega arith) in
    elim (eqb p d.to) as (λ v. cond v (y ∷ L) L ≡ cond v (y ∷ into p ls bs) (into p ls bs) ++ S) [ true ↦ ap (λ x. y ∷ x) r | false ↦ r ]

into-all : (P : Packet → Type 0) (p : ℕ) (ls : List Link) (bs : List Packet) → AllByRecursion P bs → AllByRecursion P (into p ls bs)
unfolding into
into-all P p [] bs a = tt
into-all P p (l ∷ ls) [] a = tt
into-all P p (l ∷ ls) (b ∷ bs) a =
    let r : AllByRecursion P (into p ls bs) = into-all P p ls bs a.1 in
    elim (eqb p l.to) as (λ v. AllByRecursion P (cond v (b ∷ into p ls bs) (into p ls bs))) [ true ↦ (a.0, r) | false ↦ r ]

hand-all : (P : Packet → Type 0) (p : ℕ) (m : List Packet) (ls : List Link) (bs : List Packet) → AllByRecursion P m → AllByRecursion P bs → AllByRecursion P (hand p m ls bs)
hand-all P p m ls bs am a = elim (eqb p 0) as (λ v. AllByRecursion P (cond v m (into p ls bs))) [ true ↦ am | false ↦ into-all P p ls bs a ]

abbrev crosses : (ℕ → Bool) → Link → Bool
crosses side l = side l.from && not (side l.to)

-- the packets on the links out of the set, along the same recursion as `carry`
unfoldable pub crossed : (ℕ → Bool) → Scheme → List Packet → ℕ → List Link → List Link → List Packet → List Packet
crossed side f m k before [] bs = []
crossed side f m k before (l ∷ ls) bs =
    let b : Packet = f k (hand l.from m before bs) in
    let r : List Packet = crossed side f m (k + 1) (before ++ (l ∷ [])) ls (bs ++ (b ∷ [])) in
    cond (crosses side l) (b ∷ r) r

cond-tuple : {A : Type 0} (P : A → Type 0) (v : Bool) (n : ℕ) (x : A) (xs : List A) → P x → Tuple n P xs → Tuple (cond v 1 0 + n) P (cond v (x ∷ xs) xs)
cond-tuple P true n x xs p t = record { count = omega arith; each = (p, t.each) }
cond-tuple P false n x xs p t = record { count = omega arith; each = t.each }

-- an honest scheme sends as many packets over them as there are such links
pub crossed-tuple : (n q : ℕ) (side : ℕ → Bool) (f : Scheme) → Honest n q f → (m : List Packet) → AllByRecursion (IsPacket n q) m
    → (k : ℕ) (before ls : List Link) (bs : List Packet) → AllByRecursion (IsPacket n q) bs → Tuple (out side ls) (IsPacket n q) (crossed side f m k before ls bs)
unfolding crossed out
crossed-tuple n q side f ho m am k before [] bs a = record { count = refl; each = tt }
crossed-tuple n q side f ho m am k before (l ∷ ls) bs a =
    let b : Packet = f k (hand l.from m before bs) in
    let p : IsPacket n q b = ho k _ (hand-all _ l.from m before bs am a) in
    cond-tuple (IsPacket n q) (crosses side l) (out side ls) b _ p
    (crossed-tuple n q side f ho m am (k + 1) (before ++ (l ∷ [])) ls (bs ++ (b ∷ [])) (All-push _ bs b a p))

-- at all nodes outside the same has come in
abbrev Same : (ℕ → Bool) → List Link → List Packet → List Packet → Type 0
Same side ls bs bs' = (p : ℕ) → side p ≡ false → into p ls bs ≡ into p ls bs'

same-push : (side : ℕ → Bool) (ls : List Link) (l : Link) (bs bs' : List Packet) (b b' : Packet) → length ls ≡ length bs → length ls ≡ length bs'
    → Same side ls bs bs' → (side l.to ≡ false → b ≡ b') → Same side (ls ++ l ∷ []) (bs ++ b ∷ []) (bs' ++ b' ∷ [])
same-push side ls l bs bs' b b' e e' s h p o = into-push p ls l bs b e ∙ ap₂ (λ x y. x ++ y) (s p o) last ∙ sym (into-push p ls l bs' b' e')
  where
    last : cond (eqb p l.to) (b ∷ []) [] ≡ cond (eqb p l.to) (b' ∷ []) []
    last =
        elim (cases_Bool (eqb p l.to)) [
          | inl t ↦ ap (λ x. cond (eqb p l.to) (x ∷ []) []) (h (ap side (sym (eqb-true p l.to t)) ∙ o))
          | inr t ↦ rw t refl
        ]

cond-tail : (v : Bool) (b b' : Packet) (r r' : List Packet) → cond v (b ∷ r) r ≡ cond v (b' ∷ r') r' → r ≡ r'
cond-tail true b b' r r' e = cc
cond-tail false b b' r r' e = e

cond-head : (v : Bool) (b b' : Packet) (r r' : List Packet) → cond v (b ∷ r) r ≡ cond v (b' ∷ r') r' → v ≡ true → b ≡ b'
cond-head true b b' r r' e t = cc
cond-head false b b' r r' e t = cc

-- a node outside isn't the source
pub outside : (side : ℕ → Bool) → side 0 ≡ true → (p : ℕ) → side p ≡ false → eqb p 0 ≡ false
outside side s p o = ne_eqb p 0 (λ e. both_ways (side p) o (ap side e ∙ s))

pub same-carry : (side : ℕ → Bool) → side 0 ≡ true → (f : Scheme) (m m' : List Packet) (k : ℕ) (before ls : List Link) (bs bs' : List Packet)
    → length before ≡ length bs → length before ≡ length bs' → Same side before bs bs' → crossed side f m k before ls bs ≡ crossed side f m' k before ls bs'
    → Same side (before ++ ls) (carry f m k before ls bs) (carry f m' k before ls bs')
unfolding crossed carry
same-carry side source f m m' k before [] bs bs' e e' s c = rw append-nil s
same-carry side source f m m' k before (l ∷ ls) bs bs' e e' s c =
    let b : Packet = f k (hand l.from m before bs) in
    let b' : Packet = f k (hand l.from m' before bs') in
    let next : Same side (before ++ l ∷ []) (bs ++ b ∷ []) (bs' ++ b' ∷ []) = same-push side before l bs bs' b b' e e' s same in
    let r =
    same-carry side source f m m' (k + 1) (before ++ l ∷ []) ls (bs ++ b ∷ []) (bs' ++ b' ∷ []) (simp length-append (omega arith))
    (simp length-append (omega arith)) next (cond-tail (crosses side l) b b' _ _ c) in
    rw append_assoc at r
  where
    same : side l.to ≡ false → f k (hand l.from m before bs) ≡ f k (hand l.from m' before bs')
    same o =
        elim (cases_Bool (side l.from)) [
          | inl i ↦ cond-head (crosses side l) _ _ _ _ c (rw (i, o))
          | inr i ↦ ap (f k) (rw (outside side source l.from i) (s l.from i))
        ]
