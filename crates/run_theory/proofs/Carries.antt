-- What the synchronous network has on a link is what its beginning sends by what it has at hand: when a link is reached, all that
-- leads to its beginning has been carried, since links stand in order.
use Rattle.std.proofs.Common.{◌≡◌, ℕ, zero, suc, ◌+◌, ◌<◌, ◌≤◌, cond, eqb, List, [], ◌∷◌, ◌++◌, length, get_or, sym, refl, ap, ◌∙◌, ap₂, append_assoc, append-nil, arith, length-append}
use Rattle.std.proofs.lemmas.Bool.{ne_eqb}
use Rattle.std.proofs.lemmas.List.{get_or_append_left, get_or_push, length_push}
use Rattle.network.specs.Network.{Link, Network, Sound, link_at}
use Rattle.network_cuts.specs.Scheme.{Packet, Scheme, into, hand, carry, carried, got}

abbrev None : ℕ → List Link → Type 0
None p ls = (i : ℕ) → i < length ls → (link_at ls i).to ≡ p → ⊥

abbrev Ordered : List Link → Type 0
Ordered ls = (i j : ℕ) → i ≤ j → j < length ls → (link_at ls j).to ≡ (link_at ls i).from → ⊥

-- one more link
into-push : (p : ℕ) (ls : List Link) (x : Link) (bs : List Packet) (b : Packet) → length ls ≡ length bs → (x.to ≡ p → ⊥) → into p (ls ++ x ∷ []) (bs ++ b ∷ []) ≡ into p ls bs
unfolding into
into-push p [] x [] b e o = rw (ne_eqb p x.to (λ t. o (sym t)))
into-push p [] x (y ∷ bs) b e o = absurd (omega arith)
into-push p (l ∷ ls) x [] b e o = absurd (omega arith)
into-push p (l ∷ ls) x (y ∷ bs) b e o = ap (λ w. cond (eqb p l.to) (y ∷ w) w) (into-push p ls x bs b (omega arith) o)

-- what comes into a node is there before any link is reached after which none leads there
into-carry : (f : Scheme) (m : List Packet) (p k : ℕ) (before ls : List Link) (bs : List Packet) → length before ≡ length bs → None p ls → into p (before ++ ls) (carry f m k before ls bs) ≡ into p before bs
unfolding carry
into-carry f m p k before [] bs e o = rw append-nil refl
into-carry f m p k before (x ∷ ls) bs e o =
    let b : Packet = f k (hand x.from m before bs) in
    let r = into-carry f m p (k + 1) (before ++ x ∷ []) ls (bs ++ b ∷ []) (simp length-append (omega arith)) (λ i l. o (suc i) (omega arith)) in
    (rw append_assoc at r) ∙ into-push p before x bs b e (o 0 (omega arith))

carry-length : (f : Scheme) (m : List Packet) (k : ℕ) (before ls : List Link) (bs : List Packet) → length (carry f m k before ls bs) ≡ length bs + length ls
unfolding carry
carry-length f m k before [] bs = omega arith
carry-length f m k before (x ∷ ls) bs = let b : Packet = f k (hand x.from m before bs) in omega (arith, carry-length f m (k + 1) (before ++ x ∷ []) ls (bs ++ b ∷ []), length_push bs b)

carry-old : (f : Scheme) (m : List Packet) (k : ℕ) (before ls : List Link) (bs : List Packet) (i : ℕ) → i < length bs → get_or (carry f m k before ls bs) i [] ≡ get_or bs i []
unfolding carry
carry-old f m k before [] bs i l = refl
carry-old f m k before (x ∷ ls) bs i l =
    let b : Packet = f k (hand x.from m before bs) in
    carry-old f m (k + 1) (before ++ x ∷ []) ls (bs ++ b ∷ []) i (simp length-append (omega arith)) ∙ get_or_append_left bs (b ∷ []) [] i l

carry-new : (f : Scheme) (m : List Packet) (k : ℕ) (before : List Link) (x : Link) (ls : List Link) (bs : List Packet) (j : ℕ) → length bs ≡ j → get_or (carry f m k before (x ∷ ls) bs) j [] ≡ f k (hand x.from m before bs)
unfolding carry
carry-new f m k before x ls bs j e =
    let b : Packet = f k (hand x.from m before bs) in
    carry-old f m (k + 1) (before ++ x ∷ []) ls (bs ++ b ∷ []) j (simp length-append (omega arith)) ∙ get_or_push bs b [] j e

carry-at : (f : Scheme) (m : List Packet) (k : ℕ) (before ls : List Link) (bs : List Packet) → length before ≡ k → length bs ≡ k → Ordered ls → (i j : ℕ) → j ≡ k + i → i < length ls → get_or (carry f m k before ls bs) j [] ≡ f j (hand (link_at ls i).from m (before ++ ls) (carry f m k before ls bs))
unfolding carry
carry-at f m k before [] bs e d o i j a l = absurd (omega arith)
carry-at f m k before (x ∷ ls) bs e d o zero j a l =
    let q : j ≡ k = omega arith in
    let s : into x.from (before ++ x ∷ ls) (carry f m k before (x ∷ ls) bs) ≡ into x.from before bs = into-carry f m x.from k before (x ∷ ls) bs (omega arith) (λ i l. o 0 i (omega arith) l) in
    carry-new f m k before x ls bs j (omega arith) ∙ ap₂ (λ w y. f w (cond (eqb x.from 0) m y)) (sym q) (sym s)
carry-at f m k before (x ∷ ls) bs e d o (suc i) j a l =
    let b : Packet = f k (hand x.from m before bs) in
    let r = carry-at f m (k + 1) (before ++ x ∷ []) ls (bs ++ b ∷ []) (simp length-append (omega arith)) (simp length-append (omega arith)) (λ i j h l. o (suc i) (suc j) (omega arith) (omega arith)) i j (omega arith) (omega arith) in
    rw append_assoc at r

-- no link into a node stands behind one out of it, at the same place included
pub none-behind : (z : Network) → Sound z → Ordered z.links
none-behind z s i j m l e = let o = s.order j i (l, omega arith) e in omega arith

pub carried-length : (z : Network) (f : Scheme) (m : List Packet) → length (carried z f m) ≡ length z.links
carried-length z f m = omega (arith, carry-length f m 0 [] z.links [])

pub carried-at : (z : Network) → Sound z → (f : Scheme) (m : List Packet) (k : ℕ) → k < length z.links → get_or (carried z f m) k [] ≡ f k (got z f (link_at z.links k).from m)
carried-at z s f m k l = carry-at f m 0 [] z.links [] refl refl (none-behind z s) k k (omega arith) l
