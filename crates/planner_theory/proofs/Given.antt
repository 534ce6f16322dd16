-- Paths that the search finds are paths as the coefficients want them: h of them, each from the source to the receiver, and no link on two of them.
use Rattle.std.proofs.Common.{◌≡◌, ℕ, zero, suc, ◌<◌, true, false, eqb, List, [], ◌∷◌, ◌++◌, length, sym, refl, ap, inl, inr, arith}
use Rattle.std.proofs.lemmas.Bool.{both_ways, eqb-true, or_cases, or_left, or_right}
use Rattle.linear.specs.Vectors.{row}
use Rattle.network.specs.Network.{Link, Network}
use Rattle.flow_theory.specs.Promise.{Leads, AllLead, joined, Absent, Different, Paths}
use Rattle.coding_theory.specs.Paths.{is_on, Given}

all-paths : (ls : List Link) (q p : ℕ) (ws : List (List ℕ)) → AllLead ls q p ws → (j : ℕ) → j < length ws → Leads ls q p (row ws j)
all-paths ls q p [] l j h = absurd (omega arith)
all-paths ls q p (w ∷ ws) l zero h = l.0
all-paths ls q p (w ∷ ws) l (suc j) h = all-paths ls q p ws l.1 j (omega arith)

-- a link that is on a list is not absent there
not-absent : (e : ℕ) (xs : List ℕ) → Absent e xs → is_on e xs ≡ true → ⊥
unfolding is_on
not-absent e [] a o = both_ways false refl o
not-absent e (x ∷ xs) a o = elim (or_cases (eqb e x) (is_on e xs) o) [ inl h ↦ a.0 (eqb-true e x h) | inr h ↦ not-absent e xs a.1 h ]

on-left : (e : ℕ) (xs ys : List ℕ) → is_on e xs ≡ true → is_on e (xs ++ ys) ≡ true
unfolding is_on
on-left e [] ys o = absurd (both_ways false refl o)
on-left e (x ∷ xs) ys o =
    elim (or_cases (eqb e x) (is_on e xs) o) [ inl h ↦ or_left (eqb e x) (is_on e (xs ++ ys)) h | inr h ↦ or_right (eqb e x) (is_on e (xs ++ ys)) (on-left e xs ys h) ]

on-right : (e : ℕ) (xs ys : List ℕ) → is_on e ys ≡ true → is_on e (xs ++ ys) ≡ true
unfolding is_on
on-right e [] ys o = o
on-right e (x ∷ xs) ys o = or_right (eqb e x) (is_on e (xs ++ ys)) (on-right e xs ys o)

on-joined : (e : ℕ) (ws : List (List ℕ)) (j : ℕ) → j < length ws → is_on e (row ws j) ≡ true → is_on e (joined ws) ≡ true
on-joined e [] j h o = absurd (omega arith)
on-joined e (w ∷ ws) zero h o = on-left e w (joined ws) o
on-joined e (w ∷ ws) (suc j) h o = on-right e w (joined ws) (on-joined e ws j (omega arith) o)

-- of two lists that differ in all, none has a link of the other
not-both : (e : ℕ) (xs ys : List ℕ) → Different (xs ++ ys) → is_on e xs ≡ true → is_on e ys ≡ true → ⊥
unfolding is_on
not-both e [] ys d o p = both_ways false refl o
not-both e (x ∷ xs) ys d o p =
    elim (or_cases (eqb e x) (is_on e xs) o)
    [ inl h ↦ not-absent x (xs ++ ys) d.0 (on-right x xs ys (rw (sym (eqb-true e x h)) p)) | inr h ↦ not-both e xs ys d.1 h p ]

different-right : (xs ys : List ℕ) → Different (xs ++ ys) → Different ys
different-right [] ys d = d
different-right (x ∷ xs) ys d = different-right xs ys d.1

one-path : (e : ℕ) (ws : List (List ℕ)) → Different (joined ws) → (i j : ℕ) → i < length ws → j < length ws → is_on e (row ws i) ≡ true → is_on e (row ws j) ≡ true → i ≡ j
one-path e [] d i j h l o p = absurd (omega arith)
one-path e (w ∷ ws) d zero zero h l o p = refl
one-path e (w ∷ ws) d zero (suc j) h l o p = absurd (not-both e w (joined ws) d o (on-joined e ws j (omega arith) p))
one-path e (w ∷ ws) d (suc i) zero h l o p = absurd (not-both e w (joined ws) d p (on-joined e ws i (omega arith) o))
one-path e (w ∷ ws) d (suc i) (suc j) h l o p = ap suc (one-path e ws (different-right w (joined ws) d) i j (omega arith) (omega arith) o p)

pub given : (z : Network) (h p : ℕ) (ws : List (List ℕ)) → Paths z h p ws → Given z.links h (record { node = p; paths = ws })
given z h p ws q =
    let many = q.many in
    record {
      many = many;
      lead = λ j l. all-paths z.links 0 p ws q.lead j (omega arith);
      apart = λ i j e l m o r. one-path e ws q.apart i j (omega arith) (omega arith) o r;
    }
