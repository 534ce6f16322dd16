-- A slot serves one link, and rounds that are three apart. Since no tag is of a round beyond the two that follow the one at work, a slot
-- whose tag is of some round at work or later serves no other such round: so a write to a free slot adds what came in and takes nothing away.
use Rattle.std.proofs.Common.{◌≡◌, ℕ, zero, suc, ◌+◌, ◌*◌, ◌/◌, ◌%◌, ◌<◌, ◌≤◌, Bool, true, false, cond, ◌&&◌, eqb, leb, ◌⊎◌, List, [], ◌∷◌, ◌++◌, map, length, get_or, set, Some, None, Option, MatchOption, sym, refl, ap, ◌∙◌, ap₂, inl, inr, mod-lt, arith, get_or-set_other, get_or-set_same}
use mathlib.Core.Path.{fun_ext}
use lib.Arith.{digits_lt, digits_div, digits_mod}
use Rattle.std.specs.Option.{option_eq}
use Rattle.std.specs.List.{range_with_len, AllWithin, HoldsAt}
use Rattle.std.proofs.lemmas.Bool.{cases_Bool, cases_eq, eq-eqb, ne_eqb, eqb-true, le-leb, lt-leb, leb-true, leb-false, or_left, or_right, or_cases, and_parts, and_from, both_ways}
use Rattle.network.specs.Network.{Rising}
use Rattle.network_cuts.specs.Scheme.{Packet}
use Rattle.relay_theory.specs.Relay.{Parcel, added, State, is_in, any, complete, came_in, is_over, except}
use Rattle.relay_theory.proofs.Finds.{Other, added-same, added-other, hit, miss, hits, complete-each, complete-from}
use Rattle.delivery_theory.specs.Work.{place}
use Rattle.relay_memory.specs.Memory.{part, slot, held, row}

-- where a link stands
pub place-first : (k : ℕ) (ks : List ℕ) (i : ℕ) → i < length ks → get_or ks i 0 ≡ k → ((j : ℕ) → j < i → get_or ks j 0 ≡ k → ⊥) → place k ks ≡ i
unfolding place
place-first k [] i l e o = absurd (omega arith)
place-first k (j ∷ ks) zero l e o = rw (eq-eqb k j (sym e))
place-first k (j ∷ ks) (suc i) l e o =
    let r : place k ks ≡ i = place-first k ks i (omega arith) e (λ m h. o (suc m) (omega arith)) in
    rw (ne_eqb k j (λ d. o 0 (omega arith) (sym d))) (omega arith)

pub in-at : (k : ℕ) (ks : List ℕ) (i : ℕ) → i < length ks → get_or ks i 0 ≡ k → is_in k ks ≡ true
unfolding is_in
in-at k [] i l e = absurd (omega arith)
in-at k (j ∷ ks) zero l e = or_left _ _ (eq-eqb k j (sym e))
in-at k (j ∷ ks) (suc i) l e = or_right _ _ (in-at k ks i (omega arith) e)

pub at_in : (k : ℕ) (ks : List ℕ) → is_in k ks ≡ true → (place k ks < length ks) × (get_or ks (place k ks) 0 ≡ k)
unfolding is_in place
at_in k [] h = absurd (both_ways false refl h)
at_in k (j ∷ ks) h = go (cases_eq k j) (at_in k ks)
  where
    go : (k ≡ j) ⊎ (k ≡ j → ⊥) → (is_in k ks ≡ true → (place k ks < length ks) × (get_or ks (place k ks) 0 ≡ k)) → (place k (j ∷ ks) < length (j ∷ ks)) × (get_or (j ∷ ks) (place k (j ∷ ks)) 0 ≡ k)
    go (inl e) ih = rw (eq-eqb k j e) (omega arith, sym e)
    go (inr e) ih =
        let r = ih (elim (or_cases (eqb k j) _ h) [ inl t ↦ absurd (e (eqb-true k j t)) | inr t ↦ t ]) in
        let q : 1 + place k ks ≡ suc (place k ks) = omega arith in
        rw (ne_eqb k j e, q) (omega arith, r.1)

pub not_in : (k : ℕ) (ks : List ℕ) → ((i : ℕ) → i < length ks → get_or ks i 0 ≡ k → ⊥) → is_in k ks ≡ false
not_in k ks o = elim (cases_Bool (is_in k ks)) [ inl t ↦ (let a = at_in k ks t in absurd (o (place k ks) a.0 a.1)) | inr t ↦ t ]

-- as the code finds a number in a list
pub found : (k : ℕ) (ks : List ℕ) (r : Option ℕ) → MatchOption r (AllWithin (λ n. n ≡ k → ⊥) ks 0 (length ks)) (λ i. (i < length ks) × HoldsAt (λ n. n ≡ k) ks i × AllWithin (λ n. n ≡ k → ⊥) ks 0 i)
    → MatchOption r (is_in k ks ≡ false) (λ i. (i < length ks) × (get_or ks i 0 ≡ k) × (i ≡ place k ks))
found k ks None h = not_in k ks (λ i l. h i 0 (omega arith) l)
found k ks (Some i) h = (h.0, h.1 0, sym (place-first k ks i h.0 (h.1 0) (λ j l. h.2 j 0 (omega arith) l)))

-- the tag of a slot is a round
pub is-held : (o : Option ℕ) (r : ℕ) → o ≡ Some r → option_eq eqb o (Some r) ≡ true
is-held None r e = cc
is-held (Some x) r e = eq-eqb x r cc

pub held-is : (o : Option ℕ) (r : ℕ) → option_eq eqb o (Some r) ≡ true → o ≡ Some r
held-is None r h = absurd (both_ways false refl h)
held-is (Some x) r h = ap Some (eqb-true x r h)

slot_same : (n a b i j : ℕ) → i < n → j < n → a * n + i ≡ b * n + j → (a ≡ b) × (i ≡ j)
slot_same n a b i j k l e =
    (sym (digits_div a k) ∙ ap (λ x. x / n) e ∙ digits_div b l, sym (digits_mod a k) ∙ ap (λ x. x % n) e ∙ digits_mod b l)

in-any-at : {A : Type 0} (xs : List A) → 0 < length xs → any xs ≡ true
unfolding any
in-any-at [] l = absurd (omega arith)
in-any-at (x ∷ xs) l = refl

-- what came in over links, for each of which it lies in the next slot
came-list : {A : Type 0} (f : ℕ → A) (ks : List ℕ) (a : ℕ) (kept : ℕ → ℕ → List A) (r : ℕ)
    → ((j : ℕ) → j < length ks → kept (get_or ks j 0) r ≡ f (a + j) ∷ []) → came_in r ks kept ≡ map f (range_with_len a (length ks))
unfolding came_in
came-list f [] a kept r h = refl
came-list f (k ∷ ks) a kept r h =
    let z : a + 0 ≡ a = omega arith in
    let ih = came-list f ks (a + 1) kept r (λ j m. let q : a + suc j ≡ a + 1 + j = omega arith in rw q at (h (suc j) (omega arith))) in
    ap₂ (λ x y. x ++ y) (rw z at (h 0 (omega arith))) ih

-- what is held
module _ (ins : List ℕ) (width round : ℕ) (tags : List (Option ℕ)) (packets : List Packet) where
  abbrev s : (k r : ℕ) → ℕ
  s k r = slot (length ins) r (place k ins)

  pub held_one : (k r : ℕ) → is_in k ins ≡ true → round ≤ r → get_or tags (s k r) None ≡ Some r → held ins width round tags packets k r ≡ part width (s k r) packets ∷ []
  unfolding held
  held_one k r a b e = rw (a, le-leb round r b, is-held _ r e)

  pub held_none : (k r : ℕ) → (is_in k ins ≡ true → round ≤ r → get_or tags (s k r) None ≡ Some r → ⊥) → held ins width round tags packets k r ≡ []
  unfolding held
  held_none k r o =
      elim (cases_Bool (is_in k ins && (leb round r && option_eq eqb (get_or tags (s k r) None) (Some r)))) [
        | inl t ↦
            let a = and_parts (is_in k ins) _ t in
            let b = and_parts (leb round r) _ a.1 in
            absurd (o a.0 (leb-true round r b.0) (held-is _ r b.1))
        | inr t ↦ rw t
      ]

  -- the round ends
  pub held_next : held ins width (round + 1) tags packets ≡ except round (held ins width round tags packets)
  unfolding held except
  held_next = fun_ext (λ k. fun_ext (λ r. elim (cases_eq r round) [
    | inl e ↦ rw (eq-eqb r round e, lt-leb (round + 1) r (omega arith)) (no_more (is_in k ins) _)
    | inr e ↦ rw (ne_eqb r round e, later r e) refl
  ]))
    where
      no_more : (b : Bool) (p : List Packet) → cond (b && false) (p ∷ []) [] ≡ []
      no_more true p = refl
      no_more false p = refl

      later : (r : ℕ) → (r ≡ round → ⊥) → leb (round + 1) r ≡ leb round r
      later r e = elim (cases_Bool (leb round r)) [ inl t ↦ le-leb (round + 1) r (let b = leb-true round r t in omega arith) ∙ sym t | inr t ↦ lt-leb (round + 1) r (let b = leb-false round r t in omega arith) ∙ sym t ]

module _ (ins : List ℕ) (rising : Rising (length ins) (λ i. get_or ins i 0)) where
  pub place_at : (k i : ℕ) → i < length ins → get_or ins i 0 ≡ k → place k ins ≡ i
  place_at k i l e = place-first k ins i l e (λ j h d. omega (arith, rising j i h l))

  module _ (width round : ℕ) (tags : List (Option ℕ)) (packets : List Packet) where
    -- the packets that lie where those of the round at work do
    abbrev works : State (List Packet)
    works = record { round = round; kept = held ins width round tags packets }

    abbrev tag : ℕ → Option ℕ
    tag i = get_or tags (slot (length ins) round i) None

    pub over-from : 0 < length ins → ((i : ℕ) → i < length ins → tag i ≡ Some round) → is_over ins works ≡ true
    unfolding is_over any
    over-from some all =
        and_from _ _ (in-any-at ins some)
        (complete-from round ins (held ins width round tags packets) (λ k t e.
        let a = at_in k ins t in
        let h = held_one ins width round tags packets k round t (omega arith) (all (place k ins) a.0) in
        let z : ◌≡◌ {A = ℕ} 0 1 = cc in omega arith))

    pub over-not : (i : ℕ) → i < length ins → (tag i ≡ Some round → ⊥) → is_over ins works ≡ false
    unfolding is_over
    over-not i l o =
        elim (cases_Bool (any ins && complete round ins (held ins width round tags packets))) [
          | inl t ↦
              let k : ℕ = get_or ins i 0 in
              absurd (complete-each round k ins (held ins width round tags packets) (and_parts (any ins) _ t).1 (in-at k ins i l refl)
              (held_none ins width round tags packets k round (λ _ _ e. o (rw (place_at k i l refl) at e))))
          | inr t ↦ t
        ]

    pub over-tags : is_over ins works ≡ true → (i : ℕ) → i < length ins → tag i ≡ Some round
    over-tags h i l = elim (cases_Bool (option_eq eqb (tag i) (Some round))) [ inl t ↦ held-is _ _ t | inr f ↦ absurd (both_ways _ (over-not i l (λ e. both_ways _ f (is-held _ _ e))) h) ]

    pub came-row : is_over ins works ≡ true → came_in round ins (held ins width round tags packets) ≡ row (length ins) width round packets
    came-row h =
        came-list (λ j. part width j packets) ins (round % 3 * length ins) (held ins width round tags packets) round
        (λ i l.
        let k : ℕ = get_or ins i 0 in
        let p : place k ins ≡ i = place_at k i l refl in
        rw p at (held_one ins width round tags packets k round (in-at k ins i l refl) (omega arith) (rw p (over-tags h i l))))

  -- something comes in, and is put into its slot
  module _ (width round : ℕ) (tags : List (Option ℕ)) (packets packets⁺ : List Packet) (x : Parcel (List Packet)) (i : ℕ) (l : i < length ins) (there : get_or ins i 0 ≡ x.link)
      (late : round ≤ x.round) (soon : x.round ≤ round + 2) (free : get_or tags (slot (length ins) x.round i) None ≡ Some x.round → ⊥)
      (recent : (j r : ℕ) → get_or tags j None ≡ Some r → r ≤ round + 2) (full-tags : length tags ≡ 3 * length ins)
      (put : part width (slot (length ins) x.round i) packets⁺ ≡ x.content)
      (others : (s : ℕ) → (s ≡ slot (length ins) x.round i → ⊥) → part width s packets⁺ ≡ part width s packets) where
    abbrev here : ℕ
    here = slot (length ins) x.round i

    abbrev tags⁺ : List (Option ℕ)
    tags⁺ = set tags here (Some x.round)

    within : here < 3 * length ins
    within = digits_lt (mod-lt x.round (omega arith)) l

    in_place : place x.link ins ≡ i
    in_place = place_at x.link i l there

    pub none-held : held ins width round tags packets x.link x.round ≡ []
    none-held = held_none ins width round tags packets x.link x.round (λ _ _ e. free (rw in_place at e))

    new-tag : get_or tags⁺ here None ≡ Some x.round
    new-tag = get_or-set_same tags here (Some x.round) None (omega (arith, within))

    one-held : held ins width round tags⁺ packets⁺ x.link x.round ≡ x.content ∷ []
    one-held =
        held_one ins width round tags⁺ packets⁺ x.link x.round (in-at x.link ins i l there) late (rw in_place new-tag)
        ∙ ap (λ u. u ∷ []) (rw in_place put)

    -- another slot is as it was
    apart : (k r : ℕ) → (slot (length ins) r (place k ins) ≡ here → ⊥) → held ins width round tags⁺ packets⁺ k r ≡ held ins width round tags packets k r
    unfolding held
    apart k r o =
        let j : ℕ = slot (length ins) r (place k ins) in
        ap₂ (λ t p. cond (is_in k ins && (leb round r && option_eq eqb t (Some r))) (p ∷ []) []) (get_or-set_other tags here j (Some x.round) None o) (others j o)

    -- the slot serves no other link, and no other round in which something can be held
    same-link : (k r : ℕ) → is_in k ins ≡ true → slot (length ins) r (place k ins) ≡ here → (r % 3 ≡ x.round % 3) × (k ≡ x.link)
    same-link k r t e =
        let a = at_in k ins t in
        let q = slot_same (length ins) (r % 3) (x.round % 3) (place k ins) i a.0 l e in
        (q.0, sym a.1 ∙ ap (λ j. get_or ins j 0) q.1 ∙ there)

    shared : (k r : ℕ) → Other k r x → slot (length ins) r (place k ins) ≡ here → held ins width round tags⁺ packets⁺ k r ≡ held ins width round tags packets k r
    shared k r o e =
        held_none ins width round tags⁺ packets⁺ k r (λ t _ d. o (same-link k r t e).1 (let q : Some r ≡ Some x.round = sym d ∙ ap (λ j. get_or tags⁺ j None) e ∙ new-tag in cc))
        ∙ sym (held_none ins width round tags packets k r (λ t h d. let q = same-link k r t e in o q.1 (omega (arith, q.0, recent (slot (length ins) r (place k ins)) r d))))

    keeps : (k r : ℕ) → held ins width round tags⁺ packets⁺ k r ≡ added x (held ins width round tags packets) k r
    keeps k r =
        elim (hits k r x) [
          | hit e d ↦ rw (e, d) (one-held ∙ sym (added-same x (held ins width round tags packets) ∙ ap (λ u. x.content ∷ u) none-held))
          | miss o ↦ elim (cases_eq (slot (length ins) r (place k ins)) here) [ inl e ↦ shared k r o e | inr e ↦ apart k r e ] ∙ sym (added-other k r x (held ins width round tags packets) o)
        ]

    pub held-keep : held ins width round tags⁺ packets⁺ ≡ added x (held ins width round tags packets)
    held-keep = fun_ext (λ k. fun_ext (keeps k))
