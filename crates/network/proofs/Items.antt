-- What the tests of links and receivers say: each passes just where the rule in words holds.
use Rattle.std.proofs.Common.{◌≡◌, ℕ, zero, suc, ◌+◌, ◌*◌, ◌<◌, ◌≤◌, Bool, true, false, not, ◌&&◌, ◌||◌, ◌-◌, eqb, ◌⊎◌, sym, refl, ap, ◌∙◌, inl, inr, add-one, arith}
use Rattle.std.specs.List.{range_with_len, list_any}
use Rattle.std.proofs.Math.Bool.{or_assoc}
use Rattle.std.proofs.lemmas.Bool.{eqb-true, eq-eqb, ne_eqb, or_cases, or_parts, or_from, or_left, or_right, both_ways, cases_Bool, cases_eq, cases_lt}
use Rattle.std.proofs.lemmas.Bool.Decides.{nat_tests}
use Rattle.network.specs.Network.{Within, Apart, InOrder, Placed, Rising}
use Rattle.octets.specs.Reading.{fine, item}
use Rattle.network.specs.Format.{among, link_fault, unfed, receiver_fault, links, previous, receivers}
use Rattle.octets.proofs.Reading.{next-fine, fine-item, item-fine}

-- AMONG THE FIRST k VALUES

pub among-found : (f : ℕ → ℕ) (k p : ℕ) → among f k p ≡ true → (j : ℕ) × (j < k) × (p ≡ f j)
unfolding among
among-found f zero p e = absurd (both_ways false refl e)
among-found f (suc k) p e =
    elim (or_cases (among f k p) (eqb p (f k)) e)
    [ inl h ↦ let s = among-found f k p h in (s.0, omega (arith, s.1), s.2) | inr h ↦ (k, omega arith, eqb-true p (f k) h) ]

pub among-at : (f : ℕ → ℕ) (k p j : ℕ) → j < k → p ≡ f j → among f k p ≡ true
unfolding among
among-at f zero p j h e = absurd (omega arith)
among-at f (suc k) p j h e =
    elim (cases_eq j k) [
      | inl q ↦ or_right (among f k p) (eqb p (f k)) (eq-eqb p (f k) (e ∙ ap f q))
      | inr q ↦ or_left (among f k p) (eqb p (f k)) (among-at f k p j (omega arith) e)
    ]

pub among_none : (f : ℕ → ℕ) (k p : ℕ) → ((j : ℕ) → j < k → p ≡ f j → ⊥) → among f k p ≡ false
among_none f k p none =
    elim (cases_Bool (among f k p)) [ inl e ↦ let s = among-found f k p e in absurd (none s.0 s.1 s.2) | inr e ↦ e ]

pub none-among : (f : ℕ → ℕ) (k p j : ℕ) → among f k p ≡ false → j < k → p ≡ f j → ⊥
none-among f k p j e h q = both_ways (among f k p) e (among-at f k p j h q)

-- ONE LINK

pub record Good (nodes : ℕ) (from to : ℕ → ℕ) (k : ℕ) : Type 0 where
  pub begins : from k < nodes
  pub ends : to k < nodes
  pub away : to k ≡ 0 → ⊥
  pub apart : from k ≡ to k → ⊥
  pub first : among from k (to k) ≡ false

abbrev fault_at : (nodes : ℕ) (from to : ℕ → ℕ) (k : ℕ) → ℕ
fault_at nodes from to k = link_fault nodes (from k) (to k) (among from k (to k))

good-link : (nodes : ℕ) (from to : ℕ → ℕ) (k : ℕ) → fault_at nodes from to k ≡ 0 → Good nodes from to k
good-link nodes from to k e =
    record {
      begins = grind (arith, nat_tests);
      ends = grind (arith, nat_tests);
      away = λ z. grind (arith, nat_tests);
      apart = λ z. grind (arith, nat_tests);
      first = elim (cases_Bool (among from k (to k))) [ inl h ↦ absurd (grind (arith, nat_tests)) | inr h ↦ h ];
    }

link-good : (nodes : ℕ) (from to : ℕ → ℕ) (k : ℕ) → Good nodes from to k → fault_at nodes from to k ≡ 0
link-good nodes from to k g =
    let a = g.begins in let b = g.ends in let c = g.away in let d = g.apart in let e = g.first in grind (arith, nat_tests)

-- THE FIRST n LINKS

pub each-link : (len nodes : ℕ) (from to : ℕ → ℕ) (n k : ℕ) → links len nodes from to n ≡ fine → k < n → (9 + 4 * k ≤ len) × Good nodes from to k
unfolding links
each-link len nodes from to zero k e h = absurd (omega arith)
each-link len nodes from to (suc n) k e h =
    let parts = next-fine (links len nodes from to n) (item len (5 + 4 * n) (9 + 4 * n) (fault_at nodes from to n)) e in
    elim (cases_eq k n) [
      | inl q ↦ let last = fine-item len (5 + 4 * n) (9 + 4 * n) (fault_at nodes from to n) parts.1 in (omega (arith, last.0), rw q (good-link nodes from to n last.1))
      | inr q ↦ each-link len nodes from to n k parts.0 (omega arith)
    ]

pub all-links : (len nodes : ℕ) (from to : ℕ → ℕ) (n : ℕ) → 5 + 4 * n ≤ len → ((k : ℕ) → k < n → Good nodes from to k) → links len nodes from to n ≡ fine
unfolding links
all-links len nodes from to zero h good = refl
all-links len nodes from to (suc n) h good =
    rw (all-links len nodes from to n (omega arith) (λ k l. good k (omega arith)))
    (item-fine len (5 + 4 * n) (9 + 4 * n) (fault_at nodes from to n) (omega arith) (link-good nodes from to n (good n (omega arith))))

module _ (nodes n : ℕ) (from to : ℕ → ℕ) (good : (k : ℕ) → k < n → Good nodes from to k) where
  pub links-within : Within nodes n from to
  links-within k h = ((good k h).begins, (good k h).ends)

  pub links-apart : Apart n from to
  links-apart k h = ((good k h).away, (good k h).apart)

  pub links-in-order : InOrder n from to
  links-in-order j k h e =
      elim (cases_lt j k) [
        | inl l ↦ l
        | inr l ↦ elim (cases_eq k j)
            [ inl q ↦ absurd ((good j h.0).apart (ap from (sym q) ∙ sym e)) | inr q ↦ absurd (none-among from j (to j) k (good j h.0).first (omega arith) e) ]
      ]

pub good-links : (nodes n : ℕ) (from to : ℕ → ℕ) → Within nodes n from to → Apart n from to → InOrder n from to → (k : ℕ) → k < n → Good nodes from to k
good-links nodes n from to within apart order k h =
    record {
      begins = (within k h).0;
      ends = (within k h).1;
      away = (apart k h).0;
      apart = (apart k h).1;
      first = among_none from k (to k) (λ j l e. let r : k < j = order k j (h, omega arith) e in omega arith);
    }

-- NODES THAT LINKS LEAVE AND NONE COMES INTO

pub fed-each : (left entered : ℕ → Bool) (q p : ℕ) → unfed left entered q ≡ false → p < q → (p ≡ 0 → ⊥) → left p ≡ true → entered p ≡ true
unfolding unfed
fed-each left entered zero p e h z l = absurd (omega arith)
fed-each left entered (suc q) p e h z l =
    let parts = or_parts (unfed left entered q) (not (eqb q 0) && (left q && not (entered q))) e in
    elim (cases_eq p q) [
      | inl r ↦ let k : not (eqb p 0) && (left p && not (entered p)) ≡ false = rw r parts.1 in grind (arith, nat_tests)
      | inr r ↦ fed-each left entered q p parts.0 (omega arith) z l
    ]

pub unfed-at : (left entered : ℕ → Bool) (q p : ℕ) → p < q → (p ≡ 0 → ⊥) → left p ≡ true → entered p ≡ false → unfed left entered q ≡ true
unfed-at left entered q p h z l e =
    elim (cases_Bool (unfed left entered q)) [ inl t ↦ t | inr f ↦ absurd (both_ways (entered p) e (fed-each left entered q p f h z l)) ]

pub unfed-more : (left entered : ℕ → Bool) (p : ℕ) → unfed left entered p ≡ false → (left p ≡ false) ⊎ (entered p ≡ true) → unfed left entered (p + 1) ≡ false
unfolding unfed
unfed-more left entered p e f =
    rw (add-one p) (elim f [ inl l ↦ rw e (grind (arith, nat_tests)) | inr n ↦ rw e (grind (arith, nat_tests)) ])

pub each_fed : (left entered : ℕ → Bool) (q : ℕ) → ((p : ℕ) → p < q → (p ≡ 0 → ⊥) → left p ≡ true → entered p ≡ true) → unfed left entered q ≡ false
unfolding unfed
each_fed left entered zero fed = refl
each_fed left entered (suc q) fed =
    let before = each_fed left entered q (λ p h. fed p (omega arith)) in
    let here : (q ≡ 0 → ⊥) → left q ≡ true → entered q ≡ true = fed q (omega arith) in
    or_from (unfed left entered q) (not (eqb q 0) && (left q && not (entered q))) before
    (elim (cases_eq q 0) [
      | inl z ↦ grind (arith, nat_tests)
      | inr z ↦ elim (cases_Bool (left q)) [ inl l ↦ let f = here z l in grind (arith, nat_tests) | inr l ↦ grind (arith, nat_tests) ]
    ])

pub same-unfed : (left entered left' entered' : ℕ → Bool) (p : ℕ) → ((q : ℕ) → q < p → left q ≡ left' q) → ((q : ℕ) → q < p → entered q ≡ entered' q)
    → unfed left entered p ≡ unfed left' entered' p
unfolding unfed
same-unfed left entered left' entered' zero e f = refl
same-unfed left entered left' entered' (suc p) e f =
    rw (same-unfed left entered left' entered' p (λ q h. e q (omega arith)) (λ q h. f q (omega arith)), e p (omega arith), f p (omega arith))

-- the same, as a search over the nodes but the source
any-more : (f : ℕ → Bool) (a n j : ℕ) → a + n ≡ j → list_any f (range_with_len a (suc n)) ≡ list_any f (range_with_len a n) || f j
any-more f a zero j e = rw (sym e) (grind (arith, nat_tests))
any-more f a (suc n) j e = ap (λ b. f a || b) (any-more f (a + 1) n j (omega arith)) ∙ sym (or_assoc (f a) (list_any f (range_with_len (a + 1) n)) (f j))

unfed-any : (left entered : ℕ → Bool) (n : ℕ) → unfed left entered (suc n) ≡ list_any (λ p. left p && not (entered p)) (range_with_len 1 n)
unfolding unfed
unfed-any left entered zero = refl
unfed-any left entered (suc n) =
    rw (ne_eqb (suc n) 0 (λ z. omega arith)) (ap (λ b. b || (left (suc n) && not (entered (suc n)))) (unfed-any left entered n)
    ∙ sym (any-more (λ p. left p && not (entered p)) 1 n (suc n) (omega arith)))

pub unfed_any : (left entered : ℕ → Bool) (n : ℕ) → 1 ≤ n → unfed left entered n ≡ list_any (λ p. left p && not (entered p)) (range_with_len 1 (n - 1))
unfed_any left entered n h = ap (unfed left entered) (omega arith) ∙ unfed-any left entered (n - 1)

-- RECEIVERS

pub each-receiver : (len start nodes : ℕ) (place : ℕ → ℕ) (n i : ℕ) → receivers len start nodes place n ≡ fine → i < n
    → (start + 2 * i + 2 ≤ len) × (place i < nodes) × (previous place i < place i)
unfolding receivers
each-receiver len start nodes place zero i e h = absurd (omega arith)
each-receiver len start nodes place (suc n) i e h =
    let f : ℕ = receiver_fault nodes (previous place n) (place n) in
    let parts = next-fine (receivers len start nodes place n) (item len (start + 2 * n) (start + 2 * n + 2) f) e in
    elim (cases_eq i n) [
      | inl q ↦ let last = fine-item len (start + 2 * n) (start + 2 * n + 2) f parts.1 in
          let z : receiver_fault nodes (previous place n) (place n) ≡ 0 = last.1 in
          rw q (last.0, grind (arith, nat_tests), grind (arith, nat_tests))
      | inr q ↦ each-receiver len start nodes place n i parts.0 (omega arith)
    ]

pub all-receivers : (len start nodes : ℕ) (place : ℕ → ℕ) (n : ℕ) → start + 2 * n ≤ len
    → ((i : ℕ) → i < n → (place i < nodes) × (previous place i < place i)) → receivers len start nodes place n ≡ fine
unfolding receivers
all-receivers len start nodes place zero h good = refl
all-receivers len start nodes place (suc n) h good =
    let g = good n (omega arith) in let a = g.0 in let b = g.1 in
    rw (all-receivers len start nodes place n (omega arith) (λ i l. good i (omega arith)))
    (item-fine len (start + 2 * n) (start + 2 * n + 2) (receiver_fault nodes (previous place n) (place n)) (omega arith) (grind (arith, nat_tests)))

pub above-previous : (place : ℕ → ℕ) (i : ℕ) → previous place i < place i → 0 < place i
above-previous place i h = omega arith

pub receivers-rise : (n : ℕ) (place : ℕ → ℕ) → ((i : ℕ) → i < n → previous place i < place i) → Rising n place
receivers-rise n place up i zero h l = absurd (omega arith)
receivers-rise n place up i (suc j) h l =
    let last : place j < place (suc j) = up (suc j) l in
    elim (cases_eq i j) [ inl q ↦ rw q last | inr q ↦ let before : place i < place j = receivers-rise n place up i j (omega arith) (omega arith) in omega arith ]

pub rise-above-previous : (nodes n : ℕ) (place : ℕ → ℕ) → Placed nodes n place → Rising n place → (i : ℕ) → i < n → previous place i < place i
rise-above-previous nodes n place placed rising zero h = (placed zero h).0
rise-above-previous nodes n place placed rising (suc i) h = rising i (suc i) (omega arith) h
