-- What is found for a link and a round where parcels are added, left out and sent.
use Rattle.std.proofs.Common.{◌≡◌, ℕ, zero, suc, ◌+◌, ◌<◌, true, false, cond, ◌&&◌, eqb, ◌⊎◌, List, [], ◌∷◌, ◌++◌, length, sym, refl, ap, ◌∙◌, ap₂, inl, inr, arith}
use Rattle.std.proofs.lemmas.Bool.{cases_Bool, cases_eq, eqb-true, eqb-false, eq-eqb, ne_eqb, and_parts, or_cases, or_left, or_right, or_parts, both_ways, and_from}
use Rattle.network.specs.Network.{Link, link_at}
use Rattle.network_cuts.specs.Scheme.{Packet}
use Rattle.relay_theory.specs.Relay.{Parcel, added, find, is_in, any, complete, came_in, except, numbers, send}
use Rattle.relay_theory.specs.Law.{Distinct}

-- one parcel more
abbrev pub Other : {A : Type 0} → ℕ → ℕ → Parcel A → Type 0
Other k r x = (k ≡ x.link → r ≡ x.round → ⊥)

pub added-same : {A : Type 0} (x : Parcel A) (kept : ℕ → ℕ → List A) → added x kept x.link x.round ≡ x.content ∷ kept x.link x.round
unfolding added
added-same x kept = rw (eq-eqb x.link x.link refl, eq-eqb x.round x.round refl)

pub added-other : {A : Type 0} (k r : ℕ) (x : Parcel A) (kept : ℕ → ℕ → List A) → Other k r x → added x kept k r ≡ kept k r
unfolding added
added-other k r x kept o =
    elim (cases_eq k x.link) [
      | inl e ↦ elim (cases_eq r x.round) [ inl d ↦ absurd (o e d) | inr d ↦ rw (ne_eqb r x.round d, eq-eqb k x.link e) ]
      | inr e ↦ rw (ne_eqb k x.link e)
    ]

pub find-same : {A : Type 0} (x : Parcel A) (xs : List (Parcel A)) → find (x ∷ xs) x.link x.round ≡ x.content ∷ find xs x.link x.round
unfolding find
find-same x xs = added-same x (find xs)

pub find-other : {A : Type 0} (k r : ℕ) (x : Parcel A) (xs : List (Parcel A)) → Other k r x → find (x ∷ xs) k r ≡ find xs k r
unfolding find
find-other k r x xs o = added-other k r x (find xs) o

-- the parcel is found, or nothing more than before
pub data Hit {A : Type 0} (k r : ℕ) (x : Parcel A) : Type 0 where
  hit : k ≡ x.link → r ≡ x.round → Hit k r x
  miss : Other k r x → Hit k r x

pub hits : {A : Type 0} (k r : ℕ) (x : Parcel A) → Hit k r x
hits k r x =
    elim (cases_eq k x.link) [
      | inl e ↦ elim (cases_eq r x.round) [ inl d ↦ hit e d | inr d ↦ miss (λ _ h. d h) ]
      | inr e ↦ miss (λ h _. e h)
    ]

pub find-append : {A : Type 0} (k r : ℕ) (xs ys : List (Parcel A)) → find (xs ++ ys) k r ≡ find xs k r ++ find ys k r
unfolding find added
find-append k r [] ys = refl
find-append k r (x ∷ xs) ys =
    let h = find-append k r xs ys in
    elim (eqb k x.link && eqb r x.round) as (λ v. cond v (x.content ∷ find (xs ++ ys) k r) (find (xs ++ ys) k r) ≡ cond v (x.content ∷ find xs k r) (find xs k r) ++ find ys k r) [
      | true ↦ ap (λ l. x.content ∷ l) h
      | false ↦ h
    ]

-- a round is left out
pub except-same : {A : Type 0} (k r r₀ : ℕ) (kept : ℕ → ℕ → List A) → r ≡ r₀ → except r₀ kept k r ≡ []
unfolding except
except-same k r r₀ kept e = rw (eq-eqb r r₀ e)

pub except-other : {A : Type 0} (k r r₀ : ℕ) (kept : ℕ → ℕ → List A) → (r ≡ r₀ → ⊥) → except r₀ kept k r ≡ kept k r
unfolding except
except-other k r r₀ kept o = rw (ne_eqb r r₀ o)

-- some and none
pub any_some : {A : Type 0} (xs : List A) → (xs ≡ [] → ⊥) → any xs ≡ true
unfolding any
any_some [] o = absurd (o refl)
any_some (x ∷ xs) o = refl

pub none_any : {A : Type 0} (xs : List A) → any xs ≡ false → xs ≡ []
unfolding any
none_any [] e = refl
none_any (x ∷ xs) e = absurd (both_ways true e refl)

pub in-any : (k : ℕ) (ks : List ℕ) → is_in k ks ≡ true → any ks ≡ true
unfolding is_in any
in-any k [] e = e
in-any k (j ∷ ks) e = refl

pub first_of : (ks : List ℕ) → any ks ≡ true → (k : ℕ) × (is_in k ks ≡ true)
unfolding any is_in
first_of [] e = absurd (both_ways false refl e)
first_of (k ∷ ks) e = (k, or_left _ _ (eq-eqb k k refl))

-- whether all came in, and what
pub complete-each : {A : Type 0} (r k : ℕ) (ks : List ℕ) (kept : ℕ → ℕ → List A) → complete r ks kept ≡ true → is_in k ks ≡ true → kept k r ≡ [] → ⊥
unfolding complete is_in any
complete-each r k [] kept c h e = both_ways false refl h
complete-each r k (j ∷ ks) kept c h e =
    let a = and_parts (any (kept j r)) _ c in
    elim (or_cases (eqb k j) _ h) [
      | inl t ↦ both_ways (any (kept j r)) (ap any (rw (eqb-true k j t) at e)) a.0
      | inr t ↦ complete-each r k ks kept a.1 t e
    ]

pub complete-from : {A : Type 0} (r : ℕ) (ks : List ℕ) (kept : ℕ → ℕ → List A) → ((k : ℕ) → is_in k ks ≡ true → kept k r ≡ [] → ⊥) → complete r ks kept ≡ true
unfolding complete is_in
complete-from r [] kept h = refl
complete-from r (j ∷ ks) kept h = and_from _ _ (any_some _ (h j (or_left _ _ (eq-eqb j j refl)))) (complete-from r ks kept (λ k t. h k (or_right _ _ t)))

pub complete-like : {A : Type 0} (r : ℕ) (ks : List ℕ) (one two : ℕ → ℕ → List A) → ((k : ℕ) → one k r ≡ two k r) → complete r ks one ≡ complete r ks two
unfolding complete
complete-like r [] one two h = refl
complete-like r (k ∷ ks) one two h = ap₂ (λ x y. any x && y) (h k) (complete-like r ks one two h)

pub came-like : {A : Type 0} (r : ℕ) (ks : List ℕ) (one two : ℕ → ℕ → List A) → ((k : ℕ) → one k r ≡ two k r) → came_in r ks one ≡ came_in r ks two
unfolding came_in
came-like r [] one two h = refl
came-like r (k ∷ ks) one two h = ap₂ (λ x y. x ++ y) (h k) (came-like r ks one two h)

-- the numbers of the links at a node are those of the links that have it at that end
module _ (end : Link → ℕ) (p : ℕ) where
  pub numbers-in : (ls : List Link) (j i k : ℕ) → k ≡ j + i → i < length ls → end (link_at ls i) ≡ p → is_in k (numbers end p j ls) ≡ true
  unfolding numbers is_in
  numbers-in [] j i k e l h = absurd (omega arith)
  numbers-in (x ∷ ls) j zero k e l h = rw (eq-eqb p (end x) (sym h)) (or_left _ _ (eq-eqb k j (omega arith)))
  numbers-in (x ∷ ls) j (suc i) k e l h =
      let r : is_in k (numbers end p (j + 1) ls) ≡ true = numbers-in ls (j + 1) i k (omega arith) (omega arith) h in
      elim (eqb p (end x)) as (λ v. is_in k (cond v (j ∷ numbers end p (j + 1) ls) (numbers end p (j + 1) ls)) ≡ true) [ true ↦ or_right _ _ r | false ↦ r ]

  abbrev pub At : List Link → ℕ → ℕ → Type 0
  At ls j k = (i : ℕ) × (k ≡ j + i) × (i < length ls) × (end (link_at ls i) ≡ p)

  at-later : (x : Link) (ls : List Link) (j k : ℕ) → At ls (j + 1) k → At (x ∷ ls) j k
  at-later x ls j k a = (suc a.0, omega arith, omega arith, a.3)

  pub numbers-at : (ls : List Link) (j k : ℕ) → is_in k (numbers end p j ls) ≡ true → At ls j k
  unfolding numbers is_in
  numbers-at [] j k e = absurd (both_ways false refl e)
  numbers-at (x ∷ ls) j k e = go (cases_eq p (end x)) (numbers-at ls (j + 1) k)
    where
      go : (p ≡ end x) ⊎ (p ≡ end x → ⊥) → (is_in k (numbers end p (j + 1) ls) ≡ true → At ls (j + 1) k) → At (x ∷ ls) j k
      go (inl h) r = elim (or_cases (eqb k j) _ (rw (eq-eqb p (end x) h) at e)) [ inl t ↦ (0, omega (arith, eqb-true k j t), omega arith, sym h) | inr t ↦ at-later x ls j k (r t) ]
      go (inr h) r = at-later x ls j k (r (rw (ne_eqb p (end x) h) at e))

  pub numbers-distinct : (ls : List Link) (j : ℕ) → Distinct (numbers end p j ls)
  unfolding numbers
  numbers-distinct [] j = tt
  numbers-distinct (x ∷ ls) j =
      let r : Distinct (numbers end p (j + 1) ls) = numbers-distinct ls (j + 1) in
      let a : is_in j (numbers end p (j + 1) ls) ≡ false = elim (cases_Bool (is_in j (numbers end p (j + 1) ls))) [ inl t ↦ (let b = numbers-at ls (j + 1) j t in absurd (omega arith)) | inr t ↦ t ] in
      elim (eqb p (end x)) as (λ v. Distinct (cond v (j ∷ numbers end p (j + 1) ls) (numbers end p (j + 1) ls))) [ true ↦ (a, r) | false ↦ r ]

-- what is sent
module _ {A : Type 0} (f : ℕ → A → Packet) (bs : A) where
  pub send-round : (k r r₀ : ℕ) (ks : List ℕ) → (r ≡ r₀ → ⊥) → find (send f r₀ bs ks) k r ≡ []
  unfolding find send
  send-round k r r₀ [] o = refl
  send-round k r r₀ (j ∷ ks) o = find-other k r _ (send f r₀ bs ks) (λ _ d. o d) ∙ send-round k r r₀ ks o

  pub send-not : (k r r₀ : ℕ) (ks : List ℕ) → is_in k ks ≡ false → find (send f r₀ bs ks) k r ≡ []
  unfolding find send is_in
  send-not k r r₀ [] o = refl
  send-not k r r₀ (j ∷ ks) o =
      let a = or_parts (eqb k j) (is_in k ks) o in
      find-other k r _ (send f r₀ bs ks) (λ d _. eqb-false k j a.0 d) ∙ send-not k r r₀ ks a.1

  pub send-one : (k r : ℕ) (ks : List ℕ) → Distinct ks → is_in k ks ≡ true → find (send f r bs ks) k r ≡ f k bs ∷ []
  unfolding send is_in
  send-one k r [] d h = absurd (both_ways false refl h)
  send-one k r (j ∷ ks) d h = go (cases_eq k j) (send-one k r ks d.1)
    where
      go : (k ≡ j) ⊎ (k ≡ j → ⊥) → (is_in k ks ≡ true → find (send f r bs ks) k r ≡ f k bs ∷ []) → find (send f r bs (j ∷ ks)) k r ≡ f k bs ∷ []
      go (inl e) ih = rw e (find-same (record { link = j; round = r; content = f j bs }) _ ∙ ap (λ l. f j bs ∷ l) (send-not j r r ks d.0))
      go (inr e) ih = find-other k r _ _ (λ t _. e t) ∙ ih (elim (or_cases (eqb k j) _ h) [ inl t ↦ absurd (e (eqb-true k j t)) | inr t ↦ t ])
