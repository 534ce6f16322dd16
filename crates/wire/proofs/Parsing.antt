-- Readers of items: what they tell depends only on the bytes that they took, or, of a fault, on those up to the end of the item.
use Rattle.std.proofs.Common.{◌≡◌, ℕ, ◌+◌, ◌<◌, ◌≤◌, min, List, [], ◌∷◌, length, take, drop, sym, refl, ap, ◌∙◌, inl, inr, arith}
use Rattle.std.proofs.lemmas.List.{length-take, take_all, take-take, drop-take, drop-drop}
use Rattle.std.proofs.lemmas.Bool.{cases_lt, cases_eq, lt-ltb, le-ltb, eq-eqb, ne_eqb}
use Rattle.wire.specs.Format.{Read, got, fault, Parser, and_then, item, before, each}

-- LISTS THAT AGREE

-- lists that agree further than one of them goes are the same
pub agree-short : (n : ℕ) (cs bs : List ℕ) → length bs < n → take n cs ≡ take n bs → cs ≡ bs
agree-short n cs bs h a =
    let m : min n (length cs) ≡ min n (length bs) = sym (length-take n cs) ∙ ap length a ∙ length-take n bs in
    sym (take_all n cs (omega arith)) ∙ a ∙ take_all n bs (omega arith)

pub agree-long : (n : ℕ) (cs bs : List ℕ) → n ≤ length bs → take n cs ≡ take n bs → n ≤ length cs
agree-long n cs bs h a =
    let m : min n (length cs) ≡ min n (length bs) = sym (length-take n cs) ∙ ap length a ∙ length-take n bs in
    omega arith

pub agree_less : (n d : ℕ) (cs bs : List ℕ) → take (n + d) cs ≡ take (n + d) bs → take n cs ≡ take n bs
agree_less n d cs bs a = sym (take-take n (n + d) cs (omega arith)) ∙ ap (take n) a ∙ take-take n (n + d) bs (omega arith)

pub agree-drop : (n d : ℕ) (cs bs : List ℕ) → take (n + d) cs ≡ take (n + d) bs → take d (drop n cs) ≡ take d (drop n bs)
agree-drop n d cs bs a = sym (drop-take n d cs) ∙ ap (drop n) a ∙ drop-take n d bs

-- ITEMS

pub item-short : {A : Type 0} (n number : ℕ) (x : A) (at : ℕ) (bs : List ℕ) → length bs < n → item n number x at bs ≡ fault 1 at (at + n)
unfolding item
item-short n number x at bs h = rw (lt-ltb (length bs) n h)

pub item-good : {A : Type 0} (n number : ℕ) (x : A) (at : ℕ) (bs : List ℕ) → n ≤ length bs → number ≡ 0 → item n number x at bs ≡ got x (at + n) (drop n bs)
unfolding item
item-good n number x at bs h e = rw (le-ltb (length bs) n h, eq-eqb number 0 e)

pub item-bad : {A : Type 0} (n number : ℕ) (x : A) (at : ℕ) (bs : List ℕ) → n ≤ length bs → (number ≡ 0 → ⊥) → item n number x at bs ≡ fault number at (at + n)
unfolding item
item-bad n number x at bs h e = rw (le-ltb (length bs) n h, ne_eqb number 0 e)

-- a fault is no value
pub not-got : {A : Type 0} {x : A} {number b e at : ℕ} {rest : List ℕ} → ◌≡◌ {A = Read A} (fault number b e) (got x at rest) → ⊥
not-got p = let z : ◌≡◌ {A = ℕ} 0 1 = cc in omega arith

pub record Took {A : Type 0} (n number : ℕ) (x : A) (at : ℕ) (bs : List ℕ) (y : A) (at₁ : ℕ) (rest : List ℕ) : Type 0 where
  pub long : n ≤ length bs
  pub good : number ≡ 0
  pub is : x ≡ y
  pub moved : at₁ ≡ at + n
  pub left : rest ≡ drop n bs

pub same-got : {A : Type 0} (x y : A) (at at₁ : ℕ) (rest rest₁ : List ℕ) → ◌≡◌ {A = Read A} (got x at rest) (got y at₁ rest₁) → (x ≡ y) × (at₁ ≡ at) × (rest₁ ≡ rest)
same-got {A = A} x y at at₁ rest rest₁ e = (ap value e, ap place (sym e), ap left (sym e))
  where
    value : Read A → A
    value (got z b r) = z
    value (fault n b e') = x

    place : Read A → ℕ
    place (got z b r) = b
    place (fault n b e') = 0

    left : Read A → List ℕ
    left (got z b r) = r
    left (fault n b e') = []

pub item-took : {A : Type 0} (n number : ℕ) (x : A) (at : ℕ) (bs : List ℕ) (y : A) (at₁ : ℕ) (rest : List ℕ) → item n number x at bs ≡ got y at₁ rest → Took n number x at bs y at₁ rest
item-took n number x at bs y at₁ rest e =
    elim (cases_lt (length bs) n) [
      | inl h ↦ absurd (not-got (sym (item-short n number x at bs h) ∙ e))
      | inr h ↦ elim (cases_eq number 0) [
        | inl z ↦ let s = same-got x y (at + n) at₁ (drop n bs) rest (sym (item-good n number x at bs h z) ∙ e) in record { long = h; good = z; is = s.0; moved = s.1; left = s.2 }
        | inr z ↦ absurd (not-got (sym (item-bad n number x at bs h z) ∙ e))
      ]
    ]

-- WHAT IT DEPENDS ON

abbrev pub Near : {A : Type 0} → Parser A → (at : ℕ) (bs : List ℕ) → Read A → Type 0
Near P at bs (got x at₁ rest) = (n : ℕ) × (at₁ ≡ at + n) × (rest ≡ drop n bs) × ((cs : List ℕ) → take n cs ≡ take n bs → P at cs ≡ got x at₁ (drop n cs))
Near P at bs (fault number b e) = (n : ℕ) × (e ≡ at + n) × ((at ≤ b) × (b ≤ e)) × ((cs : List ℕ) → take n cs ≡ take n bs → P at cs ≡ fault number b e)

abbrev pub Lawful : {A : Type 0} → Parser A → Type 0
Lawful P = (at : ℕ) (bs : List ℕ) → Near P at bs (P at bs)

-- an item whose length, fault and value are told by its own bytes
pub item-lawful : {A : Type 0} (n number : List ℕ → ℕ) (x : List ℕ → A)
    → ((bs cs : List ℕ) → n bs ≤ length bs → take (n bs) cs ≡ take (n bs) bs → (n cs ≡ n bs) × (number cs ≡ number bs) × (x cs ≡ x bs))
    → Lawful (λ at bs. item (n bs) (number bs) (x bs) at bs)
item-lawful n number x told at bs =
    elim (cases_lt (length bs) (n bs)) [
      | inl h ↦ rw (item-short (n bs) (number bs) (x bs) at bs h) (n bs, refl, (omega arith, omega arith), λ cs a. let e : cs ≡ bs = agree-short (n bs) cs bs h a in ap (λ l. item (n l) (number l) (x l) at l) e ∙ item-short (n bs) (number bs) (x bs) at bs h)
      | inr h ↦ elim (cases_eq (number bs) 0) [
        | inl z ↦ rw (item-good (n bs) (number bs) (x bs) at bs h z) (n bs, refl, refl, λ cs a. let s = told bs cs h a in rw (s.0, s.1, s.2) (item-good (n bs) (number bs) (x bs) at cs (agree-long (n bs) cs bs h a) z))
        | inr z ↦ rw (item-bad (n bs) (number bs) (x bs) at bs h z) (n bs, refl, (omega arith, omega arith), λ cs a. let s = told bs cs h a in rw (s.0, s.1, s.2) (item-bad (n bs) (number bs) (x bs) at cs (agree-long (n bs) cs bs h a) z))
      ]
    ]

pub got-lawful : {A : Type 0} (x : A) → Lawful (λ at bs. got x at bs)
got-lawful x at bs = (0, omega arith, refl, λ cs a. refl)

module _ {A B : Type 0} (P : Parser A) (go : A → Parser B) (law : (x : A) → Lawful (go x)) where
  abbrev Q : Parser B
  Q at bs = and_then (P at bs) go

  -- the second reads behind the first
  second : (at : ℕ) (bs : List ℕ) (x : A) (at₁ : ℕ) (rest : List ℕ) → Near P at bs (got x at₁ rest) → (r : Read B) → Near (go x) at₁ rest r → Near Q at bs r
  second at bs x at₁ rest (n, moved, left, same) (got y at₂ rest₂) (d, moved₂, left₂, same₂) = (
    n + d,
    omega arith,
    left₂ ∙ ap (drop d) left ∙ drop-drop d n bs,
    λ cs a.
        ap (λ r. and_then r go) (same cs (agree_less n d cs bs a))
        ∙ same₂ (drop n cs) (agree-drop n d cs bs a ∙ ap (take d) (sym left))
        ∙ ap (got y at₂) (drop-drop d n cs),
  )
  second at bs x at₁ rest (n, moved, left, same) (fault number b e) (d, moved₂, low, same₂) = (
    n + d,
    omega arith,
    (omega (arith, low.0), low.1),
    λ cs a. ap (λ r. and_then r go) (same cs (agree_less n d cs bs a)) ∙ same₂ (drop n cs) (agree-drop n d cs bs a ∙ ap (take d) (sym left)),
  )

  first : (at : ℕ) (bs : List ℕ) (r : Read A) → Near P at bs r → Near Q at bs (and_then r go)
  first at bs (got x at₁ rest) near = second at bs x at₁ rest near (go x at₁ rest) (law x at₁ rest)
  first at bs (fault number b e) (n, moved, low, same) = (n, moved, low, λ cs a. ap (λ r. and_then r go) (same cs a))

  pub then-lawful : Lawful P → Lawful Q
  then-lawful p at bs = first at bs (P at bs) (p at bs)

pub each-lawful : {X A : Type 0} (parse : X → Parser A) → ((x : X) → Lawful (parse x)) → (xs : List X) → Lawful (each parse xs)
unfolding each
each-lawful parse law [] = got-lawful []
each-lawful parse law (x ∷ xs) =
    then-lawful (parse x) (λ a at₁ rest. before a (each parse xs at₁ rest))
    (λ a. then-lawful (each parse xs) (λ as' at rest. got (a ∷ as') at rest) (λ as'. got-lawful (a ∷ as')) (each-lawful parse law xs))
    (law x)
