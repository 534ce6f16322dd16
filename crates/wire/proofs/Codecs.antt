-- What is written is read back, and what is read is written back: of one item, and of one for each element of a list.
use Rattle.std.proofs.Common.{◌≡◌, ℕ, ◌+◌, ◌<◌, List, [], ◌∷◌, ◌++◌, length, get_or, sym, refl, ap, ◌∙◌, subst, ap₂, append_assoc, arith}
use Rattle.std.specs.List.{flat_map}
use Rattle.std.proofs.lemmas.List.{length-append, get_or-append-add}
use Rattle.wire.specs.Plan.{Matched}
use Rattle.wire.specs.Format.{Read, got, fault, Parser, and_then, before, each}
use Rattle.wire.proofs.Parsing.{not-got, same-got}

-- the numbers of a list are bytes
abbrev pub Small : List ℕ → Type 0
Small bs = (i : ℕ) → get_or bs i 0 < 256

pub small-behind : (p q bs : List ℕ) → bs ≡ p ++ q → Small bs → Small q
small-behind p q bs e s i = rw (sym (get_or-append-add p q i 0), sym e) (s (length p + i))

-- Ok: which values are read
pub record Codec {A : Type 0} (P : Parser A) (write : A → List ℕ) (Ok : A → Type 0) : Type 0 where
  pub back : (x : A) → Ok x → (at : ℕ) (rest : List ℕ) → P at (write x ++ rest) ≡ got x (at + length (write x)) rest
  pub kept : (at : ℕ) (bs : List ℕ) (x : A) (at₁ : ℕ) (rest : List ℕ) → Small bs → P at bs ≡ got x at₁ rest → Ok x × (bs ≡ write x ++ rest)

-- what the first of two reads
pub record Between {A B : Type 0} (r : Read A) (go : A → Parser B) (y : B) (at₂ : ℕ) (rest₂ : List ℕ) : Type 0 where
  pub value : A
  pub at : ℕ
  pub rest : List ℕ
  pub first : r ≡ got value at rest
  pub second : go value at rest ≡ got y at₂ rest₂

pub between : {A B : Type 0} (r : Read A) (go : A → Parser B) (y : B) (at₂ : ℕ) (rest₂ : List ℕ) → and_then r go ≡ got y at₂ rest₂ → Between r go y at₂ rest₂
between (got x at rest) go y at₂ rest₂ e = record { value = x; at = at; rest = rest; first = refl; second = e }
between (fault number b e') go y at₂ rest₂ e = absurd (not-got e)

module _ {X A : Type 0} (parse : X → Parser A) (write : A → List ℕ) (Ok : X → A → Type 0) (one : (x : X) → Codec (parse x) write (Ok x)) where
  each_back : (xs : List X) (as' : List A) → Matched Ok xs as' → (at : ℕ) (rest : List ℕ) → each parse xs at (flat_map write as' ++ rest) ≡ got as' (at + length (flat_map write as')) rest
  unfolding each
  each_back [] [] m at rest = ap (λ n. got [] n rest) (omega arith)
  each_back [] (a ∷ as') m at rest = absurd m
  each_back (x ∷ xs) [] m at rest = absurd m
  each_back (x ∷ xs) (a ∷ as') m at rest =
      ap (λ bs. each parse (x ∷ xs) at bs) (append_assoc (write a) (flat_map write as') rest)
      ∙ ap (λ r. and_then r (λ b at₁ rest₁. before b (each parse xs at₁ rest₁))) ((one x).back a m.0 at (flat_map write as' ++ rest))
      ∙ ap (before a) (each_back xs as' m.1 (at + length (write a)) rest)
      ∙ ap (λ n. got (a ∷ as') n rest) (omega (arith, length-append (write a) (flat_map write as')))

  each-kept : (xs : List X) (at : ℕ) (bs : List ℕ) (as' : List A) (at₁ : ℕ) (rest : List ℕ) → Small bs → each parse xs at bs ≡ got as' at₁ rest → Matched Ok xs as' × (bs ≡ flat_map write as' ++ rest)
  unfolding each
  each-kept [] at bs as' at₁ rest s e =
      let p = same-got [] as' at at₁ bs rest e in
      (subst (Matched Ok []) p.0 tt, sym p.2 ∙ ap (λ l. flat_map write l ++ rest) p.0)
  each-kept (x ∷ xs) at bs as' at₁ rest s e =
      let u = between (parse x at bs) (λ b at₁ rest₁. before b (each parse xs at₁ rest₁)) as' at₁ rest e in
      let v = between (each parse xs u.at u.rest) (λ ys. got (u.value ∷ ys)) as' at₁ rest u.second in
      let k = (one x).kept at bs u.value u.at u.rest s u.first in
      let l = each-kept xs u.at u.rest v.value v.at v.rest (small-behind (write u.value) u.rest bs k.1 s) v.first in
      let p = same-got (u.value ∷ v.value) as' v.at at₁ v.rest rest v.second in (
        subst (Matched Ok (x ∷ xs)) p.0 (k.0, l.0),
        k.1 ∙ ap (λ r. write u.value ++ r) l.1 ∙ sym (append_assoc (write u.value) (flat_map write v.value) v.rest)
            ∙ ap₂ (λ ys r. flat_map write ys ++ r) p.0 (sym p.2),
      )

  pub each-codec : (xs : List X) → Codec (each parse xs) (flat_map write) (Matched Ok xs)
  each-codec xs = record { back = each_back xs; kept = each-kept xs }
