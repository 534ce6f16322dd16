-- What loops that read keep: the values so far, and what is left to read. And where memory is wanted.
use Rattle.std.proofs.Common.{◌≡◌, ℕ, zero, suc, ◌+◌, ◌-◌, ◌*◌, ◌<◌, ◌≤◌, cond, eqb, List, [], ◌∷◌, ◌++◌, length, get_or, take, drop, Option, Some, None, Result, Ok, Err, MatchOption, MatchResult, sym, refl, ap, ap₂, ◌∙◌, subst, append_assoc, append-nil, suc-mul, arith}
use Rattle.std.proofs.lemmas.List.{drop_more, drop_all, drop_at, take_at, take-take, drop-take, length-take-le, length-append}
use Rattle.std.specs.Option.{ok_or}
use Rattle.octets.specs.Words.{word_at}
use Rattle.network.specs.Network.{Link, Multicast}
use Rattle.wire.specs.Plan.{Reader, Plan}
use Rattle.wire.specs.Format.{Read, got, fault, Parser, and_then, before, each, link_item, reader_item, words_in, rows_in, all_come, items, end, read_plan}
use Rattle.wire.specs.Values.{Behind, Refuses}
use Rattle.wire.specs.declared.fault.Fault.TheVariants.{Malformed}
use Rattle.wire.specs.declared.fault.ReadError.{ReadError}
use Rattle.wire.specs.declared.fault.ReadError.TheVariants.{Faulty, Memory}
use Rattle.wire.proofs.Parsing.{Near, Lawful, item-took, got-lawful, then-lawful, each-lawful}

abbrev pub after_all : {A : Type 0} → List A → Read (List A) → Read (List A)
after_all xs r = and_then r (λ ys. got (xs ++ ys))

after_none : {A : Type 0} (r : Read (List A)) → r ≡ after_all [] r
after_none (got x at rest) = refl
after_none (fault n b stop) = refl

pub started : {A : Type 0} (xs : List A) (r : Read (List A)) → xs ≡ [] → r ≡ after_all xs r
started xs r e = after_none r ∙ ap (λ l. after_all l r) (sym e)

after_push : {A : Type 0} (xs : List A) (x : A) (r : Read (List A)) → after_all xs (before x r) ≡ after_all (xs ++ x ∷ []) r
after_push xs x (got ys at rest) = ap (λ l. got l at rest) (sym (append_assoc xs (x ∷ []) ys))
after_push xs x (fault n b stop) = refl

module _ {X A : Type 0} (parse : X → Parser A) (xs : List X) where
  -- what is left begins with the next item
  pub unroll : (k at : ℕ) (bs : List ℕ) (x : X) → k < length xs → x ≡ get_or xs k x → each parse (drop k xs) at bs ≡ and_then (parse x at bs) (λ a at₁ rest. before a (each parse (drop (k + 1) xs) at₁ rest))
  unfolding each
  unroll k at bs x h is = ap (λ l. each parse l at bs) (drop_more xs k x h ∙ ap (λ y. y ∷ drop (k + 1) xs) (sym is))

  pub one_more : (whole : Read (List A)) (done : List A) (k at at₁ : ℕ) (bs rest : List ℕ) (x : X) (a : A) → k < length xs → x ≡ get_or xs k x → whole ≡ after_all done (each parse (drop k xs) at bs)
      → parse x at bs ≡ got a at₁ rest → whole ≡ after_all (done ++ a ∷ []) (each parse (drop (k + 1) xs) at₁ rest)
  one_more whole done k at at₁ bs rest x a h is e p =
      e ∙ ap (after_all done) (unroll k at bs x h is ∙ ap (λ r. and_then r (λ a at₁ rest. before a (each parse (drop (k + 1) xs) at₁ rest))) p)
      ∙ after_push done a (each parse (drop (k + 1) xs) at₁ rest)

  pub all_read : (whole : Read (List A)) (done : List A) (k at : ℕ) (bs : List ℕ) → length xs ≤ k → whole ≡ after_all done (each parse (drop k xs) at bs) → whole ≡ got done at bs
  unfolding each
  all_read whole done k at bs h e = e ∙ ap (λ l. after_all done (each parse l at bs)) (drop_all k xs h) ∙ ap (λ l. got l at bs) (append-nil done)

-- WHERE MEMORY IS WANTED

behind-later : {B : Type 0} (P : Parser B) (b at : ℕ) (rest : List ℕ) (r : Read B) → Near P at rest r → b < at → Behind b r
behind-later P b at rest (got x at₁ rest₁) (n, moved, _, _) h = omega arith
behind-later P b at rest (fault number c stop) (n, moved, low, _) h = omega (arith, low.0)

pub behind-then : {A B : Type 0} (go : A → Parser B) → ((x : A) → Lawful (go x)) → (b : ℕ) (r : Read A) → Behind b r → Behind b (and_then r go)
behind-then go law b (got x at rest) h = behind-later (go x) b at rest (go x at rest) (law x at rest) h
behind-then go law b (fault n c stop) h = h

-- a refusal of the first of two is one of both
pub refuses-then : {A B : Type 0} (go : A → Parser B) → ((x : A) → Lawful (go x)) → (e : ReadError) (r : Read A) → Refuses r e → Refuses (and_then r go) e
refuses-then go law (Faulty f at) r t = (t.0, ap (λ s. and_then s go) t.1)
refuses-then go law (Memory at) r t = behind-then go law at r t

-- and so is one of the second, where the first is read
pub refuses-second : {A B : Type 0} (go : A → Parser B) (e : ReadError) (r : Read A) (x : A) (at : ℕ) (rest : List ℕ) → r ≡ got x at rest → Refuses (go x at rest) e → Refuses (and_then r go) e
refuses-second go e r x at rest is t = subst (λ s. Refuses (and_then s go) e) (sym is) t

-- a refusal of the next item is one of the whole
pub one-refused : {X A : Type 0} (parse : X → Parser A) → ((x : X) → Lawful (parse x)) → (xs : List X) (whole : Read (List A)) (done : List A) (k at : ℕ) (bs : List ℕ) (x : X) → k < length xs → x ≡ get_or xs k x
    → whole ≡ after_all done (each parse (drop k xs) at bs) → (e : ReadError) → Refuses (parse x at bs) e → Refuses whole e
one-refused parse law xs whole done k at bs x h is e err t =
    subst (λ r. Refuses r err) (sym (e ∙ ap (after_all done) (unroll parse xs k at bs x h is)))
    (refuses-then (λ ys at rest. got (done ++ ys) at rest) (λ ys. got-lawful (done ++ ys)) err _
    (refuses-then (λ a at₁ rest. before a (each parse (drop (k + 1) xs) at₁ rest))
    (λ a. then-lawful (each parse (drop (k + 1) xs)) (λ ys at rest. got (a ∷ ys) at rest) (λ ys. got-lawful (a ∷ ys)) (each-lawful parse law (drop (k + 1) xs))) err _ t))

-- WHAT A PART TELLS

-- an item that is cut short
pub short-told : {A B : Type 0} (v : Read A) (at : ℕ) (o : Option B) (Q : Type 0) (P : B → Type 0) (e : ReadError)
    → MatchOption o Q P → ok_or o (Faulty Malformed at) ≡ Err e → (Q → (stop : ℕ) × (v ≡ fault 1 at stop)) → Refuses v e
short-told v at None Q P e m r h = let is : Faulty Malformed at ≡ e = cc in subst (Refuses v) is (h m)
short-told v at (Some x) Q P e m r h = absurd (cc)

-- memory that is wanted for the item at `at`
pub memory-told : {A B E : Type 0} (v : Read A) (at : ℕ) (r : Result B E) (e : ReadError) (P : B → Type 0) (Made : E → Type 0)
    → MatchResult r P Made → ((x : B) → P x → ⊥) → ((a : E) → Made a → e ≡ Memory at) → Behind at v → Refuses v e
memory-told v at (Ok x) e P Made r never is h = absurd (never x r)
memory-told v at (Err a) e P Made r never is h = subst (Refuses v) (sym (is a r)) h

-- what a step gave is what it passed on
pub passed-on : {B E : Type 0} (r : Result B E) (y : B) (P : B → Type 0) → MatchResult r P (λ a. ⊥) → ((x : B) → P x → x ≡ y) → r ≡ Ok y
passed-on (Ok x) y P m is = ap Ok (is x m)
passed-on (Err a) y P m is = absurd m

-- ITEMS THAT ARE READ

pub link-grows : (hand at : ℕ) (bs x : List ℕ) (at₁ : ℕ) (rest : List ℕ) → link_item hand at bs ≡ got x at₁ rest → at < at₁
link-grows hand at bs x at₁ rest e = let t = item-took (2 + word_at bs 0) (cond (eqb (word_at bs 0) hand) 0 9) (take (word_at bs 0) (drop 2 bs)) at bs x at₁ rest e in omega (arith, t.moved)

pub reader-grows : (ls : List Link) (h p at : ℕ) (bs : List ℕ) (x : Reader) (at₁ : ℕ) (rest : List ℕ) → 1 ≤ h → reader_item ls h p at bs ≡ got x at₁ rest → at < at₁
reader-grows ls h p at bs x at₁ rest some e =
    let t = item-took (2 * h + h * h) (cond (all_come ls p (words_in h bs)) 0 9) (record { links = words_in h bs; rows = rows_in h h (drop (2 * h) bs) }) at bs x at₁ rest e in omega (arith, t.moved)

rows-front : (h n m : ℕ) (bs : List ℕ) → n * h ≤ m → rows_in h n (take m bs) ≡ rows_in h n bs
unfolding rows_in
rows-front h zero m bs l = refl
rows-front h (suc n) m bs l =
    let more = suc-mul n h in
    let size : m ≡ h + (m - h) = omega arith in
    ap₂ (λ x y. x ∷ y) (take-take h m bs (omega arith)) (ap (rows_in h n) (ap (λ k. drop h (take k bs)) size ∙ drop-take h (m - h) bs) ∙ rows-front h n (m - h) (drop h bs) (omega arith))

-- of the rows of h bytes, those in `done` are read, and the others are what is left
abbrev pub Left : (h : ℕ) (done whole : List (List ℕ)) (rest : List ℕ) → Type 0
Left h done whole rest = (k : ℕ) × (k * h ≡ length rest) × (done ++ rows_in h k rest ≡ whole)

module _ (h : ℕ) where
  pub rows-begin : (bs : List ℕ) → h * h ≤ length bs → Left h [] (rows_in h h bs) (take (h * h) bs)
  rows-begin bs l = (h, sym (length-take-le (h * h) bs l), rows-front h h (h * h) bs (omega arith))

  pub rows-next : (done whole : List (List ℕ)) (rest x r : List ℕ) → 1 ≤ h → Left h done whole rest → rest ≡ x ++ r → length x ≡ h → Left h (done ++ x ∷ []) whole r
  unfolding rows_in
  rows-next done whole rest x r some (zero, long, is) e size = absurd (let l = ap length e ∙ length-append x r in omega arith)
  rows-next done whole rest x r some (suc k, long, is) e size =
      let l = ap length e ∙ length-append x r in
      let m = suc-mul k h in (
        k,
        omega arith,
        append_assoc done (x ∷ []) (rows_in h k r)
            ∙ ap (λ y. done ++ y) (ap₂ (λ y z. y ∷ rows_in h k z) (sym (take_at x r h size)) (sym (drop_at x r h size)) ∙ ap (λ y. take h y ∷ rows_in h k (drop h y)) (sym e)) ∙ is,
      )

  pub rows-end : (done whole : List (List ℕ)) (rest : List ℕ) → Left h done whole rest → length rest < h → done ≡ whole
  unfolding rows_in
  rows-end done whole rest (zero, long, is) l = sym (append-nil done) ∙ is
  rows-end done whole rest (suc k, long, is) l = absurd (let m = suc-mul k h in omega arith)

-- THE WHOLE

behind-end : (b : ℕ) (r : Read Plan) → Behind b r → Behind b (and_then r end)
behind-end b (got x at []) h = h
behind-end b (got x at (y ∷ rest)) h = h
behind-end b (fault n at stop) h = h

-- a refusal of the items is one of the whole
pub refuses-whole : (m : Multicast) (bs : List ℕ) (e : ReadError) → Refuses (items m 0 bs) e → Refuses (read_plan m bs) e
unfolding read_plan
refuses-whole m bs (Faulty f at) t = (t.0, ap (λ r. and_then r end) t.1)
refuses-whole m bs (Memory at) t = behind-end at (items m 0 bs) t
