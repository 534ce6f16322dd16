-- Lists out of which a node is put together, and what a plan that fits says of them.
use Rattle.std.proofs.Common.{◌≡◌, ℕ, zero, suc, ◌+◌, ◌*◌, ◌<◌, ◌≤◌, Bool, true, false, cond, eqb, ◌⊎◌, List, [], ◌∷◌, ◌++◌, map, length, get_or, take, vec_items, vec_len, Vec, Some, None, Option, MatchOption, unwrap_or, sym, refl, ap, ◌∙◌, subst, ap₂, inl, inr, one-mul, mul-one, arith}
use Rattle.std.specs.List.{AllByRecursion, AllZip}
use Rattle.std.specs.declared.alloc.Global.{Global}
use Rattle.std.proofs.ByRecursion.{All-get_or}
use Rattle.std.proofs.lemmas.List.{get_or-map, length-map, map-append, take_more, map_more, length-take-le}
use Rattle.std.proofs.lemmas.Bool.{cases_Bool, cases_eq, eq-eqb, ne_eqb, or_left, or_right, or_parts}
use Rattle.gf.proofs.Fields.{byte_field}
use Rattle.linear.specs.Vectors.{row as row_at}
use Rattle.linear.specs.Reading.{read_by}
use Rattle.network.specs.Network.{Link, Multicast, link_at, Rising, Accepted}
use Rattle.network.specs.Links.{link_of, links_of}
use Rattle.network.specs.declared.net.Link.{Link as Joined}
use Rattle.network_cuts.specs.Scheme.{Packet}
use Rattle.wire.specs.Plan.{Reader, served, feeding, hand_at, Comes, Matched, Suits, Fits}
use Rattle.relay_theory.specs.Relay.{is_in, numbers}
use Rattle.relay_theory.proofs.Finds.{numbers-in, numbers-at}
use Rattle.run_theory.specs.Run.{ins, outs}
use Rattle.delivery_theory.specs.Work.{place, read_from, reader_for}
use Rattle.relay_node.specs.Assembly.{passing, picked, current}
use Rattle.relay_node.specs.Nodes.{width, entries}
use Rattle.relay_node.specs.Values.{coefficients_of}
use Rattle.relay_node.specs.declared.node.Out.{Out}
use Rattle.relay_memory.proofs.Memory.{in-at, at_in, place_at}

-- WHERE A NUMBER STANDS

passing-more : {A : Type 0} (test : A → Bool) (k : ℕ) (xs : List A) (x : A) → passing test k (xs ++ x ∷ []) ≡ passing test k xs ++ cond (test x) ((k + length xs) ∷ []) []
unfolding passing
passing-more test k [] x = let z : k + 0 ≡ k = omega arith in rw z refl
passing-more test k (y ∷ xs) x =
    let z : k + 1 + length xs ≡ k + suc (length xs) = omega arith in
    let r : passing test (k + 1) (xs ++ x ∷ []) ≡ passing test (k + 1) xs ++ cond (test x) ((k + suc (length xs)) ∷ []) [] = rw z at (passing-more test (k + 1) xs x) in
    elim (test y) as (λ v. cond v (k ∷ passing test (k + 1) (xs ++ x ∷ [])) (passing test (k + 1) (xs ++ x ∷ [])) ≡ cond v (k ∷ passing test (k + 1) xs) (passing test (k + 1) xs) ++ cond (test x) ((k + suc (length xs)) ∷ []) []) [
      | true ↦ ap (λ l. k ∷ l) r
      | false ↦ r
    ]

-- the links at a node, by a test of one end
pub passing-numbers : (end : Link → ℕ) (p k : ℕ) (ls : List Joined) → passing (λ l. eqb p (end (link_of l))) k ls ≡ numbers end p k (links_of ls)
unfolding passing numbers
passing-numbers end p k [] = refl
passing-numbers end p k (l ∷ ls) = ap (λ ks. cond (eqb p (end (link_of l))) (k ∷ ks) ks) (passing-numbers end p (k + 1) ls)

-- the links at a node rise, and there are no more of them than links
module _ (end : Link → ℕ) (p : ℕ) where
  numbers-low : (ls : List Link) (k i : ℕ) → i < length (numbers end p k ls) → k ≤ get_or (numbers end p k ls) i 0
  numbers-low ls k i l = let a = numbers-at end p ls k (get_or (numbers end p k ls) i 0) (in-at _ (numbers end p k ls) i l refl) in omega (arith, a.1)

  pub numbers-few : (ls : List Link) (k : ℕ) → length (numbers end p k ls) ≤ length ls
  unfolding numbers
  numbers-few [] k = omega arith
  numbers-few (x ∷ ls) k =
      let r : length (numbers end p (k + 1) ls) ≤ length ls = numbers-few ls (k + 1) in
      elim (eqb p (end x)) as (λ v. length (cond v (k ∷ numbers end p (k + 1) ls) (numbers end p (k + 1) ls)) ≤ suc (length ls)) [ true ↦ omega arith | false ↦ omega arith ]

  cons-rising : (k : ℕ) (ks : List ℕ) → Rising (length ks) (λ i. get_or ks i 0) → ((i : ℕ) → i < length ks → k < get_or ks i 0) → Rising (suc (length ks)) (λ i. get_or (k ∷ ks) i 0)
  cons-rising k ks r low i zero a b = absurd (omega arith)
  cons-rising k ks r low zero (suc j) a b = low j (omega arith)
  cons-rising k ks r low (suc i) (suc j) a b = r i j (omega arith) (omega arith)

  pub numbers-rising : (ls : List Link) (k : ℕ) → Rising (length (numbers end p k ls)) (λ i. get_or (numbers end p k ls) i 0)
  unfolding numbers
  numbers-rising [] k = λ i j a b. absurd (omega arith)
  numbers-rising (x ∷ ls) k =
      let r : Rising (length (numbers end p (k + 1) ls)) (λ i. get_or (numbers end p (k + 1) ls) i 0) = numbers-rising ls (k + 1) in
      let low : (i : ℕ) → i < length (numbers end p (k + 1) ls) → k < get_or (numbers end p (k + 1) ls) i 0 = λ i l. omega (arith, numbers-low ls (k + 1) i l) in
      elim (eqb p (end x)) as (λ v. Rising (length (cond v (k ∷ numbers end p (k + 1) ls) (numbers end p (k + 1) ls))) (λ i. get_or (cond v (k ∷ numbers end p (k + 1) ls) (numbers end p (k + 1) ls)) i 0)) [
        | true ↦ cons-rising k (numbers end p (k + 1) ls) r low
        | false ↦ r
      ]

pub place_none : (k : ℕ) (ks : List ℕ) → is_in k ks ≡ false → place k ks ≡ length ks
unfolding is_in place
place_none k [] h = refl
place_none k (j ∷ ks) h =
    let o = or_parts (eqb k j) _ h in
    let r : place k ks ≡ length ks = place_none k ks o.1 in
    rw o.0 (omega arith)

-- the coefficients of a link
coefficients-place : (k : ℕ) (os : List Out) → coefficients_of k os ≡ get_or (map (λ o. vec_items o.coefficients) os) (place k (map (λ o. o.link) os)) []
unfolding coefficients_of place
coefficients-place k [] = refl
coefficients-place k (o ∷ os) =
    let n : 1 + place k (map (λ o. o.link) os) ≡ suc (place k (map (λ o. o.link) os)) = omega arith in
    elim (eqb k o.link) as (λ b. cond b (vec_items o.coefficients) (coefficients_of k os) ≡ get_or (vec_items o.coefficients ∷ map (λ o. vec_items o.coefficients) os) (cond b 0 (1 + place k (map (λ o. o.link) os))) []) [
      | true ↦ refl
      | false ↦ rw n (coefficients-place k os)
    ]

-- where links rise, the coefficients of each are its own
pub coefficients-at : (os : List Out) → Rising (length os) (λ i. get_or (map (λ o. o.link) os) i 0) → (i : ℕ) (o : Out) → i < length os → o ≡ get_or os i o → coefficients_of o.link os ≡ vec_items o.coefficients
coefficients-at os r i o l e =
    let k : get_or (map (λ o. o.link) os) i 0 ≡ o.link = get_or-map (λ o. o.link) os i o 0 l ∙ ap (λ o. o.link) (sym e) in
    let q : place o.link (map (λ o. o.link) os) ≡ i = place_at (map (λ o. o.link) os) (λ a b h m. r a b h (omega (arith, length-map os (λ o. o.link)))) o.link i (omega (arith, length-map os (λ o. o.link))) k in
    coefficients-place o.link os ∙ ap (λ j. get_or (map (λ o. vec_items o.coefficients) os) j []) q ∙ get_or-map (λ o. vec_items o.coefficients) os i o [] l ∙ ap (λ o. vec_items o.coefficients) (sym e)

-- WHAT FITS

matched-long : {A B : Type 0} (R : A → B → Type 0) (xs : List A) (ys : List B) → Matched R xs ys → length xs ≡ length ys
matched-long R [] [] h = refl
matched-long R [] (y ∷ ys) h = absurd h
matched-long R (x ∷ xs) [] h = absurd h
matched-long R (x ∷ xs) (y ∷ ys) h = ap suc (matched-long R xs ys h.1)

matched-at : {A B : Type 0} (R : A → B → Type 0) (xs : List A) (ys : List B) (d : A) (e : B) → Matched R xs ys → (i : ℕ) → i < length xs → R (get_or xs i d) (get_or ys i e)
matched-at R [] ys d e h i l = absurd (omega arith)
matched-at R (x ∷ xs) [] d e h i l = absurd h
matched-at R (x ∷ xs) (y ∷ ys) d e h zero l = h.0
matched-at R (x ∷ xs) (y ∷ ys) d e h (suc i) l = matched-at R xs ys d e h.1 i (omega arith)

abbrev pub none : Reader
none = record { links = []; rows = [] }

pub reader-none : (p : ℕ) (qs : List ℕ) (rs : List Reader) → is_in p qs ≡ false → reader_for p qs rs ≡ none
unfolding reader_for is_in
reader-none p [] rs h = refl
reader-none p (q ∷ qs) [] h = refl
reader-none p (q ∷ qs) (r ∷ rs) h = let o = or_parts (eqb p q) _ h in rw o.0 (reader-none p qs rs o.1)

pub reader_at : (p : ℕ) (qs : List ℕ) (rs : List Reader) (e : Reader) → length qs ≡ length rs → place p qs < length qs → reader_for p qs rs ≡ get_or rs (place p qs) e
unfolding reader_for place
reader_at p [] rs e s l = absurd (omega arith)
reader_at p (q ∷ qs) [] e s l = absurd (omega arith)
reader_at p (q ∷ qs) (r ∷ rs) e s l = go (cases_eq p q) (reader_at p qs rs e)
  where
    go : (p ≡ q) ⊎ (p ≡ q → ⊥) → (length qs ≡ length rs → place p qs < length qs → reader_for p qs rs ≡ get_or rs (place p qs) e) → reader_for p (q ∷ qs) (r ∷ rs) ≡ get_or (r ∷ rs) (place p (q ∷ qs)) e
    go (inl h) ih = rw (eq-eqb p q h) refl
    go (inr h) ih =
        let n : 1 + place p qs ≡ suc (place p qs) = omega arith in
        let m : place p qs < length qs = omega (arith, subst (λ v. cond v 0 (1 + place p qs) < suc (length qs)) (ne_eqb p q h) l) in
        rw (ne_eqb p q h, n) (ih (omega arith) m)

feeding-long : (p k : ℕ) (ls : List Link) → feeding p ls ≡ length (numbers (λ l. l.to) p k ls)
unfolding feeding numbers
feeding-long p k [] = refl
feeding-long p k (l ∷ ls) =
    let r : feeding p ls ≡ length (numbers (λ l. l.to) p (k + 1) ls) = feeding-long p (k + 1) ls in
    elim (eqb p l.to) as (λ v. cond v 1 0 + feeding p ls ≡ length (cond v (k ∷ numbers (λ l. l.to) p (k + 1) ls) (numbers (λ l. l.to) p (k + 1) ls))) [ true ↦ omega arith | false ↦ omega arith ]

-- a net, and a plan that fits it
module _ (m : Multicast) (cs : List (List ℕ)) (rs : List Reader) (fits : Fits m (served cs rs)) (good : Accepted m) (p : ℕ) where
  abbrev ls : List Link
  ls = m.network.links

  abbrev pub at_hand : ℕ
  at_hand = length (entries m p) * width m p

  -- as many packets are at hand as come in
  hand-is : hand_at m p ≡ length (entries m p) * width m p
  hand-is =
      elim (cases_eq p 0) [
        | inl e ↦ rw (eq-eqb p 0 e) (sym (one-mul m.rate))
        | inr e ↦ rw (ne_eqb p 0 e) (feeding-long p 0 ls ∙ sym (mul-one (length (ins m.network p))))
      ]

  many : length cs ≡ length ls
  many = sym (length-map cs length) ∙ ap length fits.0 ∙ length-map ls (λ l. hand_at m l.from)

  row-long : (k : ℕ) → k < length ls → (link_at ls k).from ≡ p → length (row_at cs k) ≡ length (entries m p) * width m p
  row-long k l e =
      sym (get_or-map length cs k [] 0 (omega (arith, many))) ∙ ap (λ ns. get_or ns k 0) fits.0
      ∙ get_or-map (λ l. hand_at m l.from) ls k (record { from = 0; to = 0 }) 0 l ∙ ap (hand_at m) e ∙ hand-is

  out_at : (k : ℕ) → is_in k (outs m.network p) ≡ true → (k < length ls) × ((link_at ls k).from ≡ p)
  out_at k h =
      let a = numbers-at (λ l. l.from) p ls 0 k h in
      let e : k ≡ a.0 = omega (arith, a.1) in
      (omega (arith, a.2), ap (λ i. (link_at ls i).from) e ∙ a.3)

  pub out_below : (i : ℕ) → i < length (outs m.network p) → get_or (outs m.network p) i 0 < length cs
  out_below i l = omega (arith, many, (out_at _ (in-at _ (outs m.network p) i l refl)).0)

  all-picked : (ks : List ℕ) → ((k : ℕ) → is_in k ks ≡ true → length (row_at cs k) ≡ length (entries m p) * width m p) → AllByRecursion (λ q. length q ≡ length (entries m p) * width m p) (picked cs ks)
  unfolding is_in
  all-picked [] h = tt
  all-picked (k ∷ ks) h = (h k (or_left _ _ (eq-eqb k k refl)), all-picked ks (λ j t. h j (or_right _ _ t)))

  rows_long : AllByRecursion (λ q. length q ≡ length (entries m p) * width m p) (picked cs (outs m.network p))
  rows_long = all-picked (outs m.network p) (λ k h. let a = out_at k h in row-long k a.0 a.1)

  -- the links that go out carry what the plan says
  module _ (os : List Out) (go : map (λ o. o.link) os ≡ outs m.network p) (coeffs : map (λ o. vec_items o.coefficients) os ≡ picked cs (outs m.network p)) where
    pub coded : (i : ℕ) (d : Out) → i < length os → vec_len (get_or os i d).coefficients ≡ length (entries m p) * width m p
    coded i d l =
        let n : i < length (picked cs (outs m.network p)) = omega (arith, ap length coeffs, length-map os (λ o. vec_items o.coefficients)) in
        (get_or os i d).coefficients.ok.0 ∙ ap length (sym (get_or-map (λ o. vec_items o.coefficients) os i d [] l) ∙ ap (λ rows. get_or rows i []) coeffs)
        ∙ All-get_or (λ q. length q ≡ length (entries m p) * width m p) (picked cs (outs m.network p)) i [] n rows_long

    pub sends : (k : ℕ) → is_in k (outs m.network p) ≡ true → coefficients_of k os ≡ row_at cs k
    sends k h =
        let a = at_in k (outs m.network p) h in
        coefficients-place k os
        ∙ ap₂ (λ rows ks. get_or rows (place k ks) []) coeffs go
        ∙ get_or-map (λ k. row_at cs k) (outs m.network p) (place k (outs m.network p)) 0 [] a.0 ∙ ap (row_at cs) a.1

  -- what the receiver there reads by
  abbrev pub reader : Reader
  reader = reader_for p m.receivers rs

  abbrev pub standing : List ℕ
  standing = current (ins m.network p) reader.links

  pub level-readers : length m.receivers ≡ length rs
  level-readers = matched-long _ m.receivers rs fits.1

  suits : (h : ℕ) × Suits ls h p (reader_for p m.receivers rs)
  suits =
      elim (cases_Bool (is_in p m.receivers)) [
        | inl t ↦
            let a = at_in p m.receivers t in (
              m.rate,
              subst (Suits ls m.rate p) (sym (reader_at p m.receivers rs none level-readers a.0))
                  (subst (λ q. Suits ls m.rate q (get_or rs (place p m.receivers) none)) a.1 (matched-at (Suits ls m.rate) m.receivers rs 0 none fits.1 (place p m.receivers) a.0)),
            )
        | inr t ↦ (0, subst (Suits ls 0 p) (sym (reader-none p m.receivers rs t)) (record { many = refl; lead = tt; square = refl; long = tt }))
      ]

  standing-long : length standing ≡ suits.0
  standing-long = length-map reader.links (λ k. place k (ins m.network p)) ∙ suits.1.many

  pub within : (i : ℕ) → i < length standing → get_or standing i 0 < length (entries m p) * width m p
  within i l =
      let n : i < length reader.links = omega (arith, length-map reader.links (λ k. place k (ins m.network p))) in
      let k : ℕ = get_or reader.links i 0 in
      let c : Comes ls p k = All-get_or (Comes ls p) reader.links i 0 n suits.1.lead in
      elim (cases_eq p 0) [
        | inl e ↦ absurd ((good.sound.apart k c.0).0 (c.1 ∙ e))
        | inr e ↦
            let a = at_in k (ins m.network p) (numbers-in (λ l. l.to) p ls 0 k k (omega arith) c.0 c.1) in
            rw (ne_eqb p 0 e, get_or-map (λ k. place k (ins m.network p)) reader.links i 0 0 n, mul-one (length (ins m.network p))) a.0
      ]

  -- rs: the rows as the node has them
  module _ (rows : List (Vec ℕ Global)) (e : map vec_items rows ≡ reader.rows) where
    pub square : length rows ≡ length standing
    square = sym (length-map rows vec_items) ∙ ap length e ∙ suits.1.square ∙ sym standing-long

    pub long : (j : ℕ) (d : Vec ℕ Global) → j < length rows → vec_len (get_or rows j d) ≡ length standing
    long j d l =
        let n : j < length reader.rows = omega (arith, ap length e, length-map rows (λ v. vec_items v)) in
        (get_or rows j d).ok.0 ∙ ap length (sym (get_or-map vec_items rows j d [] l) ∙ ap (λ qs. get_or qs j []) e)
        ∙ All-get_or (λ row. length row ≡ suits.0) reader.rows j [] n suits.1.long ∙ sym standing-long

  map-map : (bs : List Packet) (ks : List ℕ) → map (λ i. row_at bs i) (map (λ k. place k (ins m.network p)) ks) ≡ map (λ k. row_at bs (place k (ins m.network p))) ks
  map-map bs [] = refl
  map-map bs (k ∷ ks) = ap (λ l. row_at bs (place k (ins m.network p)) ∷ l) (map-map bs ks)

  pub reads : (bs : List Packet) → read_by byte_field 1024 reader.rows (map (λ i. row_at bs i) standing) ≡ read_from (ins m.network p) (reader_for p m.receivers rs) bs
  reads bs = ap (read_by byte_field 1024 reader.rows) (map-map bs reader.links)

-- where a link stands, or behind all
pub placed : (k : ℕ) (ks : List ℕ) (o : Option ℕ) → MatchOption o (is_in k ks ≡ false) (λ i. (i < length ks) × (get_or ks i 0 ≡ k) × (i ≡ place k ks)) → unwrap_or o (length ks) ≡ place k ks
placed k ks None h = sym (place_none k ks h)
placed k ks (Some i) h = h.2

-- THE LOOPS

pub passing-none : {A : Type 0} (test : A → Bool) (k : ℕ) → passing test k [] ≡ []
unfolding passing
passing-none test k = refl

-- one element more is tested
pub passes-more : {A : Type 0} (test : A → Bool) (xs : List A) (i : ℕ) (x : A) (b : Bool) (old new : List ℕ) → i < length xs → x ≡ get_or xs i x → b ≡ test x → old ≡ passing test 0 (take i xs) → new ≡ old ++ cond b (i ∷ []) [] → new ≡ passing test 0 (take (i + 1) xs)
passes-more test xs i x b old new l is t before e =
    let z : 0 + length (take i xs) ≡ i = omega (arith, length-take-le i xs (omega arith)) in
    e ∙ ap₂ (λ o v. o ++ cond v (i ∷ []) []) before t
    ∙ sym (ap (passing test 0) (take_more xs i x l ∙ ap (λ y. take i xs ++ y ∷ []) (sym is)) ∙ passing-more test 0 (take i xs) x ∙ ap (λ k. passing test 0 (take i xs) ++ cond (test x) (k ∷ []) []) z)

-- rows that are copied
pub copied : (xs ys : List ℕ) → AllZip (λ x y. y ≡ x) xs ys → ys ≡ xs
copied [] [] h = refl
copied [] (y ∷ ys) h = absurd h
copied (x ∷ xs) [] h = absurd h
copied (x ∷ xs) (y ∷ ys) h = ap₂ (λ a b. a ∷ b) h.0 (copied xs ys h.1)

pub rows-copied : (xs ys : List (Vec ℕ Global)) → AllZip (λ v w. AllZip (λ x y. y ≡ x) (vec_items v) (vec_items w) × (vec_len w ≡ vec_len v)) xs ys → map vec_items ys ≡ map vec_items xs
rows-copied [] [] h = refl
rows-copied [] (y ∷ ys) h = absurd h
rows-copied (x ∷ xs) [] h = absurd h
rows-copied (x ∷ xs) (y ∷ ys) h = ap₂ (λ a b. a ∷ b) (copied (vec_items x) (vec_items y) h.0.0) (rows-copied xs ys h.1)

-- one link more goes out
pub goes-more : (rows : List (List ℕ)) (which : List ℕ) (i : ℕ) (old new : List Out) (o : Out) → i < length which → new ≡ old ++ o ∷ []
    → (o.link ≡ get_or which i 0 → map (λ o. o.link) old ≡ take i which → map (λ o. o.link) new ≡ take (i + 1) which)
    × (vec_items o.coefficients ≡ row_at rows (get_or which i 0) → map (λ o. vec_items o.coefficients) old ≡ picked rows (take i which) → map (λ o. vec_items o.coefficients) new ≡ picked rows (take (i + 1) which))
goes-more rows which i old new o l e = (
  λ k h. ap (map (λ o. o.link)) e ∙ map-append (λ o. o.link) old (o ∷ []) ∙ ap₂ (λ ks k. ks ++ k ∷ []) h k ∙ sym (take_more which i 0 l),
  λ k h. ap (map (λ o. vec_items o.coefficients)) e ∙ map-append (λ o. vec_items o.coefficients) old (o ∷ []) ∙ ap₂ (λ ks k. ks ++ k ∷ []) h k ∙ sym (map_more (λ k. row_at rows k) which i 0 l),
)
