-- Whole plans: what is written is read back, what is read fits and is written back byte for byte, and a fault depends on nothing behind its item.
use Rattle.std.proofs.Common.{◌≡◌, ℕ, ◌+◌, ◌≤◌, min, Bool, true, false, cond, ◌&&◌, ◌||◌, eqb, ◌⊎◌, List, [], ◌∷◌, ◌++◌, map, length, get_or, take, drop, sym, refl, ap, ◌∙◌, subst, ap₂, inl, inr, append-nil, arith}
use Rattle.std.specs.List.{flat_map}
use Rattle.std.proofs.lemmas.List.{length-drop, length-take, drop_more}
use Rattle.std.proofs.lemmas.Bool.{and_parts, or_cases, eqb-true, eq-eqb, ne_eqb}
use Rattle.octets.proofs.Locality.{agree_at}
use Rattle.network.specs.Network.{Multicast, Accepted}
use Rattle.wire.specs.Plan.{Reader, Plan, served, unserved, hands, Matched, Suits, Fits}
use Rattle.wire.specs.Format.{Read, got, fault, Parser, and_then, each, link_bytes, reader_bytes, plan_bytes, head_item, link_item, reader_item, served_items, cut_item, body, items, end, read_plan, Local}
use Rattle.wire.proofs.Parsing.{Near, Lawful, item-lawful, item-good, item-took, got-lawful, then-lawful, each-lawful, not-got, same-got, agree_less}
use Rattle.wire.proofs.Codecs.{Small, small-behind, Codec, between, each-codec}
use Rattle.wire.proofs.Served.{link-lawful, link-codec, reader-lawful, reader-codec}
use Rattle.wire.proofs.Cut.{cut-lawful, cut-back, cut-kept}

-- LOCALITY

abbrev head_fault : List ℕ → ℕ
head_fault bs = cond (eqb (get_or bs 0 0) 2 && (eqb (get_or bs 1 0) 1 || eqb (get_or bs 1 0) 2)) 0 1

head-lawful : Lawful head_item
head-lawful =
    item-lawful (λ bs. 2) head_fault (λ bs. get_or bs 1 0)
    (λ bs cs h a.
    let first : get_or cs 0 0 ≡ get_or bs 0 0 = agree_at 2 cs bs a 0 (omega arith) in
    let second : get_or cs 1 0 ≡ get_or bs 1 0 = agree_at 2 cs bs a 1 (omega arith) in
    (refl, ap₂ (λ x y. cond (eqb x 2 && (eqb y 1 || eqb y 2)) 0 1) first second, second))

-- the readers, behind coefficients that were read
pub behind-lawful : (m : Multicast) (cs : List (List ℕ)) → Lawful (λ at rest. and_then (each (reader_item m.network.links m.rate) m.receivers at rest) (λ rs. got (served cs rs)))
behind-lawful m cs =
    then-lawful (each (reader_item m.network.links m.rate) m.receivers) (λ rs at rest. got (served cs rs) at rest) (λ rs. got-lawful (served cs rs))
    (each-lawful (reader_item m.network.links m.rate) (reader-lawful m.network.links m.rate) m.receivers)

served-lawful : (m : Multicast) → Lawful (served_items m)
served-lawful m =
    then-lawful (each link_item (hands m))
    (λ cs at rest. and_then (each (reader_item m.network.links m.rate) m.receivers at rest) (λ rs. got (served cs rs)))
    (behind-lawful m) (each-lawful link_item link-lawful (hands m))

body-lawful : (m : Multicast) (kind : ℕ) → Lawful (body m kind)
body-lawful m kind = either (eqb kind 1) (served_items m) (cut_item m) (served-lawful m) (cut-lawful m)
  where
    either : (t : Bool) (P Q : Parser Plan) → Lawful P → Lawful Q → Lawful (λ at bs. cond t (P at bs) (Q at bs))
    either true P Q p q = p
    either false P Q p q = q

pub items-lawful : (m : Multicast) → Lawful (items m)
items-lawful m = then-lawful head_item (body m) (body-lawful m) head-lawful

pub local : (m : Multicast) (bs : List ℕ) (number at stop : ℕ) → read_plan m bs ≡ fault number at stop → (at ≤ stop) × Local m bs number at stop
unfolding read_plan
local m bs number at stop e = by (items m 0 bs) (items-lawful m 0 bs) e
  where
    -- a byte is left over behind the items
    left : (x : Plan) (at₁ : ℕ) (rest : List ℕ) → (n : ℕ) → at₁ ≡ 0 + n → rest ≡ drop n bs → ((cs : List ℕ) → take n cs ≡ take n bs → items m 0 cs ≡ got x at₁ (drop n cs)) → end x at₁ rest ≡ fault number at stop → (at ≤ stop) × Local m bs number at stop
    left x at₁ [] n moved is same f = absurd (not-got (sym f))
    left x at₁ (b ∷ rest) n moved is same f =
        let stops : at₁ + 1 ≡ stop = cc in
        let starts : at₁ ≡ at = cc in (
          omega arith,
          λ cs a.
              let long : length (b ∷ rest) ≡ length (drop n bs) = ap length is in
              let both : take (n + 1) cs ≡ take (n + 1) bs = subst (λ k. take k cs ≡ take k bs) (omega arith) a in
              let m' : min (n + 1) (length cs) ≡ min (n + 1) (length bs) = sym (length-take (n + 1) cs) ∙ ap length both ∙ length-take (n + 1) bs in
              let more : drop n cs ≡ get_or cs n 0 ∷ drop (n + 1) cs = drop_more cs n 0 (omega (arith, length-drop n bs)) in
              ap (λ r. and_then r end) (same cs (agree_less n 1 cs bs both) ∙ ap (got x at₁) more) ∙ f,
        )

    by : (r : Read Plan) → Near (items m) 0 bs r → and_then r end ≡ fault number at stop → (at ≤ stop) × Local m bs number at stop
    by (got x at₁ rest) (n, moved, is, same) f = left x at₁ rest n moved is same f
    by (fault number' b stop') (n, moved, low, same) f =
        let stops : 0 + n ≡ stop = sym moved ∙ cc in
        let starts : b ≡ at = cc in
        (omega (arith, low.1), λ cs a. let both : take n cs ≡ take n bs = subst (λ k. take k cs ≡ take k bs) (omega arith) a in ap (λ r. and_then r end) (same cs both) ∙ f)

-- WRITTEN AND READ BACK

matched-lengths : (hs : List ℕ) (cs : List (List ℕ)) → Matched (λ hand c. length c ≡ hand) hs cs → map length cs ≡ hs
matched-lengths [] [] m = refl
matched-lengths [] (c ∷ cs) m = absurd m
matched-lengths (hand ∷ hs) [] m = absurd m
matched-lengths (hand ∷ hs) (c ∷ cs) m = ap₂ (λ x xs. x ∷ xs) m.0 (matched-lengths hs cs m.1)

lengths-matched : (cs : List (List ℕ)) → Matched (λ hand c. length c ≡ hand) (map length cs) cs
lengths-matched [] = tt
lengths-matched (c ∷ cs) = (refl, lengths-matched cs)

module _ (m : Multicast) where
  abbrev readers : Parser (List Reader)
  readers at bs = each (reader_item m.network.links m.rate) m.receivers at bs

  links-codec : Codec (each link_item (hands m)) (flat_map link_bytes) (Matched (λ hand c. length c ≡ hand) (hands m))
  links-codec = each-codec link_item link_bytes (λ hand c. length c ≡ hand) link-codec (hands m)

  readers-codec : Codec readers (flat_map reader_bytes) (Matched (Suits m.network.links m.rate) m.receivers)
  readers-codec = each-codec (reader_item m.network.links m.rate) reader_bytes (Suits m.network.links m.rate) (reader-codec m.network.links m.rate) m.receivers

  -- the head of a kind that is known
  head-good : (kind : ℕ) (bs : List ℕ) → head_fault (2 ∷ kind ∷ bs) ≡ 0 → head_item 0 (2 ∷ kind ∷ bs) ≡ got kind (0 + 2) bs
  head-good kind bs e = item-good 2 (head_fault (2 ∷ kind ∷ bs)) kind 0 (2 ∷ kind ∷ bs) (omega arith) e

  pub read_back : Accepted m → (p : Plan) → Fits m p → (at : ℕ) × (read_plan m (plan_bytes p) ≡ got p at [])
  unfolding read_plan
  read_back ok (served cs rs) fits =
      let matched : Matched (λ hand c. length c ≡ hand) (hands m) cs = subst (λ hs. Matched (λ hand c. length c ≡ hand) hs cs) fits.0 (lengths-matched cs) in
      let at₁ : ℕ = 0 + 2 + length (flat_map link_bytes cs) in
      let at₂ : ℕ = at₁ + length (flat_map reader_bytes rs) in
      let second : readers at₁ (flat_map reader_bytes rs) ≡ got rs at₂ [] = ap (readers at₁) (sym (append-nil (flat_map reader_bytes rs))) ∙ readers-codec.back rs fits.1 at₁ [] in (
        at₂,
        ap (λ r. and_then (and_then r (body m)) end) (head-good 1 (flat_map link_bytes cs ++ flat_map reader_bytes rs) refl)
            ∙ ap (λ r. and_then (and_then r (λ cs at rest. and_then (readers at rest) (λ rs. got (served cs rs)))) end) (links-codec.back cs matched (0 + 2) (flat_map reader_bytes rs))
            ∙ ap (λ r. and_then (and_then r (λ rs. got (served cs rs))) end) second,
      )
  read_back ok (unserved p side) fits = (
    0 + 2 + 34,
    ap (λ r. and_then (and_then r (body m)) end) (head-good 2 _ refl)
        ∙ ap (λ bs. and_then (cut_item m (0 + 2) bs) end) (sym (append-nil _))
        ∙ ap (λ r. and_then r end) (cut-back m ok p side fits (0 + 2) []),
  )

  -- READ AND WRITTEN BACK

  abbrev Kept : (p : Plan) → List ℕ → Type 0
  Kept p bs = Fits m p × (plan_bytes p ≡ bs)

  -- the bytes behind the head, by the kind
  body_kept : (kind : ℕ) (at : ℕ) (bs : List ℕ) (p : Plan) (at₁ : ℕ) → (kind ≡ 1) ⊎ (kind ≡ 2) → Small bs → body m kind at bs ≡ got p at₁ [] → Kept p (2 ∷ kind ∷ bs)
  body_kept kind at bs p at₁ (inl k) s e =
      let f : served_items m at bs ≡ got p at₁ [] = rw (eq-eqb kind 1 k) at e in
      let u = between (each link_item (hands m) at bs) (λ cs at rest. and_then (readers at rest) (λ rs. got (served cs rs))) p at₁ [] f in
      let v = between (readers u.at u.rest) (λ rs. got (served u.value rs)) p at₁ [] u.second in
      let a = links-codec.kept at bs u.value u.at u.rest s u.first in
      let b = readers-codec.kept u.at u.rest v.value v.at v.rest (small-behind (flat_map link_bytes u.value) u.rest bs a.1 s) v.first in
      let q = same-got (served u.value v.value) p v.at at₁ v.rest [] v.second in
      let whole : plan_bytes (served u.value v.value) ≡ 2 ∷ kind ∷ bs =
      ap₂ (λ x l. 2 ∷ x ∷ l) (sym k) (sym (a.1 ∙ ap (λ l. flat_map link_bytes u.value ++ l) (b.1 ∙ ap (λ l. flat_map reader_bytes v.value ++ l) (sym q.2) ∙ append-nil (flat_map reader_bytes v.value)))) in
      subst (λ x. Kept x (2 ∷ kind ∷ bs)) q.0 ((matched-lengths (hands m) u.value a.0, b.0), whole)
  body_kept kind at bs p at₁ (inr k) s e =
      let no : kind ≡ 1 → ⊥ = λ o. omega arith in
      let f : cut_item m at bs ≡ got p at₁ [] = rw (ne_eqb kind 1 no) at e in
      let c = cut-kept m at bs p at₁ [] s f in
      let whole : plan_bytes (unserved c.0 c.1) ≡ 2 ∷ kind ∷ bs = ap₂ (λ x l. 2 ∷ x ∷ l) (sym k) (sym (c.4 ∙ append-nil _)) in
      subst (λ x. Kept x (2 ∷ kind ∷ bs)) (sym c.2) (c.3, whole)

  head-kind : (bs : List ℕ) → head_fault bs ≡ 0 → (get_or bs 0 0 ≡ 2) × ((get_or bs 1 0 ≡ 1) ⊎ (get_or bs 1 0 ≡ 2))
  head-kind bs e = by (eqb (get_or bs 0 0) 2 && (eqb (get_or bs 1 0) 1 || eqb (get_or bs 1 0) 2)) refl e
    where
      by : (t : Bool) → (eqb (get_or bs 0 0) 2 && (eqb (get_or bs 1 0) 1 || eqb (get_or bs 1 0) 2)) ≡ t → ◌≡◌ {A = ℕ} (cond t 0 1) 0 → (get_or bs 0 0 ≡ 2) × ((get_or bs 1 0 ≡ 1) ⊎ (get_or bs 1 0 ≡ 2))
      by true is z =
          let a = and_parts (eqb (get_or bs 0 0) 2) (eqb (get_or bs 1 0) 1 || eqb (get_or bs 1 0) 2) is in
          (eqb-true (get_or bs 0 0) 2 a.0, elim (or_cases (eqb (get_or bs 1 0) 1) (eqb (get_or bs 1 0) 2) a.1) [ inl t ↦ inl (eqb-true (get_or bs 1 0) 1 t) | inr t ↦ inr (eqb-true (get_or bs 1 0) 2 t) ])
      by false is z = absurd (omega arith)

  ended : (p x : Plan) (at at₁ : ℕ) (rest rest₁ : List ℕ) → end x at rest ≡ got p at₁ rest₁ → (x ≡ p) × (rest ≡ []) × (at₁ ≡ at)
  ended p x at at₁ [] rest₁ e = let q = same-got x p at at₁ [] rest₁ e in (q.0, refl, q.1)
  ended p x at at₁ (b ∷ rest) rest₁ e = absurd (not-got e)

  pub kept : (bs : List ℕ) (p : Plan) (at : ℕ) (rest : List ℕ) → Small bs → read_plan m bs ≡ got p at rest → Kept p bs
  unfolding read_plan
  kept bs p at rest s e =
      let u = between (items m 0 bs) end p at rest e in
      let v = between (head_item 0 bs) (body m) u.value u.at u.rest u.first in
      let t = item-took 2 (head_fault bs) (get_or bs 1 0) 0 bs v.value v.at v.rest v.first in
      let k = head-kind bs t.good in
      let done = ended p u.value u.at at u.rest rest u.second in
      let first : bs ≡ get_or bs 0 0 ∷ drop 1 bs = drop_more bs 0 0 (omega (arith, t.long)) in
      let second : drop 1 bs ≡ get_or bs 1 0 ∷ drop 2 bs = drop_more bs 1 0 (omega (arith, t.long)) in
      let whole : bs ≡ 2 ∷ v.value ∷ v.rest = first ∙ ap₂ (λ x l. x ∷ l) k.0 (second ∙ ap₂ (λ x l. x ∷ l) t.is (sym t.left)) in
      let small : Small v.rest = small-behind (2 ∷ v.value ∷ []) v.rest bs whole s in
      let kind : (v.value ≡ 1) ⊎ (v.value ≡ 2) = subst (λ x. (x ≡ 1) ⊎ (x ≡ 2)) t.is k.1 in
      let b = body_kept v.value v.at v.rest u.value u.at kind small (v.second ∙ ap (got u.value u.at) done.1) in
      subst (λ x. Kept x bs) done.0 (b.0, b.1 ∙ sym whole)
