-- The item of a plan with a cut: eight flags in a byte, and which cuts are accepted.
use Rattle.std.proofs.Common.{◌≡◌, ℕ, zero, suc, ◌+◌, ◌-◌, ◌*◌, ◌/◌, ◌%◌, ◌^◌, ◌<◌, ◌≤◌, Bool, true, false, cond, not, ◌&&◌, eqb, ltb, List, [], ◌∷◌, ◌++◌, length, get_or, take, drop, sym, refl, ap, ◌∙◌, subst, ap₂, inl, inr, append_assoc, arith}
use Rattle.std.proofs.lemmas.List.FromFn.{fill_by_all, length-map-range_with_len, get_or-map-range_with_len}
use Rattle.std.proofs.lemmas.List.{length-append, length-take-le, length-drop, get_or-take, get_or_append_left, take-append-drop, drop_at, drop-drop}
use Rattle.std.proofs.lemmas.Bool.{and_parts, not-true, or_cases, or_left, or_right, or_parts, or_from, eq-eqb, eqb-true, lt-ltb, both_ways, cases_Bool, cases_eq}
use Rattle.octets.specs.Words.{word_bytes, word_at}
use Rattle.octets.proofs.Locality.{agree_at, agree-word}
use Rattle.octets.proofs.Words.{word_first, word_kept}
use Rattle.network.specs.Network.{Multicast, Accepted}
use Rattle.wire.specs.Plan.{Plan, unserved, Fits}
use Rattle.wire.specs.Format.{got, bit, flag_byte, side_bytes, flag_in, side_in, beyond, among, cut_fault, cut_item}
use Rattle.wire.proofs.Parsing.{Lawful, item-lawful, item-good, item-took, agree-drop}
use Rattle.wire.proofs.Codecs.{Small, small-behind}

-- FLAGS

at_most_one : (t : Bool) → cond t 1 0 ≤ 1
at_most_one true = omega arith
at_most_one false = omega arith

told : (t : Bool) → eqb (cond t 1 0) 1 ≡ t
told true = refl
told false = refl

odd-bit : (x : ℕ) → x < 2 → cond (eqb x 1) 1 0 ≡ x
odd-bit zero h = refl
odd-bit (suc zero) h = refl
odd-bit (suc (suc x)) h = absurd (omega arith)

-- the binary digits of a sum of powers
digits : (s x0 x1 x2 x3 x4 x5 x6 x7 : ℕ) → s ≡ x0 + 2 * x1 + 4 * x2 + 8 * x3 + 16 * x4 + 32 * x5 + 64 * x6 + 128 * x7
    → x0 ≤ 1 → x1 ≤ 1 → x2 ≤ 1 → x3 ≤ 1 → x4 ≤ 1 → x5 ≤ 1 → x6 ≤ 1 → x7 ≤ 1
    → (s / 1 % 2 ≡ x0) × (s / 2 % 2 ≡ x1) × (s / 4 % 2 ≡ x2) × (s / 8 % 2 ≡ x3) × (s / 16 % 2 ≡ x4) × (s / 32 % 2 ≡ x5) × (s / 64 % 2 ≡ x6) × (s / 128 % 2 ≡ x7)
digits s x0 x1 x2 x3 x4 x5 x6 x7 e l0 l1 l2 l3 l4 l5 l6 l7 =
    (omega arith, omega arith, omega arith, omega arith, omega arith, omega arith, omega arith, omega arith)

-- flag b of the eight from q on
byte-bit : (side : List Bool) (q b : ℕ) → b < 8 → flag_byte side q / 2 ^ b % 2 ≡ bit side (q + b)
unfolding flag_byte
byte-bit side q b h =
    let f : (k : ℕ) → bit side k ≤ 1 = λ k. at_most_one (get_or side k false) in
    let d = digits (flag_byte side q) (bit side q) (bit side (q + 1)) (bit side (q + 2)) (bit side (q + 3)) (bit side (q + 4)) (bit side (q + 5)) (bit side (q + 6)) (bit side (q + 7)) refl
    (f q) (f (q + 1)) (f (q + 2)) (f (q + 3)) (f (q + 4)) (f (q + 5)) (f (q + 6)) (f (q + 7)) in
    let none : q ≡ q + 0 = omega arith in
    elim (cases_eq b 0) [
      | inl e ↦ rw e (d.0 ∙ ap (bit side) none)
      | inr n0 ↦
          elim (cases_eq b 1) [
            | inl e ↦ rw e d.1
            | inr n1 ↦
                elim (cases_eq b 2) [
                  | inl e ↦ rw e d.2
                  | inr n2 ↦
                      elim (cases_eq b 3) [
                        | inl e ↦ rw e d.3
                        | inr n3 ↦
                            elim (cases_eq b 4) [
                              | inl e ↦ rw e d.4
                              | inr n4 ↦
                                  elim (cases_eq b 5) [
                                    | inl e ↦ rw e d.5
                                    | inr n5 ↦
                                        elim (cases_eq b 6) [
                                          | inl e ↦ rw e d.6
                                          | inr n6 ↦
                                              elim (cases_eq b 7) [ inl e ↦ rw e d.7 | inr n7 ↦ absurd (omega arith) ]
                                        ]
                                  ]
                            ]
                      ]
                ]
          ]
    ]

-- a byte by its bits
bits-byte : (x : ℕ) → x < 256 → x / 1 % 2 + 2 * (x / 2 % 2) + 4 * (x / 4 % 2) + 8 * (x / 8 % 2) + 16 * (x / 16 % 2) + 32 * (x / 32 % 2) + 64 * (x / 64 % 2) + 128 * (x / 128 % 2) ≡ x
bits-byte x h = omega arith

pub side-back : (side : List Bool) (rest : List ℕ) → length side ≡ 256 → side_in (side_bytes side ++ rest) ≡ side
side-back side rest e = sym (fill_by_all (flag_in (side_bytes side ++ rest)) side 256 false e one)
  where
    one : (p : ℕ) → p < 256 → get_or side p false ≡ flag_in (side_bytes side ++ rest) p
    one p h =
        let i : ℕ = 31 - p / 8 in
        let long : length (side_bytes side) ≡ 32 = length-map-range_with_len (λ i. flag_byte side (8 * (31 - i))) 0 32 in
        let byte : get_or (side_bytes side ++ rest) i 0 ≡ flag_byte side (8 * (31 - i)) =
        get_or_append_left (side_bytes side) rest 0 i (omega arith) ∙ get_or-map-range_with_len (λ i. flag_byte side (8 * (31 - i))) 0 32 i i 0 (omega arith) (omega arith) in
        let first : 8 * (31 - i) + p % 8 ≡ p = omega arith in
        sym (ap (λ x. eqb (x / 2 ^ (p % 8) % 2) 1) byte ∙ ap (λ x. eqb x 1) (byte-bit side (8 * (31 - i)) (p % 8) (omega arith)) ∙ told (get_or side (8 * (31 - i) + p % 8) false)
        ∙ ap (λ q. get_or side q false) first)

pub side-kept : (ds : List ℕ) → Small ds → 32 ≤ length ds → side_bytes (side_in ds) ≡ take 32 ds
unfolding flag_byte
side-kept ds s h = sym (fill_by_all (λ i. flag_byte (side_in ds) (8 * (31 - i))) (take 32 ds) 32 0 (length-take-le 32 ds h) one)
  where
    bit_at : (i b q : ℕ) → i < 32 → b < 8 → 8 * (31 - i) + b ≡ q → bit (side_in ds) q ≡ get_or ds i 0 / 2 ^ b % 2
    bit_at i b q l m e =
        let flag : get_or (side_in ds) q false ≡ flag_in ds q = get_or-map-range_with_len (flag_in ds) 0 256 q q false (omega arith) (omega arith) in
        let byte : 31 - q / 8 ≡ i = omega arith in
        let place : q % 8 ≡ b = omega arith in
        ap (λ t. cond t 1 0) flag ∙ ap₂ (λ j c. cond (eqb (get_or ds j 0 / 2 ^ c % 2) 1) 1 0) byte place ∙ odd-bit (get_or ds i 0 / 2 ^ b % 2) (omega arith)

    one : (i : ℕ) → i < 32 → get_or (take 32 ds) i 0 ≡ flag_byte (side_in ds) (8 * (31 - i))
    one i l =
        let q : ℕ = 8 * (31 - i) in
        get_or-take 32 ds i 0 l
        ∙ sym (rw (
          bit_at i 0 q l (omega arith) (omega arith),
          bit_at i 1 (q + 1) l (omega arith) refl,
          bit_at i 2 (q + 2) l (omega arith) refl,
          bit_at i 3 (q + 3) l (omega arith) refl,
          bit_at i 4 (q + 4) l (omega arith) refl,
          bit_at i 5 (q + 5) l (omega arith) refl,
          bit_at i 6 (q + 6) l (omega arith) refl,
          bit_at i 7 (q + 7) l (omega arith) refl,
        ) (bits-byte (get_or ds i 0) (s i)))

side-agree : (cs bs : List ℕ) → take 32 cs ≡ take 32 bs → side_in cs ≡ side_in bs
side-agree cs bs a =
    fill_by_all (flag_in bs) (side_in cs) 256 false (length-map-range_with_len (flag_in cs) 0 256)
    (λ p h. get_or-map-range_with_len (flag_in cs) 0 256 p p false h (omega arith) ∙ ap (λ x. eqb (x / 2 ^ (p % 8) % 2) 1) (agree_at 32 cs bs a (31 - p / 8) (omega arith)))

-- WHICH CUTS ARE ACCEPTED

pub beyond-false : (nodes : ℕ) (side : List Bool) → beyond nodes side ≡ false → (q : ℕ) → get_or side q false ≡ true → q < nodes
unfolding beyond
beyond-false nodes [] e q t = absurd (both_ways false refl t)
beyond-false zero (b ∷ side) e zero t = absurd (both_ways b (or_parts b (beyond zero side) e).0 t)
beyond-false zero (b ∷ side) e (suc q) t = absurd (let l = beyond-false zero side (or_parts b (beyond zero side) e).1 q t in omega arith)
beyond-false (suc n) (b ∷ side) e zero t = omega arith
beyond-false (suc n) (b ∷ side) e (suc q) t = let l = beyond-false n side e q t in omega arith

pub false-beyond : (nodes : ℕ) (side : List Bool) → ((q : ℕ) → get_or side q false ≡ true → q < nodes) → beyond nodes side ≡ false
unfolding beyond
false-beyond nodes [] h = refl
false-beyond zero (b ∷ side) h =
    or_from b (beyond zero side) (elim (cases_Bool b) [ inl t ↦ absurd (let l = h 0 t in omega arith) | inr f ↦ f ])
    (false-beyond zero side (λ q t. let l = h (suc q) t in absurd (omega arith)))
false-beyond (suc n) (b ∷ side) h = false-beyond n side (λ q t. let l = h (suc q) t in omega arith)

among-true : (p : ℕ) (ps : List ℕ) → among p ps ≡ true → (i : ℕ) × (i < length ps) × (get_or ps i 0 ≡ p)
unfolding among
among-true p [] e = absurd (both_ways false refl e)
among-true p (q ∷ ps) e =
    elim (or_cases (eqb p q) (among p ps) e) [
      | inl t ↦ (0, omega arith, sym (eqb-true p q t))
      | inr t ↦ let r = among-true p ps t in let l : r.0 < length ps = r.1 in (suc r.0, omega arith, r.2)
    ]

true-among : (p : ℕ) (ps : List ℕ) (i : ℕ) → i < length ps → get_or ps i 0 ≡ p → among p ps ≡ true
unfolding among
true-among p [] i h e = absurd (omega arith)
true-among p (q ∷ ps) zero h e = or_left (eqb p q) (among p ps) (eq-eqb p q (sym e))
true-among p (q ∷ ps) (suc i) h e = or_right (eqb p q) (among p ps) (true-among p ps i (omega arith) e)

no-fault : (m : Multicast) (p : ℕ) (side : List Bool) → cut_fault m p side ≡ 0 → (beyond m.network.nodes side ≡ false) × (among p m.receivers ≡ true)
no-fault m p side e = by (ltb p m.network.nodes && not (beyond m.network.nodes side)) (among p m.receivers) refl refl e
  where
    by : (s t : Bool) → (ltb p m.network.nodes && not (beyond m.network.nodes side)) ≡ s → among p m.receivers ≡ t → ◌≡◌ {A = ℕ} (cond s (cond t 0 9) 2) 0 → (beyond m.network.nodes side ≡ false) × (among p m.receivers ≡ true)
    by true true es et z = (not-true (beyond m.network.nodes side) (and_parts (ltb p m.network.nodes) (not (beyond m.network.nodes side)) es).1, et)
    by true false es et z = absurd (omega arith)
    by false t es et z = absurd (omega arith)

-- THE ITEM

abbrev pub cut_bytes : ℕ → List Bool → List ℕ
cut_bytes p side = word_bytes p ++ side_bytes side

module _ (m : Multicast) where
  abbrev cut_in : List ℕ → Plan
  cut_in bs = unserved (word_at bs 0) (side_in (drop 2 bs))

  pub cut-lawful : Lawful (cut_item m)
  cut-lawful =
      item-lawful (λ bs. 34) (λ bs. cut_fault m (word_at bs 0) (side_in (drop 2 bs))) cut_in
      (λ bs cs h a.
      let word : word_at cs 0 ≡ word_at bs 0 = agree-word 34 cs bs a 0 (omega arith) in
      let side : side_in (drop 2 cs) ≡ side_in (drop 2 bs) = side-agree (drop 2 cs) (drop 2 bs) (agree-drop 2 32 cs bs a) in
      (refl, ap₂ (cut_fault m) word side, ap₂ unserved word side))

  pub cut-back : Accepted m → (p : ℕ) (side : List Bool) → Fits m (unserved p side) → (at : ℕ) (rest : List ℕ)
      → cut_item m at (cut_bytes p side ++ rest) ≡ got (unserved p side) (at + 34) rest
  cut-back ok p side fits at rest =
      let bs : List ℕ = cut_bytes p side ++ rest in
      let here = fits.0 in
      let there : p < m.network.nodes = subst (λ q. q < m.network.nodes) here.2 (ok.placed here.0 here.1).1 in
      let long : length (side_bytes side) ≡ 32 = length-map-range_with_len (λ i. flag_byte side (8 * (31 - i))) 0 32 in
      let whole : length (cut_bytes p side) ≡ 34 = omega arith in
      let word : word_at bs 0 ≡ p = word_first p (side_bytes side ++ rest) in
      let flags : side_in (drop 2 bs) ≡ side = side-back side rest fits.1 in
      let good : cut_fault m p side ≡ 0 = rw (lt-ltb p m.network.nodes there, false-beyond m.network.nodes side fits.2, true-among p m.receivers here.0 here.1 here.2) in
      rw (word, flags) (item-good 34 (cut_fault m p side) (unserved p side) at bs (omega (arith, length-append (cut_bytes p side) rest)) good ∙ ap (got (unserved p side) (at + 34)) (drop_at (cut_bytes p side) rest 34 whole))

  pub cut-kept : (at : ℕ) (bs : List ℕ) (x : Plan) (at₁ : ℕ) (rest : List ℕ) → Small bs → cut_item m at bs ≡ got x at₁ rest
      → (p : ℕ) × (side : List Bool) × (x ≡ unserved p side) × Fits m (unserved p side) × (bs ≡ cut_bytes p side ++ rest)
  cut-kept at bs x at₁ rest s e =
      let p : ℕ = word_at bs 0 in
      let side : List Bool = side_in (drop 2 bs) in
      let t = item-took 34 (cut_fault m p side) (unserved p side) at bs x at₁ rest e in
      let good = no-fault m p side t.good in
      let long : 32 ≤ length (drop 2 bs) = omega (arith, t.long, length-drop 2 bs) in
      let small : Small (drop 2 bs) = small-behind (take 2 bs) (drop 2 bs) bs (sym (take-append-drop 2 bs)) s in
      let fits : Fits m (unserved p side) = (among-true p m.receivers good.1, length-map-range_with_len (flag_in (drop 2 bs)) 0 256, beyond-false m.network.nodes side good.0) in
      let whole : bs ≡ cut_bytes p side ++ rest =
      sym (word_kept bs s 0 2 refl (omega (arith, t.long)))
      ∙ ap (λ l. word_bytes p ++ l) (sym (take-append-drop 32 (drop 2 bs)) ∙ ap₂ (λ x y. x ++ y) (sym (side-kept (drop 2 bs) small long)) (drop-drop 32 2 bs ∙ sym t.left))
      ∙ sym (append_assoc (word_bytes p) (side_bytes side) rest) in
      (p, side, sym t.is, fits, whole)
