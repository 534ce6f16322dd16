-- The current carrier of a path is the last of its links that are passed: by induction over the path, whose links rise in number.
use Rattle.std.proofs.Common.{◌≡◌, ℕ, suc, ◌<◌, ◌≤◌, true, false, cond, eqb, ltb, List, [], ◌∷◌, sym, refl, ap, ◌∙◌, subst, inl, inr, arith}
use Rattle.std.proofs.lemmas.Bool.{cond-true, cond-false, cases_eq, cases_Bool, eq-eqb, ne_eqb, eqb-true, eqb-false, lt-ltb, le-ltb, ltb-true, ltb-false, both_ways, or_cases, or_parts}
use Rattle.gf.specs.Field.{Field}
use Rattle.linear.specs.Vectors.{row}
use Rattle.linear.proofs.Lists.{get_d-table}
use Rattle.network.specs.Network.{Network, Sound}
use Rattle.coding_theory.specs.Paths.{is_on, Aim, Given}
use Rattle.coding_theory.specs.Coding.{place, Carrier, message, link, Receiver, current_at, start, passed}
use Rattle.coding_theory.specs.Rule.{last_before, now}
use Rattle.coding_theory.proofs.Paths.{Rising, rising, on_below, place-on, place-off}
use Rattle.coding_theory.proofs.Pass.{start-current, moved, passed_on, passed-off}

last-start : (c : Carrier) (w : List ℕ) → last_before 0 c w ≡ c
unfolding last_before
last-start c [] = refl
last-start c (x ∷ w) = cond-false _ _ _ (le-ltb x 0 (omega arith))

last-past : (e : ℕ) (c : Carrier) (w : List ℕ) → Rising e w → last_before e c w ≡ c
unfolding last_before
last-past e c [] r = refl
last-past e c (x ∷ w) r = cond-false _ _ _ (le-ltb x e r.0)

last_on : (e b : ℕ) (c : Carrier) (w : List ℕ) → Rising b w → is_on e w ≡ true → last_before (suc e) c w ≡ link e
unfolding last_before is_on
last_on e b c [] r t = absurd (both_ways false refl t)
last_on e b c (x ∷ w) r t =
    elim (or_cases (eqb e x) (is_on e w) t) [
      | inl q ↦
          let same : e ≡ x = eqb-true e x q in
          cond-true _ _ _ (lt-ltb x (suc e) (omega arith))
          ∙ last-past (suc e) (link x) w (subst (λ n. Rising (suc n) w) (sym same) r.1) ∙ ap link (sym same)
      | inr q ↦
          elim (cases_Bool (ltb x e)) [
            | inl t' ↦ let lt : x < e = ltb-true x e t' in cond-true _ _ _ (lt-ltb x (suc e) (omega arith)) ∙ last_on e (suc x) (link x) w r.1 q
            | inr f' ↦ let le : e ≤ x = ltb-false x e f' in absurd (both_ways _ (on_below e (suc x) w r.1 (omega arith)) q)
          ]
    ]

last_off : (e : ℕ) (c : Carrier) (w : List ℕ) → is_on e w ≡ false → last_before (suc e) c w ≡ last_before e c w
unfolding last_before is_on
last_off e c [] t = refl
last_off e c (x ∷ w) t =
    let p = or_parts (eqb e x) (is_on e w) t in
    let ne : (e ≡ x → ⊥) = eqb-false e x p.0 in
    elim (cases_Bool (ltb x e)) [
      | inl t' ↦
          let lt : x < e = ltb-true x e t' in
          cond-true _ _ _ (lt-ltb x (suc e) (omega arith)) ∙ last_off e (link x) w p.1 ∙ sym (cond-true _ _ _ t')
      | inr f' ↦ let le : e ≤ x = ltb-false x e f' in cond-false _ _ _ (le-ltb x (suc e) (omega arith)) ∙ sym (cond-false _ _ _ f')
    ]

abbrev pub Tracks : ℕ → ℕ → Receiver → Type 0
Tracks h e r = (j : ℕ) → j < h → current_at r j ≡ now e r.aim j

pub tracks-start : (h : ℕ) (a : Aim) → Tracks h 0 (start h a)
tracks-start h a j lj = start-current h a j lj ∙ sym (last-start (message j) (row a.paths j))

pub tracks-more : (F : Field) (z : Network) → Sound z → (h e : ℕ) (v : List ℕ) (r : Receiver) → Given z.links h r.aim → Tracks h e r → Tracks h (suc e) (passed F h e v r)
tracks-more F z g h e v r given t =
    elim (cases_Bool (ltb p h)) [
      | inl on ↦ subst (Tracks h (suc e)) (sym (passed_on F h e v r on)) (λ i li. here on i li)
      | inr off ↦ subst (Tracks h (suc e)) (sym (passed-off F h e v r off))
          (λ i li. t i li ∙ sym (last_off e (message i) (row r.aim.paths i)
          (place-off e r.aim.paths (let q : h ≤ p = ltb-false p h off in omega (arith, given.many)) i)))
    ]
  where
    p : ℕ
    p = place e r.aim.paths

    here : ltb p h ≡ true → (i : ℕ) → i < h → current_at (moved F h p e v r) i ≡ now (suc e) r.aim i
    here on i li =
        let lp : p < h = ltb-true p h on in
        let at_p : is_on e (row r.aim.paths p) ≡ true = place-on e r.aim.paths (omega (arith, given.many)) in
        get_d-table h i (λ i. cond (eqb i p) (link e) (current_at r i)) (message 0) li
        ∙ elim (cases_eq i p) [
          | inl same ↦
              cond-true _ _ _ (eq-eqb i p same)
              ∙ sym (last_on e 0 (message i) (row r.aim.paths i) (rising z g (row r.aim.paths i) 0 0 r.aim.node (λ k l q. omega arith) (given.lead i li))
              (ap (λ n. is_on e (row r.aim.paths n)) same ∙ at_p))
          | inr ne ↦
              cond-false _ _ _ (ne_eqb i p ne) ∙ t i li
              ∙ sym (last_off e (message i) (row r.aim.paths i)
              (elim (cases_Bool (is_on e (row r.aim.paths i))) [
                | inl q ↦ absurd (ne (given.apart i p e li lp q at_p))
                | inr q ↦ q
              ]))
        ]
