use Rattle.std.proofs.Common.{◌≡◌, ℕ, suc, ◌||◌, inl, inr, one-add, ◌<◌, ◌≤◌, Bool, cond, ltb, eqb, List, [], ◌∷◌, map, length, vec_items, Some, None, MatchOption, Vec, Global, sym, refl, ap, ◌∙◌, ap₂, arith, rules, tests}
use Rattle.std.specs.List.{list_any, position_or_len}
use Rattle.std.proofs.lemmas.Iterator.{YieldsList-from_slice}
use Rattle.std.proofs.lemmas.Iterator.Search.{position_from_yields_List}
use Rattle.std.proofs.lemmas.List.Recursion.{is_position_or_len}
use native.Mathlib.Decide.{dec_lt}
use Rattle.std.proofs.lemmas.Bool.{eq-eqb, ne_eqb, cases_eq, lt-ltb, le-ltb}
use Rattle.coding_theory.specs.Paths.{is_on}
use Rattle.coding_theory.specs.Coding.{place}
use Rattle.coding_steps.proofs.paths.place.Goals as goal

abbrev has : ℕ → List ℕ → Bool
has e w = list_any (λ y. eqb y e) w

turned : (e x : ℕ) → eqb e x ≡ eqb x e
turned e x =
    elim (cases_eq e x) [
      | inl q ↦ eq-eqb e x q ∙ sym (eq-eqb x e (sym q))
      | inr ne ↦ ne_eqb e x ne ∙ sym (ne_eqb x e (λ q. ne (sym q)))
    ]

on-has : (e : ℕ) (w : List ℕ) → is_on e w ≡ has e w
unfolding is_on
on-has e [] = refl
on-has e (x ∷ w) = ap₂ (λ a b. a || b) (turned e x) (on-has e w)

place-first : (e : ℕ) (ps : List (Vec ℕ Global)) → place e (map vec_items ps) ≡ position_or_len (λ p. has e (vec_items p)) ps
unfolding place
place-first e =
    is_position_or_len (λ ps. place e (map vec_items ps)) (λ p. has e (vec_items p)) refl (λ p ps. rw one-add (ap (λ b. cond b 0 (suc (place e (map vec_items ps)))) (on-has e (vec_items p))))

decided : (n k : ℕ) → MatchOption (cond (ltb k n) (Some k) None) (n ≤ k) (λ j. (j < n) × (j ≡ k))
decided n k =
    elim (dec_lt k n) [
      | yes l ↦ rw (lt-ltb k n l) (l, refl)
      | no ne ↦ let le : n ≤ k = omega arith in rw (le-ltb k n le) le
    ]

pub returns : goal.returns
returns c =
    let e = c.args.link in
    let ps = c.args.paths.now in
    let at : c.position.result ≡ cond (ltb (position_or_len (λ p. has e (vec_items p)) ps) (length ps)) (Some (position_or_len (λ p. has e (vec_items p)) ps)) None =
    position_from_yields_List (λ p. has e (vec_items p)) _ _ c.position.result c.position.ensures.ran (YieldsList-from_slice ps (cc)) (λ x b q k. search (rules, tests)) in
    let found : MatchOption c.position.result (length ps ≤ place e (map vec_items ps)) (λ j. (j < length ps) × (j ≡ place e (map vec_items ps))) =
    rw (at, place-first e ps) (decided (length ps) (position_or_len (λ p. has e (vec_items p)) ps)) in
    search (rules, found)
