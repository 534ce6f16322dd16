-- Where a link lies: what is left of a path, and of the paths, decides the whole.
use Rattle.std.proofs.Common.{◌≡◌, ℕ, suc, ◌+◌, ◌<◌, ◌≤◌, true, false, cond, ◌||◌, eqb, List, [], map, length, get_or, drop, sym, ap, ◌∙◌, add-one, arith, drop-cons}
use Rattle.std.proofs.lemmas.List.{drop_all}
use Rattle.std.proofs.lemmas.Bool.{eq-eqb, ne_eqb}
use Rattle.linear.specs.Vectors.{row}
use Rattle.linear.proofs.Lists.{get_d_map}
use Rattle.coding_theory.specs.Paths.{is_on}
use Rattle.coding_theory.specs.Coding.{place}

module _ (e : ℕ) (w : List ℕ) (i : ℕ) where
  on_step : i < length w → is_on e (drop i w) ≡ eqb e (get_or w i 0) || is_on e (drop (i + 1) w)
  unfolding is_on
  on_step l = rw (add-one, drop-cons w i 0 l)

  pub on-here : i < length w → get_or w i 0 ≡ e → is_on e (drop i w) ≡ true
  on-here l q = on_step l ∙ ap (λ b. b || is_on e (drop (i + 1) w)) (eq-eqb e _ (sym q))

  pub on-later : i < length w → (get_or w i 0 ≡ e → ⊥) → is_on e (drop i w) ≡ is_on e (drop (i + 1) w)
  on-later l ne = on_step l ∙ ap (λ b. b || is_on e (drop (i + 1) w)) (ne_eqb e _ (λ q. ne (sym q)))

  pub on-end : length w ≤ i → is_on e (drop i w) ≡ false
  unfolding is_on
  on-end l = ap (is_on e) (drop_all i w l)

-- what an element is as a row
pub row_of : {A : Type 0} (f : A → List ℕ) (xs : List A) (j : ℕ) (x : A) → j < length xs → x ≡ get_or xs j x → row (map f xs) j ≡ f x
row_of f xs j x l e = get_d_map f xs j x [] l ∙ ap f (sym e)

module _ (e : ℕ) (ws : List (List ℕ)) (j : ℕ) where
  place-step : j < length ws → place e (drop j ws) ≡ cond (is_on e (row ws j)) 0 (suc (place e (drop (j + 1) ws)))
  unfolding place
  place-step l = rw (add-one, drop-cons ws j [] l)

  pub place_here : j < length ws → is_on e (row ws j) ≡ true → j + place e (drop j ws) ≡ j
  place_here l t = let z = place-step l ∙ ap (λ b. cond b 0 (suc (place e (drop (j + 1) ws)))) t in omega arith

  pub place-later : j < length ws → is_on e (row ws j) ≡ false → (j + 1) + place e (drop (j + 1) ws) ≡ j + place e (drop j ws)
  place-later l f = let z = place-step l ∙ ap (λ b. cond b 0 (suc (place e (drop (j + 1) ws)))) f in omega arith

  pub place_end : length ws ≤ j → j + place e (drop j ws) ≡ j
  unfolding place
  place_end l = let z = ap (place e) (drop_all j ws l) in omega arith
