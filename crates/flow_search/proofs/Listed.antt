-- Listing links by their ends, one after the other: each goes to the end of its node's list.
use Rattle.std.proofs.Common.{◌≡◌, ℕ, ◌+◌, ◌<◌, List, [], ◌∷◌, ◌++◌, length, get_or, set, map, replicate, sym, refl, ap, ◌∙◌, inl, inr, add-one, arith, length-set, get_or-set_other, get_or-set_same}
use Rattle.std.proofs.lemmas.List.{length-replicate, get_or-replicate, get_or-map, length-map}
use Rattle.std.proofs.lemmas.Bool.{cases_eq, eq-eqb, ne_eqb}
use Rattle.flow_theory.specs.Flow.{listed}
use Rattle.flow_search.specs.Rows.{Lists}

module _ (end : ℕ → ℕ) (q k : ℕ) where
  pub listed_more : end k ≡ q → listed end q (k + 1) ≡ listed end q k ++ k ∷ []
  unfolding listed
  listed_more e = rw (add-one k, eq-eqb q (end k) (sym e))

  pub listed_same : (end k ≡ q → ⊥) → listed end q (k + 1) ≡ listed end q k
  unfolding listed
  listed_same d = rw (add-one k, ne_eqb q (end k) (λ e. d (sym e)))

abbrev none : List ℕ
none = []

module _ (end : ℕ → ℕ) (nodes : ℕ) where
  pub none-listed : Lists end nodes 0 (replicate nodes none)
  unfolding listed
  none-listed = record { long = length-replicate nodes none; row = λ q l. get_or-replicate nodes q none none l }

  -- link k goes to the list of its end
  pub listed-next : (k : ℕ) (rows : List (List ℕ)) → end k < nodes → Lists end nodes k rows → Lists end nodes (k + 1) (set rows (end k) (get_or rows (end k) [] ++ k ∷ []))
  listed-next k rows l h =
      record {
        long = length-set rows (end k) _ ∙ h.long;
        row = λ q m. elim (cases_eq (end k) q) [
          | inl e ↦ rw (sym e) (get_or-set_same rows (end k) _ [] (omega (arith, h.long)) ∙ ap (λ x. x ++ k ∷ []) (h.row (end k) l) ∙ sym (listed_more end (end k) k refl))
          | inr d ↦ get_or-set_other rows (end k) q _ [] (λ e. d (sym e)) ∙ h.row q m ∙ sym (listed_same end q k d)
        ];
      }

-- the list of a node, read of a row of lists; `items`: what a list holds
module _ {A : Type 0} (items : A → List ℕ) (rows : List A) (end : ℕ → ℕ) (nodes n : ℕ) (h : Lists end nodes n (map items rows)) (q : ℕ) (node : q < nodes) where
  pub has-list : q < length rows
  has-list = omega (arith, node, h.long, length-map rows items)

  pub list-is : (row : A) → row ≡ get_or rows q row → items row ≡ listed end q n
  list-is row e = ap items e ∙ sym (get_or-map items rows q row [] has-list) ∙ h.row q node
