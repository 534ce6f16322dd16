-- That a plan fits a net is a fact: two proofs of it are the same. Defines Fits-prop.
-- Assumes nothing.
use Rattle.std.specs.Prelude.{◌≡◌, ℕ, ◌<◌, true, false, List, [], ◌∷◌, length, slice_index, slice_index_or, vec_items}
use Rattle.std.specs.Coded.{×_prop, Π_prop, →_prop, Unit-prop, le_prop, Coded-set, coded_ℕ, coded_list}
use Rattle.std.specs.List.{AllByRecursion, AllByRecursion-prop}
use Rattle.std.proofs.Common.{ap, ◌∙◌, subst, inl, inr}
use Rattle.std.proofs.Math.Nat.{lt_irrefl}
use Rattle.std.proofs.lemmas.Bool.{cases_order}
use Rattle.network.specs.Network.{Link, Rising}
use Rattle.network.specs.Values.{value}
use Rattle.network.specs.declared.net.Multicast.{Multicast as Net}
use Rattle.wire.specs.Plan.{Reader, Plan, served, unserved, Comes, Matched, Suits, Fits}

matched-prop : {A B : Type 0} (R : A → B → Type 0) → ((x : A) (y : B) → IsProp (R x y)) → (xs : List A) (ys : List B) → IsProp (Matched R xs ys)
matched-prop R p [] [] = Unit-prop
matched-prop R p [] (y ∷ ys) = λ a b. absurd a
matched-prop R p (x ∷ xs) [] = λ a b. absurd a
matched-prop R p (x ∷ xs) (y ∷ ys) = ×_prop (p x y) (matched-prop R p xs ys)

suits-prop : (ls : List Link) (h p : ℕ) (r : Reader) → IsProp (Suits ls h p r)
suits-prop ls h p r x y =
    let f : length r.links ≡ h → AllByRecursion (Comes ls p) r.links → length r.rows ≡ h → AllByRecursion (λ row. length row ≡ h) r.rows → Suits ls h p r =
    λ m a s b. record { many = m; lead = a; square = s; long = b } in
    ap (λ m. f m x.lead x.square x.long) (Coded-set coded_ℕ _ _ x.many y.many)
    ∙ ap (λ a. f y.many a x.square x.long) (AllByRecursion-prop _ (λ k. ×_prop le_prop (Coded-set coded_ℕ _ _)) r.links x.lead y.lead)
    ∙ ap (λ s. f y.many y.lead s x.long) (Coded-set coded_ℕ _ _ x.square y.square)
    ∙ ap (λ b. f y.many y.lead y.square b) (AllByRecursion-prop _ (λ row. Coded-set coded_ℕ _ _) r.rows x.long y.long)

-- what is made of three facts
pub made : {A B C R : Type 0} (f : A → B → C → R) → IsProp A → IsProp B → IsProp C → (a a' : A) (b b' : B) (c c' : C) → f a b c ≡ f a' b' c'
made f p q r a a' b b' c c' = ap (λ x. f x b c) (p a a') ∙ ap (λ x. f a' x c) (q b b') ∙ ap (λ x. f a' b' x) (r c c')

abbrev Place : List ℕ → ℕ → Type 0
Place rs p = (i : ℕ) × (i < length rs) × (slice_index rs i ≡ p)

-- where the numbers rise, a number stands in one place at most
place-prop : (rs : List ℕ) (p : ℕ) → Rising (length rs) (λ i. slice_index rs i) → IsProp (Place rs p)
place-prop rs p rise x y =
    let apart : (a b : ℕ) → a ≡ p → b ≡ p → a < b → ⊥ = λ a b e f l. lt_irrefl p (subst (λ n. n < p) e (subst (λ n. a < n) f l)) in
    let same : x.0 ≡ y.0 = elim (cases_order x.0 y.0) [
      | inl e ↦ e
      | inr (inl l) ↦ absurd (apart (slice_index rs x.0) (slice_index rs y.0) x.2 y.2 (rise x.0 y.0 l y.1))
      | inr (inr l) ↦ absurd (apart (slice_index rs y.0) (slice_index rs x.0) y.2 x.2 (rise y.0 x.0 l x.1))
    ] in
    let stands : (j : ℕ) → j < length rs → slice_index rs j ≡ p → Place rs p = λ j l e. (j, l, e) in
    subst (λ j. (l : j < length rs) (e : slice_index rs j ≡ p) → x ≡ stands j l e) same
    (λ l e. ap (λ z. stands x.0 z x.2) (le_prop x.1 l) ∙ ap (λ z. stands x.0 l z) (Coded-set coded_ℕ _ _ x.2 e)) y.1 y.2

pub Fits-prop : (net : Net) (p : Plan) → IsProp (Fits (value net) p)
Fits-prop net (served cs rs) x y = ×_prop (Coded-set (coded_list coded_ℕ) _ _) (matched-prop _ (suits-prop (value net).network.links net.rate) (vec_items net.receivers) rs) x y
Fits-prop net (unserved p side) x y =
    let rs = vec_items net.receivers in
    let nodes = net.network.nodes in
    let Inside : Type 0 = (q : ℕ) → slice_index_or side q false ≡ true → q < nodes in
    let rise : Rising (length rs) (λ i. slice_index rs i) = subst (λ n. Rising n (λ i. slice_index rs i)) net.receivers.ok.0 net.rising in
    made (λ (a : Place rs p) (b : length side ≡ 256) (c : Inside). (a, b, c)) (place-prop rs p rise) (Coded-set coded_ℕ _ _) (Π_prop (λ q. →_prop le_prop)) x.0 y.0 x.1 y.1 x.2 y.2
