-- A walk turned gives one path more: while it is turned link by link from its end, the used links make up the paths so far
-- and one from the node in turn. A set that no step leads out of is a cut as wide as there are paths.
use Rattle.std.proofs.Common.{◌≡◌, ℕ, suc, ◌+◌, ◌<◌, Bool, true, false, cond, not, ◌&&◌, List, [], ◌∷◌, length, sym, refl, ◌∙◌, inl, inr, arith, length-set, get_or-set_other}
use Rattle.std.proofs.lemmas.Bool.{false≢true}
use Rattle.network.specs.Network.{Link, link_at}
use Rattle.network_cuts.specs.Cut.{out}
use Rattle.flow_theory.specs.Flow.{is_used, turn, turn_all}
use Rattle.flow_theory.specs.Order.{Goes, Walk}
use Rattle.flow_theory.specs.Promise.{Absent, Different}
use Rattle.flow_theory.proofs.Counts.{begins, ends, Conserved, Pending, pending-p, conserved-0, turn-used, turn-unused}

walk_turn : (ls : List Link) (us : List Bool) (k : ℕ) (ks : List ℕ) (r : ℕ) → Absent k ks → Walk ls us ks r → Walk ls (turn k us) ks r
walk_turn ls us k [] r a w = w
walk_turn ls us k (j ∷ ks) r a w =
    let e : is_used (turn k us) j ≡ is_used us j = get_or-set_other us k j (not (is_used us k)) false (λ q. a.0 (sym q)) in
    (w.0, rw e w.1, walk_turn ls us k ks w.0 a.1 w.2)

module _ (ls : List Link) (p m : ℕ) where
  walked : (ks : List ℕ) (r : ℕ) (us : List Bool) → length us ≡ length ls → Walk ls us ks r → Different ks → Pending ls p m r us → (length (turn_all ks us) ≡ length ls) × Conserved ls p (suc m) (turn_all ks us)
  unfolding turn_all
  walked [] r us a w d c = (a, conserved-0 ls p m us (rw w at c))
  walked (k ∷ ks) r us a w d c = walked ks w.0 (turn k us) (length-set us k _ ∙ a) (walk_turn ls us k ks w.0 d.0 w.2) d.1 (step w.1)
    where
      step : Goes ls us k w.0 r → Pending ls p m w.0 (turn k us)
      step (l, inl g) = rw (← g.1) (turn-unused ls p m us k l a g.0 (rw g.2 c))
      step (l, inr g) = rw (← g.1) (turn-used ls p m us k l a g.0 (rw g.2 c))

  pub augmented : (ks : List ℕ) (us : List Bool) → length us ≡ length ls → Walk ls us ks p → Different ks → Conserved ls p m us → (length (turn_all ks us) ≡ length ls) × Conserved ls p (suc m) (turn_all ks us)
  augmented ks us a w d c = walked ks p us a w d (pending-p ls p m us c)

-- links that one cannot go over out of the side
abbrev pub Shut : (ℕ → Bool) → List Link → List Bool → Type 0
Shut side ls us = (k q r : ℕ) → Goes ls us k q r → side q ≡ true → side r ≡ true

abbrev Tight : (ℕ → Bool) → Link → Bool → Type 0
Tight side l u = (u ≡ false → side l.from ≡ true → side l.to ≡ true) × (u ≡ true → side l.to ≡ true → side l.from ≡ true)

tight-one : (u f t : Bool) → (u ≡ false → f ≡ true → t ≡ true) → (u ≡ true → t ≡ true → f ≡ true) → cond (u && f) 1 0 ≡ cond (u && t) 1 0 + cond (f && not t) 1 0
tight-one true true true a b = omega arith
tight-one true true false a b = omega arith
tight-one true false true a b = absurd (false≢true (b refl refl))
tight-one true false false a b = omega arith
tight-one false true true a b = omega arith
tight-one false true false a b = absurd (false≢true (a refl refl))
tight-one false false true a b = omega arith
tight-one false false false a b = omega arith

tight-all : (side : ℕ → Bool) (ls : List Link) (us : List Bool) → length us ≡ length ls → ((k : ℕ) → k < length ls → Tight side (link_at ls k) (is_used us k)) → begins ls side us ≡ ends ls side us + out side ls
unfolding out
tight-all side [] us a h = omega arith
tight-all side (l ∷ ls) [] a h = absurd (omega arith)
tight-all side (l ∷ ls) (u ∷ us) a h =
    let x = h 0 (omega arith) in
    omega (arith, tight-one u (side l.from) (side l.to) x.0 x.1, tight-all side ls us (omega arith) (λ k i. h (suc k) (omega arith)))

pub narrow : (side : ℕ → Bool) (ls : List Link) (us : List Bool) (p m : ℕ) → length us ≡ length ls → Shut side ls us → side 0 ≡ true → side p ≡ false → Conserved ls p m us → out side ls ≡ m
narrow side ls us p m a h s r c =
    let e = tight-all side ls us a (λ k i. ((λ u f. h k _ _ (i, inl (u, refl, refl)) f), (λ u f. h k _ _ (i, inr (u, refl, refl)) f))) in
    let d = rw (s, r) at (c side) in
    omega arith
