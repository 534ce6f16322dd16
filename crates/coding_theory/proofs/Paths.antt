-- A path's links rise in number, since every link into a node stands before every link out of it. So when the turn of link e comes,
-- what is left of a path begins at the node to which its current carrier leads (`Under`): if e is on the path it is the first of what
-- is left, and takes the carrier's place; if not, nothing changes; past the last link nothing is left, and the carrier leads to the receiver.
use Rattle.std.proofs.Common.{◌≡◌, ℕ, zero, suc, ◌<◌, ◌≤◌, true, false, ◌||◌, eqb, List, [], ◌∷◌, length, sym, refl, ap, ◌∙◌, subst, inl, inr, arith}
use Rattle.std.proofs.lemmas.Bool.{cases_Bool, ne_eqb, eqb-true, eqb-false, both_ways, or_cases, or_parts, or_from}
use Rattle.linear.specs.Vectors.{row}
use Rattle.network.specs.Network.{Link, Network, Sound, link_at}
use Rattle.coding_theory.specs.Paths.{is_on, IsPath}
use Rattle.coding_theory.specs.Coding.{place, Carrier, message, link}
use Rattle.coding_theory.specs.Promise.{Ends}

-- the numbers rise, and none is below e
abbrev pub Rising : ℕ → List ℕ → Type 0
Rising e [] = Unit {0}
Rising e (x ∷ xs) = (e ≤ x) × Rising (suc x) xs

pub rising : (z : Network) → Sound z → (ks : List ℕ) (e n p : ℕ) → ((k : ℕ) → k < length z.links → (link_at z.links k).from ≡ n → e ≤ k)
    → IsPath z.links n p ks → Rising e ks
rising z g [] e n p least w = tt
rising z g (k ∷ ks) e n p least w = (
  least k w.0 w.1,
  rising z g ks (suc k) (link_at z.links k).to p (λ k' l e'. g.order k k' (w.0, l) (sym e')) w.2,
)

pub on_below : (e b : ℕ) (xs : List ℕ) → Rising b xs → e < b → is_on e xs ≡ false
unfolding is_on
on_below e b [] r l = refl
on_below e b (x ∷ xs) r l = or_from _ _ (ne_eqb e x (λ q. omega (arith, r.0))) (on_below e (suc x) xs r.1 (omega (arith, r.0)))

-- how far a path is when the links below e are passed
pub record Under (ls : List Link) (h e p : ℕ) (w : List ℕ) (c : Carrier) : Type 0 where
  pub node : ℕ
  pub rest : List ℕ
  pub ahead : IsPath ls node p rest
  pub later : Rising e rest
  pub alike : (k : ℕ) → e ≤ k → is_on k w ≡ is_on k rest
  pub ends : Ends ls h e c node

pub under-start : (z : Network) → Sound z → (h p : ℕ) (w : List ℕ) (j : ℕ) → j < h → IsPath z.links 0 p w → Under z.links h 0 p w (message j)
under-start z g h p w j lj path = record {
  node = 0;
  rest = w;
  ahead = path;
  later = rising z g w 0 0 p (λ k l e. omega arith) path;
  alike = λ k l. refl;
  ends = (lj, refl);
}

ends_more : (ls : List Link) (h e : ℕ) (c : Carrier) (p : ℕ) → Ends ls h e c p → Ends ls h (suc e) c p
ends_more ls h e (message i) p x = x
ends_more ls h e (link k) p x = (omega (arith, x.0), x.1)

module _ (ls : List Link) (h e p : ℕ) (w : List ℕ) (c : Carrier) where
  -- the link e is on the path: what the path has now is at hand, and the link takes its place
  on-with : (node : ℕ) (rest : List ℕ) → IsPath ls node p rest → Rising e rest → ((k : ℕ) → e ≤ k → is_on k w ≡ is_on k rest) → Ends ls h e c node
      → is_on e rest ≡ true → Ends ls h e c (link_at ls e).from × Under ls h (suc e) p w (link e)
  unfolding is_on
  on-with node [] a r s x t = absurd (both_ways false refl t)
  on-with node (y ∷ ys) a r s x t =
      let same : y ≡ e =
      elim (or_cases (eqb e y) (is_on e ys) t) [
        | inl q ↦ sym (eqb-true e y q)
        | inr q ↦ absurd (both_ways _ (on_below e (suc y) ys r.1 (omega (arith, r.0))) q)
      ] in
      subst (λ i. Ends ls h e c (link_at ls i).from × Under ls h (suc i) p w (link i)) same (
        subst (λ n. Ends ls h e c n) (sym a.1) x,
        record {
          node = (link_at ls y).to;
          rest = ys;
          ahead = a.2;
          later = r.1;
          alike = λ k l. s k (omega (arith, r.0)) ∙ ap (λ b. b || is_on k ys) (ne_eqb k y (λ q. omega arith));
          ends = (omega arith, refl);
        },
      )

  pub under-on : Under ls h e p w c → is_on e w ≡ true → Ends ls h e c (link_at ls e).from × Under ls h (suc e) p w (link e)
  under-on u t = on-with u.node u.rest u.ahead u.later u.alike u.ends (sym (u.alike e (omega arith)) ∙ t)

  off-later : (rest : List ℕ) → Rising e rest → is_on e rest ≡ false → Rising (suc e) rest
  unfolding is_on
  off-later [] r t = tt
  off-later (y ∷ ys) r t = let ne : (e ≡ y → ⊥) = eqb-false e y (or_parts (eqb e y) (is_on e ys) t).0 in (omega (arith, r.0), r.1)

  pub under-off : Under ls h e p w c → is_on e w ≡ false → Under ls h (suc e) p w c
  under-off u t = record {
    node = u.node;
    rest = u.rest;
    ahead = u.ahead;
    later = off-later u.rest u.later (sym (u.alike e (omega arith)) ∙ t);
    alike = λ k l. u.alike k (omega arith);
    ends = ends_more ls h e c u.node u.ends;
  }

  -- past the last link the path is at its end
  over-with : (node : ℕ) (rest : List ℕ) → length ls ≤ e → IsPath ls node p rest → Rising e rest → Ends ls h e c node → Ends ls h e c p
  over-with node [] l a r x = subst (λ n. Ends ls h e c n) a x
  over-with node (y ∷ ys) l a r x = absurd (omega (arith, r.0, a.0))

  pub under-over : Under ls h e p w c → length ls ≤ e → Ends ls h e c p
  under-over u l = over-with u.node u.rest l u.ahead u.later u.ends

-- THE PLACE OF A LINK
pub place-on : (e : ℕ) (ws : List (List ℕ)) → place e ws < length ws → is_on e (row ws (place e ws)) ≡ true
unfolding place
place-on e [] l = absurd (omega arith)
place-on e (w ∷ ws) l =
    elim (cases_Bool (is_on e w)) [
      | inl t ↦ rw t t
      | inr f ↦ rw f (place-on e ws (let l' : suc (place e ws) < suc (length ws) = rw f at l in omega arith))
    ]

pub place-off : (e : ℕ) (ws : List (List ℕ)) → length ws ≤ place e ws → (j : ℕ) → is_on e (row ws j) ≡ false
unfolding place is_on
place-off e [] l j = refl
place-off e (w ∷ ws) l zero =
    elim (cases_Bool (is_on e w)) [
      | inl t ↦ absurd (let l' : suc (length ws) ≤ 0 = rw t at l in omega arith)
      | inr f ↦ f
    ]
place-off e (w ∷ ws) l (suc j) =
    place-off e ws
    (elim (cases_Bool (is_on e w)) [
      | inl t ↦ absurd (let l' : suc (length ws) ≤ 0 = rw t at l in omega arith)
      | inr f ↦ let l' : suc (length ws) ≤ suc (place e ws) = rw f at l in omega arith
    ]) j
