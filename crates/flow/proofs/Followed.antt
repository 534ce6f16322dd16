-- Following used links step by step: each link taken is one used link fewer, which is how many steps the definition still has.
use Rattle.std.proofs.Common.{◌≡◌, ℕ, zero, suc, ◌+◌, ◌<◌, Bool, true, false, cond, not, ◌&&◌, eqb, ltb, List, [], ◌∷◌, ◌++◌, length, get_or, drop, set, vec_items, vec_len, sym, refl, ap, ◌∙◌, subst, append_assoc, append-nil, arith}
use mathlib.Core.Bool.{beq}
use Rattle.std.proofs.lemmas.List.{at_drop_more}
use Rattle.std.proofs.lemmas.Bool.{eq-eqb, ne_eqb, lt-ltb, le-ltb, cond-true, cond-false, and_from, and_right, not_from_false}
use Rattle.network.specs.Network.{Link, link_at}
use Rattle.network.specs.Values.{graph}
use Rattle.network.specs.declared.net.Network.{Network as Graph}
use Rattle.network.specs.declared.net.Link.{Link as Joined}
use Rattle.network.proofs.Sound.{sound, links-long, ends-at}
use Rattle.flow_theory.specs.Flow.{is_used, out_of, flagged, turn, turn_all, used_count, lowest, follow, parted}
use Rattle.flow_theory.proofs.Lists.{Every, listed-every, flagged-every}
use Rattle.flow_theory.proofs.Follow.{Out, count_less}

-- the first used link of a list
module _ (us : List Bool) (row : List ℕ) (j : ℕ) (l : j < length row) where
  abbrev k : ℕ
  k = get_or row j 0

  pub unused-next : is_used us k ≡ false → flagged us true (drop (j + 1) row) ≡ flagged us true (drop j row)
  unfolding flagged
  unused-next e = let f : flagged us true (drop j row) ≡ cond (beq (is_used us k) true) (k ∷ flagged us true (drop (j + 1) row)) (flagged us true (drop (j + 1) row)) = at_drop_more (flagged us true) row j 0 l in sym (f ∙ rw e)

  pub used-first : is_used us k ≡ true → flagged us true (drop j row) ≡ k ∷ flagged us true (drop (j + 1) row)
  unfolding flagged
  used-first e = let f : flagged us true (drop j row) ≡ cond (beq (is_used us k) true) (k ∷ flagged us true (drop (j + 1) row)) (flagged us true (drop (j + 1) row)) = at_drop_more (flagged us true) row j 0 l in f ∙ rw e

module _ (ls : List Link) (p q : ℕ) (us : List Bool) where
  pub follow-here : (n : ℕ) → q ≡ p → follow ls p n q us ≡ []
  unfolding follow
  follow-here zero e = refl
  follow-here (suc n) e = rw (eq-eqb q p e)

  pub follow-none : (n : ℕ) → flagged us true (out_of ls q) ≡ [] → follow ls p n q us ≡ []
  unfolding follow
  follow-none zero e = refl
  follow-none (suc n) e = let over : ltb (lowest ls us q) (length ls) ≡ false = le-ltb (lowest ls us q) (length ls) (omega (arith, ap (λ x. get_or x 0 (length ls)) e)) in cond-false (not (eqb q p) && ltb (lowest ls us q) (length ls)) _ [] (and_right (not (eqb q p)) (ltb (lowest ls us q) (length ls)) over)

  -- the first of the used links out of a node is one
  pub first_out : (k : ℕ) (ks : List ℕ) → flagged us true (out_of ls q) ≡ k ∷ ks → Out ls us q k
  first_out k ks e =
      (subst (Every (Out ls us q)) e (flagged-every us true (λ k. (k < length ls) × ((link_at ls k).from ≡ q)) (out_of ls q) (listed-every (λ k. (link_at ls k).from) q (length ls)))).0

  pub follow-on : (k : ℕ) (ks : List ℕ) → (q ≡ p → ⊥) → flagged us true (out_of ls q) ≡ k ∷ ks → follow ls p (used_count us) q us ≡ k ∷ follow ls p (used_count (set us k false)) (link_at ls k).to (set us k false)
  unfolding follow
  follow-on k ks d e =
      let o : Out ls us q k = first_out k ks e in
      let low : lowest ls us q ≡ k = ap (λ x. get_or x 0 (length ls)) e in
      let t : turn k us ≡ set us k false = ap (λ b. set us k (not b)) o.1 in
      let n : ℕ = used_count (set us k false) in
      let more : (not (eqb q p) && ltb (lowest ls us q) (length ls)) ≡ true = and_from (not (eqb q p)) (ltb (lowest ls us q) (length ls)) (not_from_false (eqb q p) (ne_eqb q p d)) (lt-ltb (lowest ls us q) (length ls) (omega (arith, o.0.0))) in
      ap (λ n. follow ls p n q us) (count_less us k o.1) ∙ cond-true (not (eqb q p) && ltb (lowest ls us q) (length ls)) _ [] more
      ∙ ap (λ x. x ∷ follow ls p n (link_at ls x).to (turn x us)) low ∙ ap (λ v. k ∷ follow ls p n (link_at ls k).to v) t

turn-taken : (us : List Bool) (k : ℕ) (ks : List ℕ) → is_used us k ≡ true → turn_all ks (set us k false) ≡ turn_all (k ∷ ks) us
unfolding turn_all
turn-taken us k ks e = rw e

-- the path so far and the used links, where it ends and where it goes on; f: the rest of the path
pub ended : (us : List Bool) (path f : List ℕ) → f ≡ [] → (path ≡ path ++ f) × (us ≡ turn_all f us)
unfolding turn_all
ended us path f e = (sym (ap (λ x. path ++ x) e ∙ append-nil path), ap (λ x. turn_all x us) (sym e))

pub path-on : (k : ℕ) (path path' path'' f g : List ℕ) → f ≡ k ∷ g → path' ≡ path ++ k ∷ [] → path'' ≡ path' ++ g → path'' ≡ path ++ f
path-on k path path' path'' f g e a b = b ∙ ap (λ x. x ++ g) a ∙ append_assoc path (k ∷ []) g ∙ ap (λ x. path ++ x) (sym e)

pub used-on : (us us' : List Bool) (k : ℕ) (f g : List ℕ) → is_used us k ≡ true → f ≡ k ∷ g → us' ≡ turn_all g (set us k false) → us' ≡ turn_all f us
used-on us us' k f g u e c = c ∙ turn-taken us k g u ∙ ap (λ x. turn_all x us) (sym e)

-- a used link that was found in a node's list, and where it ends
module _ (z : Graph) (us : List Bool) (q : ℕ) (row : List ℕ) (listed : row ≡ out_of (graph z).links q) (k : ℕ) (found : (ks : List ℕ) × (flagged us true row ≡ k ∷ ks)) where
  pub found-out : (ks : List ℕ) × (flagged us true (out_of (graph z).links q) ≡ k ∷ ks)
  found-out = (found.0, ap (flagged us true) (sym listed) ∙ found.1)

  pub found-used : is_used us k ≡ true
  found-used = (first_out (graph z).links 0 q us k found-out.0 found-out.1).1

  pub found_below : k < vec_len z.links
  found_below = omega (arith, links-long z, (first_out (graph z).links 0 q us k found-out.0 found-out.1).0.0)

  pub end_read : (l : Joined) → l ≡ get_or (vec_items z.links) k l → (l.to < z.nodes) × (l.to ≡ (link_at (graph z).links k).to)
  end_read l e =
      let a = ends-at z k l found_below e in
      (omega (arith, a, ((sound z).within k (omega (arith, links-long z, found_below))).1), sym a)

-- one path more
pub parted-more : (ls : List Link) (p m : ℕ) (us us' : List Bool) (path : List ℕ) → path ≡ follow ls p (used_count us) 0 us → us' ≡ turn_all (follow ls p (used_count us) 0 us) us → parted ls p (suc m) us ≡ path ∷ parted ls p m us'
unfolding parted
parted-more ls p m us us' path e f = sym (ap (λ x. x ∷ parted ls p m us') e ∙ ap (λ x. follow ls p (used_count us) 0 us ∷ parted ls p m x) f)
