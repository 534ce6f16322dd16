-- Paths, or a cut: the used links make up as many paths as were found, and each walk that is found and turned gives one more.
use Rattle.std.proofs.Common.{◌≡◌, ℕ, zero, suc, ◌+◌, Bool, true, false, cond, List, length, replicate, sym, refl, subst, inl, inr, arith}
use lib.ListN.{length-replicate}
use Rattle.std.proofs.lemmas.Bool.{cases_Bool}
use Rattle.network.specs.Network.{Network, Sound}
use Rattle.network_cuts.specs.Cut.{out}
use Rattle.flow_theory.specs.Flow.{is_used, is_reached, links_to, reached, turn_all, parted, augment, Way}
use Rattle.flow_theory.specs.Promise.{Reached, FirstFound, Paths, Stands, PathsOrCut, joined}
use Rattle.flow_theory.proofs.Counts.{Conserved, tally-none}
use Rattle.flow_theory.proofs.Follow.{parts, different}
use Rattle.flow_theory.proofs.Search.{all-reached, source, closed}
use Rattle.flow_theory.proofs.Augment.{augmented, narrow}

module _ (z : Network) (good : Sound z) (h p : ℕ) where
  made : (d : ℕ) (us : List Bool) → length us ≡ length z.links → Conserved z.links p d us → Paths z d p (parted z.links p d us)
  made d us a c = let r = parts z.links p d us a c in record { many = r.0; lead = r.1; apart = different us (joined (parted z.links p d us)) r.2 }

  grown : (m d : ℕ) (us : List Bool) → length us ≡ length z.links → d + m ≡ h → Conserved z.links p d us → Stands z h p (augment z h p m us)
  unfolding augment
  grown zero d us a e c = let same : d ≡ h = omega arith in made h us a (subst (λ x. Conserved z.links p x us) same c)
  grown (suc m) d us a e c =
      let ws : List Way = reached z us in
      let s : Reached z.links us ws = all-reached z.nodes z.links us good.within good.some in
      elim (cases_Bool (is_reached p ws)) [
        | inl y ↦
            let w = s.walks p y in
            let g = augmented z.links p d (links_to p ws) us a w.0.walk w.1 c in
            rw y (grown m (suc d) (turn_all (links_to p ws) us) g.0 (omega arith) g.1)
        | inr y ↦
            let o : out (λ q. is_reached q ws) z.links ≡ d = narrow (λ q. is_reached q ws) z.links us p d a (closed z.links us ws s) (source z.links us ws s) y c in
            rw y (record { side = λ q. is_reached q ws; source = source z.links us ws s; receiver = y; few = omega arith }, refl, parted z.links p d us, subst (λ x. Paths z x p (parted z.links p d us)) (sym o) (made d us a c))
      ]

none-used : (n k : ℕ) → is_used (replicate n false) k ≡ false
none-used zero k = refl
none-used (suc n) zero = refl
none-used (suc n) (suc k) = none-used n k

pub stands : PathsOrCut
stands z good h p l k =
    grown z good h p h 0 (replicate (length z.links) false) (length-replicate (length z.links) false) (omega arith)
    (λ s. let n = none-used (length z.links) in omega (arith, tally-none (λ x. s x.from) z.links _ n, tally-none (λ x. s x.to) z.links _ n, nothing (s p), nothing (s 0)))
  where
    nothing : (b : Bool) → ◌≡◌ {A = ℕ} (cond b 0 0) 0
    nothing true = refl
    nothing false = refl

pub first_found : FirstFound
first_found z good us = all-reached z.nodes z.links us good.within good.some
