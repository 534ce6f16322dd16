-- Used links that make up m paths are parted into m paths. At a node that is not the receiver a used link leads on, since as many
-- leave it as come in and one is pending; each one taken is one fewer, so the path ends, and it ends at the receiver.
use Rattle.std.proofs.Common.{◌≡◌, ℕ, zero, suc, ◌+◌, ◌<◌, Bool, true, false, cond, not, ◌&&◌, eqb, ltb, ◌⊎◌, List, [], ◌∷◌, ◌++◌, length, get_or, set, sym, refl, ap, ◌∙◌, inl, inr, arith, length-set, get_or-set_other}
use Rattle.std.proofs.lemmas.Bool.{cases_eq, cases_Bool, and_parts, eqb-true, eq-eqb, ne_eqb, both_ways, lt-ltb, false≢true}
use Rattle.network.specs.Network.{Link, link_at}
use Rattle.flow_theory.specs.Flow.{is_used, out_of, flagged, turn, turn_all, used_count, lowest, follow, parted}
use Rattle.flow_theory.specs.Promise.{Leads, AllLead, joined, Absent, Different}
use Rattle.flow_theory.proofs.Counts.{begins, Conserved, Pending, pending-0, conserved-p, turn-used}
use Rattle.flow_theory.proofs.Lists.{In, Every, listed-every, listed_in, flagged-every, flagged-in}

-- a used link out of a node
abbrev pub Out : List Link → List Bool → (q k : ℕ) → Type 0
Out ls us q k = ((k < length ls) × ((link_at ls k).from ≡ q)) × (is_used us k ≡ true)

-- where links out of a node are used, there is one
some_out : (q : ℕ) (ls : List Link) (us : List Bool) → 0 < begins ls (eqb q) us → (k : ℕ) × Out ls us q k
some_out q [] us h = absurd (omega arith)
some_out q (l ∷ ls) [] h = absurd (omega arith)
some_out q (l ∷ ls) (u ∷ us) h =
    elim (cases_Bool (u && eqb q l.from)) [
      | inl e ↦ let b = and_parts u (eqb q l.from) e in (0, ((omega arith, sym (eqb-true q l.from b.1)), b.0))
      | inr e ↦ let h' : 0 < cond false 1 0 + begins ls (eqb q) us = rw e at h in let b = some_out q ls us (omega arith) in (suc b.0, ((omega arith, b.1.0.1), b.1.1))
    ]

-- and then the lowest is found
first_out : (P : ℕ → Type 0) (ks : List ℕ) (j d : ℕ) → In j ks → Every P ks → P (get_or ks 0 d)
first_out P [] j d i e = elim i [ ]
first_out P (k ∷ ks) j d i e = e.0

out-lowest : (q : ℕ) (ls : List Link) (us : List Bool) → 0 < begins ls (eqb q) us → Out ls us q (lowest ls us q)
out-lowest q ls us h =
    let b = some_out q ls us h in
    first_out (Out ls us q) (flagged us true (out_of ls q)) b.0 (length ls) (flagged-in us true b.0 (out_of ls q) (listed_in (λ k. (link_at ls k).from) q (length ls) b.0 b.1.0.0 b.1.0.1) b.1.1)
    (flagged-every us true (λ k. (k < length ls) × ((link_at ls k).from ≡ q)) (out_of ls q) (listed-every (λ k. (link_at ls k).from) q (length ls)))

-- a link taken is one used link fewer
pub count_less : (us : List Bool) (k : ℕ) → is_used us k ≡ true → used_count us ≡ suc (used_count (set us k false))
count_less [] k e = absurd (false≢true e)
count_less (true ∷ us) zero e = omega arith
count_less (false ∷ us) zero e = absurd (false≢true e)
count_less (u ∷ us) (suc k) e = omega (arith, count_less us k e)

pub count_turn : (us : List Bool) (k : ℕ) → is_used us k ≡ true → used_count us ≡ suc (used_count (turn k us))
count_turn us k e = rw e (count_less us k e)

-- links that are used when their turn comes
abbrev pub Taken : List Bool → List ℕ → Type 0
Taken us [] = Unit {0}
Taken us (k ∷ ks) = (is_used us k ≡ true) × Taken (turn k us) ks

taken-append : (us : List Bool) (w v : List ℕ) → Taken us w → Taken (turn_all w us) v → Taken us (w ++ v)
unfolding turn_all
taken-append us [] v s t = t
taken-append us (k ∷ w) v s t = (s.0, taken-append (turn k us) w v s.1 t)

-- no link is taken twice
absent : (us : List Bool) (k : ℕ) (ks : List ℕ) → is_used us k ≡ false → Taken us ks → Absent k ks
absent us k [] e t = tt
absent us k (j ∷ ks) e t =
    let ne : k ≡ j → ⊥ = λ q. both_ways (is_used us k) e (ap (is_used us) q ∙ t.0) in
    (ne, absent (turn j us) k ks (get_or-set_other us j k (not (is_used us j)) false ne ∙ e) t.1)

turned : (us : List Bool) (k : ℕ) → is_used us k ≡ true → is_used (turn k us) k ≡ false
turned [] k e = refl
turned (u ∷ us) zero e = rw e
turned (u ∷ us) (suc k) e = turned us k e

pub different : (us : List Bool) (ks : List ℕ) → Taken us ks → Different ks
different us [] t = tt
different us (k ∷ ks) t = (absent (turn k us) k ks (turned us k t.0) t.1, different (turn k us) ks t.1)

module _ (ls : List Link) (p : ℕ) where
  abbrev Followed : ℕ → ℕ → List Bool → List ℕ → Type 0
  Followed m q us w = Leads ls q p w × Taken us w × (length (turn_all w us) ≡ length ls) × Conserved ls p m (turn_all w us)

  next : (m q : ℕ) (us : List Bool) → Pending ls p m q us → (q ≡ p → ⊥) → Out ls us q (lowest ls us q)
  next m q us b d = out-lowest q ls us (let f = rw (ne_eqb q p d, eq-eqb q q refl) at (b (eqb q)) in omega arith)

  followed : (m i q : ℕ) (us : List Bool) → used_count us ≡ i → length us ≡ length ls → Pending ls p m q us → Followed m q us (follow ls p i q us)
  unfolding follow turn_all
  followed m zero q us c a b =
      elim (cases_eq q p) [
        | inl e ↦ (e, tt, a, conserved-p ls p m us (rw e at b))
        | inr d ↦ absurd (omega (arith, count_less us (lowest ls us q) (next m q us b d).1))
      ]
  followed m (suc i) q us c a b =
      step (cases_eq q p) λ d.
      let k : ℕ = lowest ls us q in
      let f : Out ls us q k = next m q us b d in
      followed m i (link_at ls k).to (turn k us) (omega (arith, count_turn us k f.1)) (length-set us k _ ∙ a) (turn-used ls p m us k f.0.0 a f.1 (rw f.0.1 b))
    where
      k : ℕ
      k = lowest ls us q

      step : (q ≡ p) ⊎ (q ≡ p → ⊥) → ((q ≡ p → ⊥) → Followed m (link_at ls k).to (turn k us) (follow ls p i (link_at ls k).to (turn k us))) → Followed m q us (cond (not (eqb q p) && ltb k (length ls)) (k ∷ follow ls p i (link_at ls k).to (turn k us)) [])
      step (inl e) r = rw (eq-eqb q p e) (e, tt, a, conserved-p ls p m us (rw e at b))
      step (inr d) r = let f = next m q us b d in let g = r d in rw (ne_eqb q p d, lt-ltb k (length ls) f.0.0) ((f.0.0, f.0.1, g.0), (f.1, g.1), g.2, g.3)

  pub parts : (m : ℕ) (us : List Bool) → length us ≡ length ls → Conserved ls p m us → (length (parted ls p m us) ≡ m) × AllLead ls 0 p (parted ls p m us) × Taken us (joined (parted ls p m us))
  unfolding parted
  parts zero us a c = (refl, tt, tt)
  parts (suc m) us a c =
      let w : List ℕ = follow ls p (used_count us) 0 us in
      let f : Followed m 0 us w = followed m (used_count us) 0 us refl a (pending-0 ls p m us c) in
      let r = parts m (turn_all w us) f.2 f.3 in
      (omega arith, (f.0, r.1), taken-append us w (joined (parted ls p m (turn_all w us))) f.1 r.2)
