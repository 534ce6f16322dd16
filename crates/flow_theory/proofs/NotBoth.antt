-- Each path crosses a cut, by a link of its own; so there are no more paths than links that lead out.
use Rattle.std.proofs.Common.{◌≡◌, ℕ, ◌+◌, ◌≤◌, Bool, true, false, cond, not, ◌&&◌, List, [], ◌∷◌, ◌++◌, length, replicate, sym, refl, ap, ◌∙◌, inl, inr, arith, length-set, get_or-set_other}
use lib.ListN.{length-replicate, get_or-replicate}
use Rattle.std.proofs.lemmas.Bool.{cases_Bool, both_ways}
use Rattle.network.specs.Network.{Link, link_at}
use Rattle.network_cuts.specs.Cut.{out}
use Rattle.flow_theory.specs.Flow.{is_used, turn}
use Rattle.flow_theory.specs.Promise.{Leads, AllLead, joined, Absent, Different, NotBoth}
use Rattle.flow_theory.proofs.Counts.{tally, tally-less}
use Rattle.flow_theory.proofs.Follow.{Taken}

-- links that differ can be taken one after the other
abbrev AllUsed : List Bool → List ℕ → Type 0
AllUsed us [] = Unit {0}
AllUsed us (k ∷ ks) = (is_used us k ≡ true) × AllUsed us ks

used-append : (us : List Bool) (a b : List ℕ) → AllUsed us a → AllUsed us b → AllUsed us (a ++ b)
used-append us [] b x y = y
used-append us (k ∷ a) b x y = (x.0, used-append us a b x.1 y)

used_turn : (us : List Bool) (k : ℕ) (ks : List ℕ) → Absent k ks → AllUsed us ks → AllUsed (turn k us) ks
used_turn us k [] a x = tt
used_turn us k (j ∷ ks) a x = (get_or-set_other us k j (not (is_used us k)) false (λ e. a.0 (sym e)) ∙ x.0, used_turn us k ks a.1 x.1)

taken : (us : List Bool) (ks : List ℕ) → Different ks → AllUsed us ks → Taken us ks
taken us [] d x = tt
taken us (k ∷ ks) d x = (x.0, taken (turn k us) ks d.1 (used_turn us k ks d.0 x.1))

module _ (ls : List Link) (side : ℕ → Bool) where
  abbrev all : List Bool
  all = replicate (length ls) true

  abbrev cross : Link → Bool
  cross l = side l.from && not (side l.to)

  lead-used : (q p : ℕ) (w : List ℕ) → Leads ls q p w → AllUsed all w
  lead-used q p [] l = tt
  lead-used q p (k ∷ w) l = (get_or-replicate (length ls) k true false l.0, lead-used (link_at ls k).to p w l.2)

  leads-used : (p : ℕ) (ws : List (List ℕ)) → AllLead ls 0 p ws → AllUsed all (joined ws)
  leads-used p [] l = tt
  leads-used p (w ∷ ws) l = used-append all w (joined ws) (lead-used 0 p w l.0) (leads-used p ws l.1)

  -- what is left when links are taken
  abbrev Left : (us : List Bool) (v : List ℕ) (m : ℕ) → Type 0
  Left us v m = (us' : List Bool) × (length us' ≡ length ls) × Taken us' v × (m + tally cross ls us' ≤ tally cross ls us)

  module _ (p : ℕ) (o : side p ≡ false) where
    outside : (q : ℕ) (w v : List ℕ) (us : List Bool) → length us ≡ length ls → Leads ls q p w → Taken us (w ++ v) → Left us v 0
    outside q [] v us a l t = (us, a, t, omega arith)
    outside q (k ∷ w) v us a l t =
        let r = outside (link_at ls k).to w v (turn k us) (length-set us k _ ∙ a) l.2 t.1 in
        let e : tally cross ls us ≡ cond (cross (link_at ls k)) 1 0 + tally cross ls (turn k us) = rw t.0 (tally-less cross ls us k l.0 a t.0) in
        (r.0, r.1, r.2, omega arith)

    crossing : (q : ℕ) (w v : List ℕ) (us : List Bool) → length us ≡ length ls → side q ≡ true → Leads ls q p w → Taken us (w ++ v) → Left us v 1
    crossing q [] v us a i l t = absurd (both_ways (side p) o (ap side (sym l) ∙ i))
    crossing q (k ∷ w) v us a i l t =
        let e : tally cross ls us ≡ cond (cross (link_at ls k)) 1 0 + tally cross ls (turn k us) = rw t.0 (tally-less cross ls us k l.0 a t.0) in
        let n : length (turn k us) ≡ length ls = length-set us k _ ∙ a in
        elim (cases_Bool (side (link_at ls k).to)) [
          | inl s ↦ let r = crossing (link_at ls k).to w v (turn k us) n s l.2 t.1 in (r.0, r.1, r.2, omega arith)
          | inr s ↦
              let c : cross (link_at ls k) ≡ true = rw (l.1, i, s) in
              let r = outside (link_at ls k).to w v (turn k us) n l.2 t.1 in
              (r.0, r.1, r.2, omega (arith, rw c at e))
        ]

    many-cross : (ws : List (List ℕ)) (us : List Bool) → side 0 ≡ true → length us ≡ length ls → AllLead ls 0 p ws → Taken us (joined ws) → length ws ≤ tally cross ls us
    many-cross [] us i a l t = omega arith
    many-cross (w ∷ ws) us i a l t =
        let r = crossing 0 w (joined ws) us a i l.0 t in
        omega (arith, many-cross ws r.0 i r.1 l.1 r.2)

all-out : (side : ℕ → Bool) (ls : List Link) → tally (cross ls side) ls (replicate (length ls) true) ≡ out side ls
unfolding out
all-out side [] = refl
all-out side (l ∷ ls) = ap (λ x. cond (side l.from && not (side l.to)) 1 0 + x) (all-out side ls)

pub not-both : NotBoth
not-both z h p ws s c =
    let ls : List Link = z.links in
    let l = s.lead in
    omega (arith, c.few, s.many, all-out c.side ls, many-cross ls c.side p c.receiver ws (all ls c.side) c.source (length-replicate (length ls) true) l (taken (all ls c.side) (joined ws) s.apart (leads-used ls c.side p ws l)))
