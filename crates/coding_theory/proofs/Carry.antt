-- What each link carries is the mix of the message by its vector: link by link, since a mix of mixes is the mix by the mixed vectors.
use Rattle.std.proofs.Common.{◌≡◌, ℕ, ◌+◌, true, false, cond, eqb, List, [], ◌∷◌, ◌++◌, length, sym, ap, ◌∙◌, subst, append_assoc, arith}
use lib.Seq.{get_or_at}
use Rattle.gf.specs.Field.{Field}
use Rattle.linear.specs.Vectors.{row, units, mixed}
use Rattle.linear.specs.Transport.{Both, none, and, Message, IsMix}
use Rattle.linear.proofs.Transport.{both_at, both-length, unmixed, transport}
use Rattle.network.specs.Network.{Link}
use Rattle.network_cuts.specs.Scheme.{Packet, into, hand, carry}
use Rattle.coding_theory.specs.Coding.{linear, Carrier, message, link, on_carrier, Coded, chosen, one_more, along}
use Rattle.coding_theory.specs.Promise.{Ends}
use Rattle.coding_theory.proofs.Steps.{along-coefficients}
use Rattle.coding_theory.proofs.Loop.{length_push}

pub both-push : {A B : Type 0} (R : A → B → Type 0) (xs : List A) (ys : List B) (x : A) (y : B) → Both R xs ys → R x y → Both R (xs ++ x ∷ []) (ys ++ y ∷ [])
both-push R [] [] x y none r = and r none
both-push R [] (b ∷ ys) x y s r = elim s [ ]
both-push R (a ∷ xs) [] x y s r = elim s [ ]
both-push R (a ∷ xs) (b ∷ ys) x y (and s ss) r = and s (both-push R xs ys x y ss r)

module _ (R : Packet → List ℕ → Type 0) where
  both-into : (p : ℕ) (ls : List Link) (bs : List Packet) (vs : List (List ℕ)) → Both R bs vs → Both R (into p ls bs) (into p ls vs)
  unfolding into
  both-into p [] bs vs s = none
  both-into p (l ∷ ls) [] [] none = none
  both-into p (l ∷ ls) [] (v ∷ vs) s = elim s [ ]
  both-into p (l ∷ ls) (b ∷ bs) [] s = elim s [ ]
  both-into p (l ∷ ls) (b ∷ bs) (v ∷ vs) (and s ss) =
      elim (eqb p l.to) as (λ t. Both R (cond t (b ∷ into p ls bs) (into p ls bs)) (cond t (v ∷ into p ls vs) (into p ls vs))) [
        | true ↦ and s (both-into p ls bs vs ss)
        | false ↦ both-into p ls bs vs ss
      ]

  both-hand : (p : ℕ) (m : List Packet) (us : List (List ℕ)) (ls : List Link) (bs : List Packet) (vs : List (List ℕ)) → Both R m us → Both R bs vs
      → Both R (hand p m ls bs) (hand p us ls vs)
  both-hand p m us ls bs vs r s = elim (eqb p 0) as (λ t. Both R (cond t m (into p ls bs)) (cond t us (into p ls vs))) [ true ↦ r | false ↦ both-into p ls bs vs s ]

module _ (F : Field) (n h : ℕ) (m : List Packet) where
  open F use {size, times, laws}
  open laws use {more}

  abbrev pub Is : Packet → List ℕ → Type 0
  Is = IsMix F n h m

  module _ (msg : Message F n h m) where
    is-units : Both Is m (units h)
    is-units = unmixed F n h m msg

    pub along-is : (after before : List Link) (c : Coded) (bs : List Packet) (k : ℕ) (cs : List (List ℕ)) → k ≡ length before → length c.coefficients ≡ length before
        → cs ≡ (along F h before after c).coefficients → Both Is bs c.vectors → Both Is (carry (linear F n cs) m k before after bs) (along F h before after c).vectors
    unfolding carry along one_more
    along-is [] before c bs k cs lk lc e s = s
    along-is (l ∷ after) before c bs k cs lk lc e s =
        along-is after (before ++ l ∷ []) (one_more F h before l c) (bs ++ mixed F n (row cs k) (hand l.from m before bs) ∷ []) (k + 1) cs
        (omega (arith, length_push before l)) (length_push c.coefficients (chosen F h before l c) ∙ omega (arith, length_push before l)) e
        (both-push Is bs c.vectors (mixed F n (row cs k) (hand l.from m before bs)) (mixed F h (chosen F h before l c) (hand l.from (units h) before c.vectors)) s
        (subst (λ q. Is (mixed F n q (hand l.from m before bs)) (mixed F h (chosen F h before l c) (hand l.from (units h) before c.vectors))) (sym picked)
        (transport F n h m (hand l.from m before bs) (hand l.from (units h) before c.vectors)
        (both-hand Is l.from m (units h) before bs c.vectors is-units s) (chosen F h before l c)).1))
      where
        picked : row cs k ≡ chosen F h before l c
        picked =
            ap (λ q. row q k) (e ∙ along-more)
            ∙ get_or_at c.coefficients (chosen F h before l c) (along-coefficients F h after (before ++ l ∷ []) (one_more F h before l c)).0 [] k (lc ∙ sym lk)
          where
            along-more : (along F h before (l ∷ after) c).coefficients ≡ c.coefficients ++ chosen F h before l c ∷ (along-coefficients F h after (before ++ l ∷ []) (one_more F h before l c)).0
            along-more =
                (along-coefficients F h after (before ++ l ∷ []) (one_more F h before l c)).1
                ∙ append_assoc c.coefficients (chosen F h before l c ∷ []) (along-coefficients F h after (before ++ l ∷ []) (one_more F h before l c)).0

    pub is-on : (ls : List Link) (bs : List Packet) (vs : List (List ℕ)) → Both Is bs vs → length vs ≡ length ls → (c : Carrier) (p : ℕ) → Ends ls h (length ls) c p
        → Is (on_carrier m bs c) (on_carrier (units h) vs c)
    is-on ls bs vs s lv (message i) p x = both_at Is m (units h) [] [] is-units i (omega (arith, msg.many, x.0))
    is-on ls bs vs s lv (link k) p x = both_at Is bs vs [] [] s k (omega (arith, x.0, both-length Is bs vs s))
