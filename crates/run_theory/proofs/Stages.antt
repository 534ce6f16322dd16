-- The packet of a link and a round is unsent, then under way, then kept where it arrived, then gone with its round. That it is in one
-- of these stages, and is what the synchronous network has there, holds at the start, and when a packet is kept, a round ends or a message begins.
use Rattle.std.proofs.Common.{◌≡◌, ℕ, zero, suc, ◌+◌, ◌<◌, ◌≤◌, true, false, cond, eqb, ◌⊎◌, List, [], ◌∷◌, ◌++◌, map, length, get_or, take, sym, refl, ap, ◌∙◌, ap₂, inl, inr, append_assoc, append-nil, arith}
use mathlib.Core.Path.{fun_ext}
use Rattle.std.proofs.lemmas.Bool.{cases_eq, cases_Bool, eq-eqb, ne_eqb, and_parts}
use Rattle.std.proofs.lemmas.List.{get_or_append_left, get_or_push, length_push, map_more, take-append-le}
use Rattle.network.specs.Network.{Network, Sound, link_at}
use Rattle.network_cuts.specs.Scheme.{Packet, Scheme, carried, got}
use Rattle.relay_theory.specs.Relay.{Parcel, find, State, fresh, is_in, any, came_in, is_over, Over, Ended, over_now, next, keep, after, ends, send, sent, readings}
use Rattle.relay_theory.proofs.Finds.{Other, added-same, added-other, find-append, except-same, except-other, first_of, complete-each, numbers-in, numbers-at, numbers-distinct, send-round, send-not, send-one}
use Rattle.run_theory.specs.Run.{Reader, ins, outs, change}
use Rattle.run_theory.specs.Promise.{Stage, unsent, under, here, gone}
use Rattle.run_theory.proofs.Carries.{carried-length, carried-at}
use Rattle.run_theory.proofs.Finds.{Taken, taken-other, taken-some, taken-one, came-into}

-- one node's value changed
pub change-at : {A : Type 0} (p q : ℕ) (a : A) (g : ℕ → A) → q ≡ p → change p a g q ≡ a
unfolding change
change-at p q a g e = rw (eq-eqb q p e)

pub change-off : {A : Type 0} (p q : ℕ) (a : A) (g : ℕ → A) → (q ≡ p → ⊥) → change p a g q ≡ g q
unfolding change
change-off p q a g e = rw (ne_eqb q p e)

pub change-same : {A : Type 0} (p : ℕ) (g : ℕ → A) → change p (g p) g ≡ g
change-same p g = fun_ext (λ q. elim (cases_eq q p) [ inl e ↦ change-at p q (g p) g e ∙ ap g (sym e) | inr e ↦ change-off p q (g p) g e ])

-- where nothing happens to a packet
restage : {v : Packet} {r a b : ℕ} {w h : List Packet} (v' : Packet) (a' b' : ℕ) (w' h' : List Packet) → Stage v r a b w h → (a ≤ r → a' ≤ r) → (r < a → r < a') → (b ≤ r → b' ≤ r) → (r < b → r < b') → (r < a → v ≡ v') → w' ≡ w → h' ≡ h → Stage v' r a' b' w' h'
restage v' a' b' w' h' (unsent x y e d) fa ga fb gb fv ew eh = unsent (fa x) (fb y) (ew ∙ e) (eh ∙ d)
restage v' a' b' w' h' (under x y e d) fa ga fb gb fv ew eh = under (ga x) (fb y) (ew ∙ e ∙ ap (λ u. u ∷ []) (fv x)) (eh ∙ d)
restage v' a' b' w' h' (here x y e d) fa ga fb gb fv ew eh = here (ga x) (fb y) (ew ∙ e) (eh ∙ d ∙ ap (λ u. u ∷ []) (fv x))
restage v' a' b' w' h' (gone x y e d) fa ga fb gb fv ew eh = gone (ga x) (gb y) (ew ∙ e) (eh ∙ d)

pub comes-in : (z : Network) (k p : ℕ) → is_in k (ins z p) ≡ true → (k < length z.links) × ((link_at z.links k).to ≡ p)
comes-in z k p h = let a = numbers-at (λ l. l.to) p z.links 0 k h in let q : k ≡ a.0 = omega arith in (omega arith, rw q a.3)

-- what is under way after a node has sent its packets of a round
module _ (z : Network) (f : Scheme) (way : List (Parcel Packet)) (r₀ : ℕ) (bs : List Packet) (p : ℕ) where
  none-sent : (k r : ℕ) → (k < length z.links → (link_at z.links k).from ≡ p → ⊥) → find (way ++ send f r₀ bs (outs z p)) k r ≡ find way k r
  none-sent k r h =
      let off : is_in k (outs z p) ≡ false = elim (cases_Bool (is_in k (outs z p))) [
        | inl t ↦ let a = numbers-at (λ l. l.from) p z.links 0 k t in let q : k ≡ a.0 = omega arith in absurd (h (omega arith) (rw q a.3))
        | inr t ↦ t
      ] in
      find-append k r way _ ∙ ap (λ l. find way k r ++ l) (send-not f bs k r r₀ (outs z p) off) ∙ append-nil _

  other-round : (k r : ℕ) → (r ≡ r₀ → ⊥) → find (way ++ send f r₀ bs (outs z p)) k r ≡ find way k r
  other-round k r h = find-append k r way _ ∙ ap (λ l. find way k r ++ l) (send-round f bs k r r₀ (outs z p) h) ∙ append-nil _

  one-sent : (k : ℕ) → k < length z.links → (link_at z.links k).from ≡ p → find way k r₀ ≡ [] → find (way ++ send f r₀ bs (outs z p)) k r₀ ≡ f k bs ∷ []
  one-sent k l d w =
      find-append k r₀ way _
      ∙ ap₂ (λ x y. x ++ y) w (send-one f bs k r₀ (outs z p) (numbers-distinct (λ l. l.from) p z.links 0) (numbers-in (λ l. l.from) p z.links 0 k k (omega arith) l d))

-- how many rounds a node has sent
abbrev pub rounds : List (List Packet) → (ℕ → State Packet) → ℕ → ℕ
rounds ms st p = cond (eqb p 0) (length ms) (st p).round

pub rounds-source : (ms : List (List Packet)) (st : ℕ → State Packet) (p : ℕ) → p ≡ 0 → rounds ms st p ≡ length ms
rounds-source ms st p e = rw (eq-eqb p 0 e)

pub rounds-other : (ms : List (List Packet)) (st : ℕ → State Packet) (p : ℕ) → (p ≡ 0 → ⊥) → rounds ms st p ≡ (st p).round
rounds-other ms st p e = rw (ne_eqb p 0 e)

-- what is due on a link in a round
abbrev pub value : Network → Scheme → List (List Packet) → ℕ → ℕ → Packet
value z f ms k r = get_or (carried z f (get_or ms r [])) k []

abbrev pub Staged : Network → Scheme → List (List Packet) → (ℕ → State Packet) → List (Parcel Packet) → ℕ → ℕ → Type 0
Staged z f ms st way k r = Stage (value z f ms k r) r (rounds ms st (link_at z.links k).from) (st (link_at z.links k).to).round (find way k r) ((st (link_at z.links k).to).kept k r)

pub record Core (z : Network) (f : Scheme) (read : Reader) (ms : List (List Packet)) (st : ℕ → State Packet) (way : List (Parcel Packet)) (out : ℕ → List (List Packet)) : Type 0 where
  pub links : (k r : ℕ) → k < length z.links → Staged z f ms st way k r
  pub known : (k r : ℕ) → length z.links ≤ k → find way k r ≡ []
  pub bound : (p : ℕ) → (st p).round ≤ length ms
  pub ahead : (p k r : ℕ) → (st p).round + 3 ≤ r → (st p).kept k r ≡ []
  pub put : (p : ℕ) → out p ≡ map (λ m. read p (got z f p m)) (take (st p).round ms)

module _ (z : Network) (good : Sound z) (f : Scheme) (read : Reader) where
  pub rounds-bound : {ms : List (List Packet)} {st : ℕ → State Packet} {way : List (Parcel Packet)} {out : ℕ → List (List Packet)} → Core z f read ms st way out → (p : ℕ) → rounds ms st p ≤ length ms
  rounds-bound {ms} {st} c p = elim (cases_eq p 0) [ inl e ↦ omega (arith, rounds-source ms st p e) | inr e ↦ omega (arith, rounds-other ms st p e, c.bound p) ]

  -- at the start
  pub core-start : Core z f read [] (λ _. fresh) [] (λ _. [])
  unfolding find
  core-start =
      record {
        links = λ k r l. unsent (elim (cases_eq (link_at z.links k).from 0) [ inl e ↦ omega (arith, rounds-source [] (λ _. fresh) _ e) | inr e ↦ omega (arith, rounds-other [] (λ _. fresh) _ e) ]) (omega arith) refl refl;
        known = λ k r l. refl;
        bound = λ p. omega arith;
        ahead = λ p k r l. refl;
        put = λ p. refl;
      }

  -- a packet under way is kept
  module _ (ms : List (List Packet)) (st : ℕ → State Packet) (way : List (Parcel Packet)) (out : ℕ → List (List Packet)) (p : ℕ) (s : State Packet) where
    module _ (c : Core z f read ms (change p s st) way out) (x : Parcel Packet) (ys : List (Parcel Packet)) (t : Taken x way ys) (lx : x.link < length z.links) (ep : (link_at z.links x.link).to ≡ p)
        (soon : x.round ≤ s.round + 2) where
      same-round : (q : ℕ) → (change p (keep x s) st q).round ≡ (change p s st q).round
      unfolding change
      same-round q = elim (eqb q p) as (λ v. (cond v (keep x s) (st q)).round ≡ (cond v s (st q)).round) [ true ↦ refl | false ↦ refl ]

      same-rounds : (q : ℕ) → rounds ms (change p (keep x s) st) q ≡ rounds ms (change p s st) q
      same-rounds q = ap (λ w. cond (eqb q 0) (length ms) w) (same-round q)

      same_kept : (q k r : ℕ) → Other k r x → (change p (keep x s) st q).kept k r ≡ (change p s st q).kept k r
      unfolding change
      same_kept q k r o = elim (eqb q p) as (λ v. (cond v (keep x s) (st q)).kept k r ≡ (cond v s (st q)).kept k r) [ true ↦ added-other k r x s.kept o | false ↦ refl ]

      moved : Staged z f ms (change p (keep x s) st) ys x.link x.round
      moved =
          elim (c.links x.link x.round lx) [
            | unsent a b w h ↦ absurd (taken-some t w)
            | here a b w h ↦ absurd (taken-some t w)
            | gone a b w h ↦ absurd (taken-some t w)
            | under a b w h ↦
                let one = taken-one _ t w in
                let q : ℕ = (link_at z.links x.link).to in
                let new = ap (λ (u : State Packet). u.kept x.link x.round) (change-at p q (keep x s) st ep) in
                let old = ap (λ (u : State Packet). u.kept x.link x.round) (change-at p q s st ep) in
                here (omega (arith, same-rounds (link_at z.links x.link).from)) (omega (arith, same-round q)) one.1 (new ∙ added-same x s.kept ∙ ap₂ (λ u l. u ∷ l) one.0 (sym old ∙ h))
          ]

      stages : (k r : ℕ) → k < length z.links → Staged z f ms (change p (keep x s) st) ys k r
      stages k r l = go (cases_eq k x.link) (cases_eq r x.round)
        where
          others : Other k r x → Staged z f ms (change p (keep x s) st) ys k r
          others o =
              let a = same-rounds (link_at z.links k).from in
              let b = same-round (link_at z.links k).to in
              restage _ _ _ _ _ (c.links k r l) (λ h. omega arith) (λ h. omega arith) (λ h. omega arith) (λ h. omega arith) (λ _. refl) (sym (taken-other k r t o)) (same_kept _ k r o)

          go : (k ≡ x.link) ⊎ (k ≡ x.link → ⊥) → (r ≡ x.round) ⊎ (r ≡ x.round → ⊥) → Staged z f ms (change p (keep x s) st) ys k r
          go (inl e) (inl d) = rw (e, d) moved
          go (inl e) (inr d) = others (λ _ h. d h)
          go (inr e) d = others (λ h _. e h)

      far : (q k r : ℕ) → (change p (keep x s) st q).round + 3 ≤ r → (change p (keep x s) st q).kept k r ≡ []
      far q k r l =
          elim (cases_eq q p) [
            | inl e ↦ let old = ap (λ (u : State Packet). u.round) (change-at p q s st e) in same_kept q k r (λ _ d. omega (arith, same-round q)) ∙ c.ahead q k r (omega (arith, same-round q))
            | inr e ↦ ap (λ (u : State Packet). u.kept k r) (change-off p q (keep x s) st e ∙ sym (change-off p q s st e)) ∙ c.ahead q k r (omega (arith, same-round q))
          ]

      pub core-keep : Core z f read ms (change p (keep x s) st) ys out
      core-keep =
          record {
            links = stages;
            known = λ k r l. sym (taken-other k r t (λ e _. omega arith)) ∙ c.known k r l;
            bound = λ q. omega (arith, c.bound q, same-round q);
            ahead = far;
            put = λ q. rw (same-round q) (c.put q);
          }

    -- the round that is over ends
    module _ (o : List (List Packet)) (c : Core z f read ms (change p s st) way (change p o out)) (e : is_over (ins z p) s ≡ true) where
      some_in : (k : ℕ) × (is_in k (ins z p) ≡ true)
      unfolding is_over
      some_in = first_of (ins z p) (and_parts (any (ins z p)) _ e).0

      not-source : p ≡ 0 → ⊥
      not-source d = let a = comes-in z some_in.0 p some_in.1 in (good.apart some_in.0 a.0).0 (a.1 ∙ d)

      abbrev all_here : (k : ℕ) → k < length z.links → (link_at z.links k).to ≡ p → Type 0
      all_here k l d = (s.round < rounds ms (change p s st) (link_at z.links k).from) × (find way k s.round ≡ []) × (s.kept k s.round ≡ value z f ms k s.round ∷ [])

      came-all : (k : ℕ) (l : k < length z.links) (d : (link_at z.links k).to ≡ p) → all_here k l d
      unfolding is_over
      came-all k l d =
          let at = change-at p (link_at z.links k).to s st d in
          let n = ap (λ (u : State Packet). u.round) at in
          let h = ap (λ (u : State Packet). u.kept k s.round) at in
          let full = complete-each s.round k (ins z p) s.kept (and_parts (any (ins z p)) _ e).1 (numbers-in (λ l. l.to) p z.links 0 k k (omega arith) l d) in
          elim (c.links k s.round l) [
            | unsent a b w v ↦ absurd (full (sym h ∙ v))
            | under a b w v ↦ absurd (full (sym h ∙ v))
            | here a b w v ↦ (a, w, sym h ∙ v)
            | gone a b w h ↦ absurd (omega arith)
          ]

      begun : s.round < length ms
      begun = let a = comes-in z some_in.0 p some_in.1 in omega (arith, (came-all some_in.0 a.0 a.1).0, rounds-bound c (link_at z.links some_in.0).from)

      abbrev came : List Packet
      came = came_in s.round (ins z p) s.kept

      came-got : came ≡ got z f p (get_or ms s.round [])
      came-got =
          let bs : List Packet = carried z f (get_or ms s.round []) in
          rw (ne_eqb p 0 not-source) (came-into s.round p s.kept z.links bs 0 (sym (carried-length z f _)) (λ k i q l d. let j : k ≡ i = omega arith in rw j (came-all i l d).2))

      abbrev way' : List (Parcel Packet)
      way' = way ++ send f s.round came (outs z p)

      abbrev st' : ℕ → State Packet
      st' = change p (next s) st

      due-sent : (k : ℕ) → k < length z.links → (link_at z.links k).from ≡ p → find way k s.round ≡ [] → find way' k s.round ≡ value z f ms k s.round ∷ []
      due-sent k l d w =
          let v = carried-at z good f (get_or ms s.round []) k l in
          one-sent z f way s.round came p k l d w ∙ ap (λ u. u ∷ []) (ap (f k) (came-got ∙ ap (λ q. got z f q (get_or ms s.round [])) (sym d)) ∙ sym v)

      -- a link into the node
      ends-to : (k r : ℕ) → k < length z.links → (link_at z.links k).to ≡ p → Staged z f ms st' way' k r
      ends-to k r l d =
          let w : find way' k r ≡ find way k r = none-sent z f way s.round came p k r (λ _ h. (good.apart k l).1 (h ∙ sym d)) in
          let a : rounds ms st' (link_at z.links k).from ≡ rounds ms (change p s st) (link_at z.links k).from = same (λ h. (good.apart k l).1 (h ∙ sym d)) in
          let old = change-at p (link_at z.links k).to s st d in
          let new = change-at p (link_at z.links k).to (next s) st d in
          let b₀ = ap (λ (u : State Packet). u.round) old in
          let b₁ = ap (λ (u : State Packet). u.round) new in
          elim (cases_eq r s.round) [
            | inl q ↦ let h = came-all k l d in gone (omega arith) (omega arith) (w ∙ ap (λ x. find way k x) q ∙ h.1) (ap (λ (u : State Packet). u.kept k r) new ∙ except-same k r s.round s.kept q)
            | inr q ↦
                restage _ _ _ _ _ (c.links k r l) (λ h. omega arith) (λ h. omega arith) (λ h. omega arith) (λ h. omega arith) (λ _. refl) w
                (ap (λ (u : State Packet). u.kept k r) new ∙ except-other k r s.round s.kept q ∙ sym (ap (λ (u : State Packet). u.kept k r) old))
          ]
        where
          same : ((link_at z.links k).from ≡ p → ⊥) → rounds ms st' (link_at z.links k).from ≡ rounds ms (change p s st) (link_at z.links k).from
          same h = ap (λ (u : State Packet). cond (eqb (link_at z.links k).from 0) (length ms) u.round) (change-off p _ (next s) st h ∙ sym (change-off p _ s st h))

      -- a link elsewhere
      ends-off : (k r : ℕ) → k < length z.links → ((link_at z.links k).to ≡ p → ⊥) → Staged z f ms st' way' k r
      ends-off k r l d = go (cases_eq (link_at z.links k).from p) (cases_eq r s.round) (c.links k r l)
        where
          off : st' (link_at z.links k).to ≡ change p s st (link_at z.links k).to
          off = change-off p _ (next s) st d ∙ sym (change-off p _ s st d)

          b : (st' (link_at z.links k).to).round ≡ (change p s st (link_at z.links k).to).round
          b = ap (λ u. u.round) off

          h : (st' (link_at z.links k).to).kept k r ≡ (change p s st (link_at z.links k).to).kept k r
          h = ap (λ u. u.kept k r) off

          old : (link_at z.links k).from ≡ p → rounds ms (change p s st) (link_at z.links k).from ≡ s.round
          old q = rounds-other ms (change p s st) (link_at z.links k).from (λ n. not-source (sym q ∙ n)) ∙ ap (λ (u : State Packet). u.round) (change-at p (link_at z.links k).from s st q)

          new : (link_at z.links k).from ≡ p → rounds ms st' (link_at z.links k).from ≡ s.round + 1
          new q = rounds-other ms st' (link_at z.links k).from (λ n. not-source (sym q ∙ n)) ∙ ap (λ (u : State Packet). u.round) (change-at p (link_at z.links k).from (next s) st q)

          go : ((link_at z.links k).from ≡ p) ⊎ ((link_at z.links k).from ≡ p → ⊥) → (r ≡ s.round) ⊎ (r ≡ s.round → ⊥) → Staged z f ms (change p s st) way k r → Staged z f ms st' way' k r
          go (inl q) (inl n) (unsent a y w v) = under (omega (arith, new q)) (omega (arith, b)) (rw n (due-sent k l q (rw n at w))) (h ∙ v)
          go (inl q) (inl n) (under a y w v) = absurd (omega (arith, old q))
          go (inl q) (inl n) (here a y w v) = absurd (omega (arith, old q))
          go (inl q) (inl n) (gone a y w v) = absurd (omega (arith, old q))
          go (inl q) (inr n) g = restage _ _ _ _ _ g (λ i. omega (arith, old q, new q)) (λ i. omega (arith, old q, new q)) (λ i. omega (arith, b)) (λ i. omega (arith, b)) (λ _. refl) (other-round z f way s.round came p k r n) h
          go (inr q) n g =
              let a : rounds ms st' (link_at z.links k).from ≡ rounds ms (change p s st) (link_at z.links k).from = ap (λ (u : State Packet). cond (eqb (link_at z.links k).from 0) (length ms) u.round) (change-off p _ (next s) st q ∙ sym (change-off p _ s st q)) in
              restage _ _ _ _ _ g (λ i. omega arith) (λ i. omega arith) (λ i. omega (arith, b)) (λ i. omega (arith, b)) (λ _. refl) (none-sent z f way s.round came p k r (λ _. q)) h

      ends-stages : (k r : ℕ) → k < length z.links → Staged z f ms st' way' k r
      ends-stages k r l = elim (cases_eq (link_at z.links k).to p) [ inl d ↦ ends-to k r l d | inr d ↦ ends-off k r l d ]

      abbrev State' : ℕ → Type 0
      State' q = ((st' q).round ≤ length ms) × ((k r : ℕ) → (st' q).round + 3 ≤ r → (st' q).kept k r ≡ []) × (change p (o ++ read p came ∷ []) out q ≡ map (λ m. read q (got z f q m)) (take (st' q).round ms))

      ends-state : (q : ℕ) → State' q
      ends-state q = elim (cases_eq q p) [ inl d ↦ rw d there | inr d ↦ elsewhere d ]
        where
          there : State' p
          there =
              let old = change-at p p s st refl in
              let b₀ = ap (λ (u : State Packet). u.round) old in
              let b₁ : (st' p).round ≡ s.round + 1 = ap (λ (u : State Packet). u.round) (change-at p p (next s) st refl) in
              let out₀ : o ≡ map (λ m. read p (got z f p m)) (take s.round ms) = sym (change-at p p o out refl) ∙ c.put p ∙ ap (λ n. map (λ m. read p (got z f p m)) (take n ms)) b₀ in
              let last : read p came ≡ read p (got z f p (get_or ms s.round [])) = ap (read p) came-got in (
                omega (arith, begun),
                λ k r l.
                    ap (λ (u : State Packet). u.kept k r) (change-at p p (next s) st refl) ∙ except-other k r s.round s.kept (λ n. omega arith) ∙ sym (ap (λ (u : State Packet). u.kept k r) old) ∙ c.ahead p k r (omega arith),
                change-at p p (o ++ read p came ∷ []) out refl ∙ ap₂ (λ x y. x ++ y ∷ []) out₀ last ∙ sym (map_more (λ m. read p (got z f p m)) ms s.round [] begun) ∙ ap (λ n. map (λ m. read p (got z f p m)) (take n ms)) (sym b₁),
              )

          elsewhere : (q ≡ p → ⊥) → State' q
          elsewhere d =
              let same : st' q ≡ change p s st q = change-off p q (next s) st d ∙ sym (change-off p q s st d) in
              let b : (st' q).round ≡ (change p s st q).round = ap (λ (u : State Packet). u.round) same in (
                omega (arith, c.bound q),
                λ k r l. ap (λ (u : State Packet). u.kept k r) same ∙ c.ahead q k r (omega arith),
                change-off p q (o ++ read p came ∷ []) out d ∙ sym (change-off p q o out d) ∙ c.put q ∙ ap (λ n. map (λ m. read q (got z f q m)) (take n ms)) (sym b),
              )

      pub core-end : Core z f read ms st' way' (change p (o ++ read p came ∷ []) out)
      core-end =
          record {
            links = ends-stages;
            known = λ k r l. none-sent z f way s.round came p k r (λ h _. omega arith) ∙ c.known k r l;
            bound = λ q. (ends-state q).0;
            ahead = λ q. (ends-state q).1;
            put = λ q. (ends-state q).2;
          }

  -- rounds end, one after the other
  module _ (ms : List (List Packet)) (st : ℕ → State Packet) (out : ℕ → List (List Packet)) (p : ℕ) where
    abbrev pub Ran : List (Parcel Packet) → List (List Packet) → Ended Packet → Type 0
    Ran way o e = Core z f read ms (change p e.state st) (way ++ sent f (outs z p) e.rounds) (change p (o ++ readings (read p) e.rounds) out)

    ran-none : (way : List (Parcel Packet)) (s : State Packet) (o : List (List Packet)) → Core z f read ms (change p s st) way (change p o out) → Ran way o (record { state = s; rounds = [] })
    unfolding sent readings
    ran-none way s o c = rw (append-nil way, append-nil o) c

    ran-after : (way : List (Parcel Packet)) (o : List (List Packet)) (v : Over Packet) (e : Ended Packet) → Ran (way ++ send f v.number v.came (outs z p)) (o ++ read p v.came ∷ []) e → Ran way o (after (v ∷ []) e)
    unfolding sent readings
    ran-after way o v e c = simp append_assoc at c

    pub core-ends : (n : ℕ) (way : List (Parcel Packet)) (s : State Packet) (o : List (List Packet)) → Core z f read ms (change p s st) way (change p o out) → Ran way o (ends n (ins z p) s)
    unfolding ends
    core-ends zero way s o c = ran-none way s o c
    core-ends (suc n) way s o c =
        elim (cases_Bool (is_over (ins z p) s)) [
          | inl e ↦ rw e (ran-after way o (over_now (ins z p) s) _ (core-ends n _ (next s) _ (core-end ms st way out p s o c e)))
          | inr e ↦ rw e (ran-none way s o c)
        ]

  -- the source begins a message
  module _ (ms : List (List Packet)) (st : ℕ → State Packet) (way : List (Parcel Packet)) (out : ℕ → List (List Packet)) (c : Core z f read ms st way out) (m : List Packet) where
    abbrev ms⁺ : List (List Packet)
    ms⁺ = ms ++ m ∷ []

    abbrev way⁺ : List (Parcel Packet)
    way⁺ = way ++ send f (length ms) m (outs z 0)

    first-sent : (k : ℕ) → k < length z.links → (link_at z.links k).from ≡ 0 → find way k (length ms) ≡ [] → find way⁺ k (length ms) ≡ value z f ms⁺ k (length ms) ∷ []
    first-sent k l d w =
        let v = carried-at z good f m k l in
        let g : get_or ms⁺ (length ms) [] ≡ m = get_or_push ms m [] (length ms) refl in
        let h : got z f (link_at z.links k).from m ≡ m = rw (eq-eqb (link_at z.links k).from 0 d) refl in
        one-sent z f way (length ms) m 0 k l d w ∙ ap (λ u. u ∷ []) (ap (f k) (sym h) ∙ sym v ∙ ap (λ u. get_or (carried z f u) k []) (sym g))

    begin-stages : (k r : ℕ) → k < length z.links → Staged z f ms⁺ st way⁺ k r
    begin-stages k r l = go (cases_eq (link_at z.links k).from 0) (cases_eq r (length ms)) (c.links k r l)
      where
        n⁺ : length ms⁺ ≡ length ms + 1
        n⁺ = length_push ms m

        old : (link_at z.links k).from ≡ 0 → rounds ms st (link_at z.links k).from ≡ length ms
        old d = rounds-source ms st (link_at z.links k).from d

        new : (link_at z.links k).from ≡ 0 → rounds ms⁺ st (link_at z.links k).from ≡ length ms + 1
        new d = rounds-source ms⁺ st (link_at z.links k).from d ∙ n⁺

        same : r < rounds ms st (link_at z.links k).from → value z f ms k r ≡ value z f ms⁺ k r
        same i = ap (λ u. get_or (carried z f u) k []) (sym (get_or_append_left ms (m ∷ []) [] r (omega (arith, rounds-bound c (link_at z.links k).from))))

        go : ((link_at z.links k).from ≡ 0) ⊎ ((link_at z.links k).from ≡ 0 → ⊥) → (r ≡ length ms) ⊎ (r ≡ length ms → ⊥) → Staged z f ms st way k r → Staged z f ms⁺ st way⁺ k r
        go (inl d) (inl q) (unsent a b w v) = under (omega (arith, new d)) b (rw q (first-sent k l d (rw q at w))) v
        go (inl d) (inl q) (under a b w v) = absurd (omega (arith, old d))
        go (inl d) (inl q) (here a b w v) = absurd (omega (arith, old d))
        go (inl d) (inl q) (gone a b w v) = absurd (omega (arith, old d))
        go (inl d) (inr q) g =
            restage _ _ _ _ _ g (λ i. omega (arith, old d, new d)) (λ i. omega (arith, old d, new d)) (λ i. i) (λ i. i) same
            (other-round z f way (length ms) m 0 k r q) refl
        go (inr d) q g =
            let a : rounds ms⁺ st (link_at z.links k).from ≡ rounds ms st (link_at z.links k).from = rounds-other ms⁺ st _ d ∙ sym (rounds-other ms st _ d) in
            restage _ _ _ _ _ g (λ i. omega arith) (λ i. omega arith) (λ i. i) (λ i. i) same (none-sent z f way (length ms) m 0 k r (λ _. d)) refl

    pub core-begin : Core z f read ms⁺ st way⁺ out
    core-begin =
        record {
          links = begin-stages;
          known = λ k r l. none-sent z f way (length ms) m 0 k r (λ h _. omega arith) ∙ c.known k r l;
          bound = λ q. omega (arith, c.bound q, length_push ms m);
          ahead = c.ahead;
          put = λ q. c.put q ∙ ap (map (λ m. read q (got z f q m))) (sym (take-append-le (st q).round ms (m ∷ []) (c.bound q)));
        }
