-- What holds at the start and is kept by every event holds of every state that a run leads to: the stages of all packets, that no round
-- is over and not ended, and, where the source waits by its rule, that no node is more than three rounds behind.
use Rattle.std.proofs.Common.{◌≡◌, ℕ, zero, suc, ◌+◌, ◌<◌, ◌≤◌, Bool, true, false, cond, not, ◌||◌, ltb, ◌⊎◌, List, [], ◌∷◌, map, length, take, sym, refl, ap, ◌∙◌, subst, inl, inr, arith}
use Rattle.std.proofs.lemmas.Bool.{cases_eq, cases_lt, cases_Bool, and_parts, and_from, both_ways, or_cases, not-true, ltb-true}
use Rattle.std.proofs.lemmas.List.{take_all, length_push}
use Rattle.network.specs.Network.{Network, Sound, link_at}
use Rattle.network_cuts.specs.Scheme.{Packet, Scheme, got}
use Rattle.relay_theory.specs.Relay.{Parcel, find, State, is_in, any, is_over, next, keep, ends}
use Rattle.relay_theory.proofs.Finds.{in-any, complete-from, numbers-in}
use Rattle.relay_theory.proofs.Receives.{Fits, Received, not_taken, taken, received, accepts, never-over, ends-idle}
use Rattle.run_theory.specs.Run.{Reader, Config, start, Event, begin, deliver, Outcome, went, cannot, refuses, and_then, ins, change, picked, caught_up, third_before, beginning, onward, arrive, step, steps, run}
use Rattle.run_theory.specs.Promise.{Supplied, Led, unsent, under, here, gone, Whereabouts, UnderWay, Prompt, PutOut, AllOut, CanArrive, NoneRefused}
use Rattle.run_theory.proofs.Carries.{none-behind}
use Rattle.run_theory.proofs.Finds.{Taken, taken-some, none, some, picks}
use Rattle.run_theory.proofs.Stages.{change-at, change-off, change-same, comes-in, rounds, rounds-source, rounds-other, Core, rounds-bound, core-start, core-keep, core-ends, core-begin}

-- what is said of the outcome of events
abbrev pub After : (Config → Type 0) → Type 0 → Outcome → Type 0
After P R (went c) = P c
After P R cannot = Unit {0}
After P R (refuses n) = R

not-in-none : (k : ℕ) → is_in k [] ≡ false
unfolding is_in
not-in-none k = refl

ends-grow : (is : List ℕ) (n : ℕ) (s : State Packet) → s.round ≤ (ends n is s).state.round
unfolding ends
ends-grow is zero s = omega arith
ends-grow is (suc n) s = elim (cases_Bool (is_over is s)) [ inl e ↦ rw e (omega (arith, ends-grow is n (next s))) | inr e ↦ rw e (omega arith) ]

module _ (z : Network) (good : Sound z) (f : Scheme) (read : Reader) where
  pub record Inv (c : Config) : Type 0 where
    pub core : Core z f read c.begun c.states c.way c.out
    pub idle : (p : ℕ) → is_over (ins z p) (c.states p) ≡ false
    pub silent : (p : ℕ) → ins z p ≡ [] → (c.states p).round ≡ 0

  pub inv-start : Inv start
  inv-start = record { core = core-start z good f read; idle = λ p. never-over (ins z p) _ (λ k. refl); silent = λ p e. refl }

  pub inv-begin : (c : Config) (m : List Packet) → Inv c → Inv (beginning z f read c m)
  inv-begin c m i = record { core = core-begin z good f read c.begun c.states c.way c.out i.core m; idle = i.idle; silent = i.silent }

  pub inv-arrive : (c : Config) (x : Parcel Packet) (ys : List (Parcel Packet)) (p : ℕ) → Inv c → Taken x c.way ys → Fits (ins z p) (c.states p) x → Inv (onward z f read c p ys (ends 3 (ins z p) (keep x (c.states p))))
  inv-arrive c x ys p i t h = record { core = ran; idle = rests; silent = never }
    where
      s : State Packet
      s = c.states p

      kept : Core z f read c.begun (change p (keep x (c.states p)) c.states) ys c.out
      kept =
          let a = comes-in z x.link p h.comes in
          core-keep z good f read c.begun c.states c.way c.out p (c.states p) (rw (change-same p c.states) i.core) x ys t a.0 a.1 h.soon

      ran : Core z f read c.begun (onward z f read c p ys (ends 3 (ins z p) (keep x (c.states p)))).states (onward z f read c p ys (ends 3 (ins z p) (keep x (c.states p)))).way (onward z f read c p ys (ends 3 (ins z p) (keep x (c.states p)))).out
      ran = core-ends z good f read c.begun c.states c.out p 3 ys (keep x (c.states p)) (c.out p) (rw (change-same p c.out) kept)

      bounded : (k r : ℕ) → (keep x (c.states p)).round + 3 ≤ r → (keep x (c.states p)).kept k r ≡ []
      bounded = rw (change-at p p (keep x (c.states p)) c.states refl) at (kept.ahead p)

      rests : (q : ℕ) → is_over (ins z q) (change p (ends 3 (ins z p) (keep x (c.states p))).state c.states q) ≡ false
      rests q =
          elim (cases_eq q p) [
            | inl e ↦ rw e (rw (change-at p p (ends 3 (ins z p) (keep x (c.states p))).state c.states refl) (ends-idle (ins z p) 3 (keep x (c.states p)) bounded))
            | inr e ↦ rw (change-off p q (ends 3 (ins z p) (keep x (c.states p))).state c.states e) (i.idle q)
          ]

      never : (q : ℕ) → ins z q ≡ [] → (change p (ends 3 (ins z p) (keep x (c.states p))).state c.states q).round ≡ 0
      never q n =
          elim (cases_eq q p) [
            | inl e ↦ absurd (both_ways (is_in x.link (ins z p)) (ap (is_in x.link) (ap (ins z) (sym e) ∙ n) ∙ not-in-none x.link) h.comes)
            | inr e ↦ rw (change-off p q (ends 3 (ins z p) (keep x (c.states p))).state c.states e) (i.silent q n)
          ]

  inv-step : (may : Config → Bool) (c : Config) (e : Event) → Inv c → After Inv (Unit {0}) (step z f read may c e)
  inv-step may c (begin m) i = elim (may c) as (λ v. After Inv (Unit {0}) (cond v (went (beginning z f read c m)) cannot)) [ true ↦ inv-begin c m i | false ↦ tt ]
  inv-step may c (deliver n) i =
      elim (picks n c.way) [
        | none e l ↦ rw e tt
        | some x ys e t ↦ rw e (arrives x ys t (received (ins z (link_at z.links x.link).to) (c.states (link_at z.links x.link).to) x))
      ]
    where
      arrives : (x : Parcel Packet) (ys : List (Parcel Packet)) → Taken x c.way ys → Received (ins z (link_at z.links x.link).to) (c.states (link_at z.links x.link).to) x → After Inv (Unit {0}) (arrive z f read c (picked x ys))
      arrives x ys t (not_taken k e) = rw e tt
      arrives x ys t (taken h) = rw (accepts _ _ x h) (inv-arrive c x ys _ i t h)

  pub keeps : (may : Config → Bool) (P : Config → Type 0) (R : Type 0) → ((c : Config) (e : Event) → P c → After P R (step z f read may c e)) → (es : List Event) (c : Config) → P c → After P R (steps z f read may es c)
  keeps may P R h [] c p = p
  keeps may P R h (e ∷ es) c p = go (step z f read may c e) (h c e p) (keeps may P R h es)
    where
      go : (o : Outcome) → After P R o → ((c : Config) → P c → After P R (steps z f read may es c)) → After P R (and_then o (steps z f read may es))
      go (went c) a g = g c a
      go cannot a g = tt
      go (refuses n) a g = a

  pub inv-led : (may : Config → Bool) (c : Config) → Led z f read may c → Inv c
  inv-led may c l = subst (After Inv (Unit {0})) l.1 (keeps may Inv (Unit {0}) (inv-step may) l.0 start inv-start)

pub whereabouts : Whereabouts
whereabouts z g f read may c led k r l = (inv-led z g f read may c led).core.links k r l

pub under-way : UnderWay
under-way z g f read may c led k r =
    let i = inv-led z g f read may c led in
    elim (cases_lt k (length z.links)) [
      | inl l ↦
          elim (i.core.links k r l) [
            | unsent a b w h ↦ inl w
            | under a b w h ↦ inr (l, omega (arith, rounds-bound z g f read i.core (link_at z.links k).from), w)
            | here a b w h ↦ inl w
            | gone a b w h ↦ inl w
          ]
      | inr l ↦ inl (i.core.known k r l)
    ]

pub prompt : Prompt
prompt z g f read may c led p =
    let i = inv-led z g f read may c led in
    (i.idle p, λ n. i.core.put p ∙ ap (λ k. map (λ m. read p (got z f p m)) (take k c.begun)) (i.silent p n))

pub put-out : PutOut
put-out z g f read may c led p = let i = inv-led z g f read may c led in ((c.states p).round, i.core.bound p, i.core.put p)

-- nothing is under way
module _ (z : Network) (good : Sound z) (f : Scheme) (read : Reader) (c : Config) (i : Inv z good f read c) (rest : c.way ≡ []) where
  nothing-found : (k r : ℕ) → find c.way k r ≡ []
  unfolding find
  nothing-found k r = rw rest refl

  -- where all has been sent that comes into a node, all its rounds are over
  pub all_in : (j : ℕ) → j < length z.links → ((k : ℕ) → k < length z.links → (link_at z.links k).to ≡ (link_at z.links j).to → length c.begun ≤ rounds c.begun c.states (link_at z.links k).from) → length c.begun ≤ (c.states (link_at z.links j).to).round
  unfolding is_over
  all_in j lj all = elim (cases_lt (c.states p).round (length c.begun)) [ inl l ↦ absurd (both_ways _ (i.idle p) (over l)) | inr l ↦ l ]
    where
      p : ℕ
      p = (link_at z.links j).to

      each : (c.states (link_at z.links j).to).round < length c.begun → (k : ℕ) → is_in k (ins z (link_at z.links j).to) ≡ true → (c.states (link_at z.links j).to).kept k (c.states (link_at z.links j).to).round ≡ [] → ⊥
      each l k h n =
          let r : ℕ = (c.states (link_at z.links j).to).round in
          let a = comes-in z k (link_at z.links j).to h in
          let b = all k a.0 a.1 in
          let at = ap c.states a.1 in
          let e = ap (λ (u : State Packet). u.round) at in
          let g = ap (λ (u : State Packet). u.kept k r) at in
          elim (i.core.links k r a.0) [
            | unsent x y w v ↦ omega arith
            | under x y w v ↦ let no = ap length (sym (nothing-found k r) ∙ w) in omega arith
            | here x y w v ↦ let no = ap length (sym n ∙ sym g ∙ v) in omega arith
            | gone x y w v ↦ omega arith
          ]

      over : (c.states (link_at z.links j).to).round < length c.begun → is_over (ins z (link_at z.links j).to) (c.states (link_at z.links j).to) ≡ true
      over l = and_from _ _ (in-any _ _ (numbers-in (λ l. l.to) (link_at z.links j).to z.links 0 j j (omega arith) lj refl)) (complete-from _ _ _ (each l))

  pub all-sent : Supplied z → (b k : ℕ) → k < b → k < length z.links → length c.begun ≤ rounds c.begun c.states (link_at z.links k).from
  all-sent fed zero k h l = absurd (omega arith)
  all-sent fed (suc b) k h l = go (cases_eq (link_at z.links k).from 0) (all-sent fed b)
    where
      go : ((link_at z.links k).from ≡ 0) ⊎ ((link_at z.links k).from ≡ 0 → ⊥)
          → ((k : ℕ) → k < b → k < length z.links → length c.begun ≤ rounds c.begun c.states (link_at z.links k).from)
          → length c.begun ≤ rounds c.begun c.states (link_at z.links k).from
      go (inl e) ih = omega (arith, rounds-source c.begun c.states (link_at z.links k).from e)
      go (inr e) ih =
          let j = fed k l e in
          let before : (m : ℕ) → m < length z.links → (link_at z.links m).to ≡ (link_at z.links j.0).to → m < k = λ m i d. elim (cases_lt m k) [ inl h ↦ h | inr h ↦ absurd (none-behind z good k m h i (d ∙ j.2)) ] in
          let r = all_in j.0 j.1 (λ m i d. ih m (omega (arith, before m i d)) i) in
          omega (arith, rounds-other c.begun c.states (link_at z.links k).from e, ap (λ q. (c.states q).round) j.2)

pub all-out : AllOut
all-out z g fed f read may c led rest k l =
    let i = inv-led z g f read may c led in
    let p : ℕ = (link_at z.links k).to in
    let n = all_in z g f read c i rest k l (λ m h d. all-sent z g f read c i rest fed (suc m) m (omega arith) h) in
    i.core.put p ∙ ap (map (λ m. read p (got z f p m))) (take_all (c.states p).round c.begun n)

-- the source waits
caught-up : (z : Network) (c : Config) (n : ℕ) → caught_up z c n ≡ true → (p : ℕ) → p < n → any (ins z p) ≡ true → length c.begun < (c.states p).round + 3
unfolding caught_up
caught-up z c zero h p l a = absurd (omega arith)
caught-up z c (suc n) h p l a =
    let b = and_parts (not (any (ins z n)) || ltb (length c.begun) ((c.states n).round + 3)) (caught_up z c n) h in
    elim (cases_eq p n) [
      | inl e ↦ elim (or_cases (not (any (ins z n))) _ b.0) [ inl t ↦ absurd (both_ways _ (not-true _ t) (rw e at a)) | inr t ↦ rw e (ltb-true _ _ t) ]
      | inr e ↦ caught-up z c n b.1 p (omega arith) a
    ]

module _ (z : Network) (good : Sound z) (f : Scheme) (read : Reader) where
  record Near (c : Config) : Type 0 where
    inv : Inv z good f read c
    near : (p : ℕ) → p < z.nodes → any (ins z p) ≡ true → length c.begun ≤ (c.states p).round + 3

  -- what is under way fits where it arrives
  fits : (c : Config) → Near c → (x : Parcel Packet) (ys : List (Parcel Packet)) → Taken x c.way ys → Fits (ins z (link_at z.links x.link).to) (c.states (link_at z.links x.link).to) x
  fits c i x ys t = elim (cases_lt x.link (length z.links)) [ inl l ↦ known l | inr l ↦ absurd (taken-some t (i.inv.core.known x.link x.round l)) ]
    where
      known : x.link < length z.links → Fits (ins z (link_at z.links x.link).to) (c.states (link_at z.links x.link).to) x
      known l =
          let p : ℕ = (link_at z.links x.link).to in
          let comes : is_in x.link (ins z p) ≡ true = numbers-in (λ l. l.to) p z.links 0 x.link x.link (omega arith) l refl in
          let n = i.near p (good.within x.link l).1 (in-any _ _ comes) in
          elim (i.inv.core.links x.link x.round l) [
            | unsent a b w h ↦ absurd (taken-some t w)
            | under a b w h ↦ record { comes = comes; open' = b; free = h; soon = omega (arith, rounds-bound z good f read i.inv.core (link_at z.links x.link).from) }
            | here a b w h ↦ absurd (taken-some t w)
            | gone a b w h ↦ absurd (taken-some t w)
          ]

  near-start : Near start
  near-start = record { inv = inv-start z good f read; near = λ p l a. omega arith }

  near-arrive : (c : Config) → Near c → (x : Parcel Packet) (ys : List (Parcel Packet)) (p : ℕ) → Taken x c.way ys → Fits (ins z p) (c.states p) x → Near (onward z f read c p ys (ends 3 (ins z p) (keep x (c.states p))))
  near-arrive c i x ys p t h = record { inv = inv-arrive z good f read c x ys p i.inv t h; near = later }
    where
      later : (q : ℕ) → q < z.nodes → any (ins z q) ≡ true → length c.begun ≤ (change p (ends 3 (ins z p) (keep x (c.states p))).state c.states q).round + 3
      later q l a =
          elim (cases_eq q p) [
            | inl e ↦ rw (change-at p q (ends 3 (ins z p) (keep x (c.states p))).state c.states e) (omega (arith, ends-grow (ins z p) 3 (keep x (c.states p)), i.near q l a, ap (λ q. (c.states q).round) e))
            | inr e ↦ rw (change-off p q (ends 3 (ins z p) (keep x (c.states p))).state c.states e) (i.near q l a)
          ]

  arrives_at : (c : Config) → Near c → (x : Parcel Packet) (ys : List (Parcel Packet)) → Taken x c.way ys → arrive z f read c (picked x ys) ≡ went (onward z f read c (link_at z.links x.link).to ys (ends 3 (ins z (link_at z.links x.link).to) (keep x (c.states (link_at z.links x.link).to))))
  arrives_at c i x ys t = rw (accepts _ _ x (fits c i x ys t)) refl

  near_step : (c : Config) (e : Event) → Near c → After Near ⊥ (step z f read (third_before z) c e)
  near_step c (begin m) i = elim (cases_Bool (third_before z c)) [ inl e ↦ rw e (record { inv = inv-begin z good f read c m i.inv; near = λ p l a. omega (arith, caught-up z c z.nodes e p l a, length_push c.begun m) }) | inr e ↦ rw e tt ]
  near_step c (deliver n) i =
      elim (picks n c.way) [
        | none e l ↦ rw e tt
        | some x ys e t ↦ rw (e, arrives_at c i x ys t) (near-arrive c i x ys _ t (fits c i x ys t))
      ]

  near-all : (es : List Event) → After Near ⊥ (run z f read (third_before z) es)
  near-all es = keeps z good f read (third_before z) Near ⊥ near_step es start near-start

pub can-arrive : CanArrive
can-arrive z g f read c led n l =
    let i = subst (After (Near z g f read) ⊥) led.1 (near-all z g f read led.0) in
    elim (picks n c.way) [
      | none e h ↦ absurd (omega arith)
      | some x ys e t ↦ (_, ap (arrive z f read c) e ∙ arrives_at z g f read c i x ys t)
    ]

pub none-refused : NoneRefused
none-refused z g f read es n e = subst (After (Near z g f read) ⊥) e (near-all z g f read es)
