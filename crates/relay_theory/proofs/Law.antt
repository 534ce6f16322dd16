-- Among the arrivals so far, a relay keeps what they hold for rounds that are not over; so what it finds for a round when it ends is all that came in for it.
use Rattle.std.proofs.Common.{◌≡◌, ℕ, zero, suc, ◌+◌, ◌<◌, ◌≤◌, true, false, ◌⊎◌, List, [], ◌∷◌, ◌++◌, map, sym, refl, ap, ◌∙◌, subst, ap₂, inl, inr, append_assoc, append-nil, arith}
use mathlib.Core.Path.{fun_ext}
use Rattle.std.specs.List.{range_with_len, flat_map}
use Rattle.std.proofs.lemmas.List.FromFn.{map-range_with_len_more}
use Rattle.std.proofs.lemmas.Bool.{cases_Bool, cases_eq, and_parts, both_ways}
use Rattle.network_cuts.specs.Scheme.{Packet}
use Rattle.relay_theory.specs.Relay.{Parcel, find, State, fresh, is_in, any, complete, came_in, is_over, Over, Ended, over_now, next, after, ends, Answer, refused, took, keep, receive, behind, and_then, receive_all, send, sent, at_source, origin}
use Rattle.relay_theory.specs.Law.{Distinct, round_of, Kept, Sends, Lawful, Begins, begun}
use Rattle.relay_theory.proofs.Finds.{added-same, added-other, find-same, find-other, find-append, hit, miss, hits, except-same, except-other, complete-like, came-like, send-round, send-not, send-one}
use Rattle.relay_theory.proofs.Receives.{Fits, Received, not_taken, taken, received, accepts, never-over, ends-idle}

-- numbers from a on
map-counting : {B : Type 0} (f g : ℕ → B) (a n : ℕ) → ((r : ℕ) → r < a + n → f r ≡ g r) → map f (range_with_len a n) ≡ map g (range_with_len a n)
map-counting f g a zero h = refl
map-counting f g a (suc n) h = ap₂ (λ x l. x ∷ l) (h a (omega arith)) (map-counting f g (a + 1) n (λ r l. h r (omega arith)))

-- what was sent for rounds that follow each other
module _ {A : Type 0} (f : ℕ → List A → Packet) (outs : List ℕ) (apart : Distinct outs) (came : ℕ → List A) where
  abbrev over : ℕ → Over A
  over r = record { number = r; came = came r }

  abbrev out : ℕ → ℕ → List (Parcel Packet)
  out a n = sent f outs (map over (range_with_len a n))

  out_step : (l r a n : ℕ) → find (out a (suc n)) l r ≡ find (send f a (came a) outs) l r ++ find (out (a + 1) n) l r
  unfolding sent
  out_step l r a n = find-append l r (send f a (came a) outs) (out (a + 1) n)

  out_none : (l r a n : ℕ) → (r < a) ⊎ (a + n ≤ r) → find (out a n) l r ≡ []
  unfolding sent find
  out_none l r a zero h = refl
  out_none l r a (suc n) h =
      out_step l r a n ∙ ap₂ (λ x y. x ++ y) (send-round f (came a) l r a outs (elim h [ inl i ↦ (λ e. omega arith) | inr i ↦ (λ e. omega arith) ]))
      (out_none l r (a + 1) n (elim h [ inl i ↦ inl (omega arith) | inr i ↦ inr (omega arith) ]))

  out-not : (l r a n : ℕ) → is_in l outs ≡ false → find (out a n) l r ≡ []
  unfolding sent find
  out-not l r a zero h = refl
  out-not l r a (suc n) h = out_step l r a n ∙ ap₂ (λ x y. x ++ y) (send-not f (came a) l r a outs h) (out-not l r (a + 1) n h)

  out_one : (l r a n : ℕ) → is_in l outs ≡ true → a ≤ r → r < a + n → find (out a n) l r ≡ f l (came r) ∷ []
  unfolding sent
  out_one l r a zero h i j = absurd (omega arith)
  out_one l r a (suc n) h i j = go (cases_eq r a) (out_one l r (a + 1) n h)
    where
      go : (r ≡ a) ⊎ (r ≡ a → ⊥) → (a + 1 ≤ r → r < a + 1 + n → find (out (a + 1) n) l r ≡ f l (came r) ∷ []) → find (out a (suc n)) l r ≡ f l (came r) ∷ []
      go (inl e) ih = out_step l r a n ∙ rw e (ap₂ (λ x y. x ++ y) (send-one f (came a) l a outs apart h) (out_none l a (a + 1) n (inl (omega arith))))
      go (inr e) ih = out_step l r a n ∙ ap₂ (λ x y. x ++ y) (send-round f (came a) l r a outs e) (ih (omega arith) (omega arith))

module _ {A : Type 0} (ins : List ℕ) where
  -- the state s after the arrivals xs, in which the rounds `done` ended
  record Seen (xs : List (Parcel A)) (s : State A) (done : List (Over A)) : Type 0 where
    single : (k r : ℕ) → (find xs k r ≡ []) ⊎ ((x : A) × (find xs k r ≡ x ∷ []))
    known : (k r : ℕ) → is_in k ins ≡ false → find xs k r ≡ []
    near : (k r : ℕ) → s.round + 3 ≤ r → find xs k r ≡ []
    gone : (k r : ℕ) → r < s.round → s.kept k r ≡ []
    held : (k r : ℕ) → s.round ≤ r → s.kept k r ≡ find xs k r
    rounds : done ≡ map (round_of ins xs) (range_with_len 0 s.round)
    full : (r : ℕ) → r < s.round → (any ins ≡ true) × (complete r ins (find xs) ≡ true)

  seen_start : Seen [] fresh []
  unfolding find
  seen_start =
      record {
        single = λ k r. inl refl;
        known = λ k r h. refl;
        near = λ k r l. refl;
        gone = λ k r l. absurd (omega arith);
        held = λ k r l. refl;
        rounds = refl;
        full = λ r l. absurd (omega arith);
      }

  -- an arrival is kept
  module _ (xs : List (Parcel A)) (s : State A) (done : List (Over A)) (i : Seen xs s done) (x : Parcel A) (h : Fits ins s x) where
    abbrev xs⁺ : List (Parcel A)
    xs⁺ = xs ++ x ∷ []

    none_yet : find xs x.link x.round ≡ []
    none_yet = sym (i.held x.link x.round h.open') ∙ h.free

    new-one : find xs⁺ x.link x.round ≡ x.content ∷ []
    unfolding find
    new-one = find-append x.link x.round xs (x ∷ []) ∙ ap₂ (λ a b. a ++ b) none_yet (find-same x [])

    old : (k r : ℕ) → (k ≡ x.link → r ≡ x.round → ⊥) → find xs⁺ k r ≡ find xs k r
    unfolding find
    old k r o = find-append k r xs (x ∷ []) ∙ ap (λ a. find xs k r ++ a) (find-other k r x [] o) ∙ append-nil _

    old-round : (r : ℕ) → r < s.round → (k : ℕ) → find xs⁺ k r ≡ find xs k r
    old-round r l k = old k r (λ _ e. omega (arith, h.open'))

    seen-keep : Seen xs⁺ (keep x s) done
    seen-keep =
        record {
          single = λ k r. elim (hits k r x) [ hit e d ↦ inr (x.content, rw (e, d) new-one) | miss o ↦ rw (old k r o) (i.single k r) ];
          known = λ k r t. old k r (λ e _. both_ways (is_in x.link ins) (rw e at t) h.comes) ∙ i.known k r t;
          near = λ k r l. old k r (λ _ e. omega (arith, h.soon)) ∙ i.near k r l;
          gone = λ k r l. added-other k r x s.kept (λ _ e. omega (arith, h.open')) ∙ i.gone k r l;
          held = λ k r l. elim (hits k r x) [
            | hit e d ↦ rw (e, d) (added-same x s.kept ∙ ap (λ a. x.content ∷ a) h.free ∙ sym new-one)
            | miss o ↦ added-other k r x s.kept o ∙ i.held k r l ∙ sym (old k r o)
          ];
          rounds = i.rounds ∙ map-counting _ _ 0 s.round (λ r l. ap (λ c. record { number = r; came = c }) (sym (came-like r ins (find xs⁺) (find xs) (old-round r (omega arith)))));
          full = λ r l. ((i.full r l).0, complete-like r ins (find xs⁺) (find xs) (old-round r l) ∙ (i.full r l).1);
        }

  -- a round ends
  seen_next : (xs : List (Parcel A)) (s : State A) (done : List (Over A)) → Seen xs s done → is_over ins s ≡ true → Seen xs (next s) (done ++ over_now ins s ∷ [])
  unfolding is_over
  seen_next xs s done i e =
      let n : ℕ = s.round in
      let all = and_parts (any ins) _ e in
      let same : (k : ℕ) → s.kept k n ≡ find xs k n = λ k. i.held k n (omega arith) in
      let z : 0 + n ≡ n = omega arith in
      let came : came_in n ins s.kept ≡ came_in (0 + n) ins (find xs) = rw z (came-like n ins s.kept (find xs) same) in
      record {
        single = i.single;
        known = i.known;
        near = λ k r l. i.near k r (omega arith);
        gone = λ k r l. elim (cases_eq r n) [ inl d ↦ except-same k r n s.kept d | inr d ↦ except-other k r n s.kept d ∙ i.gone k r (omega arith) ];
        held = λ k r l. except-other k r n s.kept (λ d. omega arith) ∙ i.held k r (omega arith);
        rounds = ap₂ (λ a c. a ++ c ∷ []) i.rounds (ap₂ (λ m c. record { number = m; came = c }) (sym z) came) ∙ sym (map-range_with_len_more (round_of ins xs) 0 n (0 + n) refl);
        full = λ r l. elim (cases_eq r n) [ inl d ↦ rw d (all.0, sym (complete-like n ins s.kept (find xs) same) ∙ all.1) | inr d ↦ i.full r (omega arith) ];
      }

  seen-ends : (xs : List (Parcel A)) (n : ℕ) (s : State A) (done : List (Over A)) → Seen xs s done → Seen xs (ends n ins s).state (done ++ (ends n ins s).rounds)
  unfolding ends
  seen-ends xs zero s done i = rw (append-nil done) i
  seen-ends xs (suc n) s done i =
      elim (cases_Bool (is_over ins s)) [
        | inl e ↦ rw e (rw append_assoc at (seen-ends xs n (next s) (done ++ over_now ins s ∷ []) (seen_next xs s done i e)))
        | inr e ↦ rw e (rw (append-nil done) i)
      ]

  -- all arrivals, one after the other
  record Good (xs : List (Parcel A)) (s : State A) (done : List (Over A)) : Type 0 where
    seen : Seen xs s done
    idle : is_over ins s ≡ false

  abbrev Holds : (Ended A → Type 0) → Answer A → Type 0
  Holds P (refused n) = Unit {0}
  Holds P (took e) = P e

  holds-behind : (P Q : Ended A → Type 0) (os : List (Over A)) (a : Answer A) → ((e : Ended A) → P e → Q (after os e)) → Holds P a → Holds Q (behind os a)
  holds-behind P Q os (refused n) h p = tt
  holds-behind P Q os (took e) h p = h e p

  good-all : (xs ys : List (Parcel A)) (s : State A) (done : List (Over A)) → Good xs s done → Holds (λ e. Good (xs ++ ys) e.state (done ++ e.rounds)) (receive_all ins s ys)
  unfolding receive_all
  good-all xs [] s done g = rw (append-nil xs, append-nil done) g
  good-all xs (y ∷ ys) s done g = go (received ins s y) (good-all (xs ++ y ∷ []) ys)
    where
      e : Ended A
      e = ends 3 ins (keep y s)

      go : Received ins s y → ((s : State A) (done : List (Over A)) → Good (xs ++ y ∷ []) s done → Holds (λ e. Good ((xs ++ y ∷ []) ++ ys) e.state (done ++ e.rounds)) (receive_all ins s ys)) → Holds (λ e. Good (xs ++ y ∷ ys) e.state (done ++ e.rounds)) (and_then (receive ins s y) (λ t. receive_all ins t ys))
      go (not_taken n r) ih = rw r tt
      go (taken h) ih =
          let k = seen-keep xs s done g.seen y h in
          let now : Good (xs ++ y ∷ []) (ends 3 ins (keep y s)).state (done ++ (ends 3 ins (keep y s)).rounds) =
          record { seen = seen-ends (xs ++ y ∷ []) 3 (keep y s) done k; idle = ends-idle ins 3 (keep y s) (λ l r t. k.held l r (omega arith) ∙ k.near l r t) } in
          rw (accepts ins s y h)
          (holds-behind (λ e. Good ((xs ++ y ∷ []) ++ ys) e.state ((done ++ (ends 3 ins (keep y s)).rounds) ++ e.rounds)) (λ e. Good (xs ++ y ∷ ys) e.state (done ++ e.rounds)) (ends 3 ins (keep y s)).rounds _
          (λ e p. simp append_assoc at p) (ih _ _ now))

pub lawful : (A : Type 0) → Lawful A
unfolding is_over
lawful A ins xs e r = (kept, sends)
  where
    g : Good ins xs e.state e.rounds
    g = subst (Holds ins (λ e. Good ins xs e.state e.rounds)) r (good-all ins [] xs fresh [] (record { seen = seen_start ins; idle = never-over ins fresh (λ k. refl) }))

    waits : any ins ≡ true → complete e.state.round ins (find xs) ≡ false
    waits a = sym (complete-like e.state.round ins e.state.kept (find xs) (λ k. g.seen.held k _ (omega arith))) ∙ rw a at g.idle

    kept : Kept ins xs e e.state.round
    kept = record { single = g.seen.single; known = g.seen.known; near = g.seen.near; rounds = g.seen.rounds; full = g.seen.full; waits = waits }

    sends : Sends ins xs e e.state.round
    sends f outs apart l r =
        rw g.seen.rounds (
          (λ h i. out_one f outs apart (λ r. came_in r ins (find xs)) l r 0 e.state.round h (omega arith) (omega arith)),
          (λ i. out_none f outs apart (λ r. came_in r ins (find xs)) l r 0 e.state.round (inr (omega arith))),
          (λ h. out-not f outs apart (λ r. came_in r ins (find xs)) l r 0 e.state.round h),
        )

-- the source: a message that comes for the round at which the source works ends it at once
send-like : {A B : Type 0} (f : ℕ → A → Packet) (g : ℕ → B → Packet) (r : ℕ) (a : A) (b : B) (ks : List ℕ) → ((k : ℕ) → f k a ≡ g k b) → send f r a ks ≡ send g r b ks
unfolding send
send-like f g r a b [] h = refl
send-like f g r a b (k ∷ ks) h = ap₂ (λ x l. record { link = k; round = r; content = x } ∷ l) (h k) (send-like f g r a b ks h)

pub begins : Begins
unfolding is_in any complete came_in is_over ends sent
begins r m = (
  record { state = next kept; rounds = over_now origin kept ∷ [] },
  accepts origin (begun r) x (record { comes = refl; open' = omega arith; free = refl; soon = omega arith }) ∙ ap took ending,
  emptied,
  (λ f outs. append-nil _ ∙ send-like (at_source f) f r _ m outs (λ k. ap (λ ms. f k (flat_map (λ m. m) ms)) came ∙ ap (f k) (append-nil m))),
)
  where
    x : Parcel (List Packet)
    x = record { link = 0; round = r; content = m }

    kept : State (List Packet)
    kept = keep (record { link = 0; round = r; content = m }) (begun r)

    one : kept.kept 0 r ≡ m ∷ []
    one = added-same (record { link = 0; round = r; content = m }) (begun r).kept

    came : came_in r origin kept.kept ≡ m ∷ []
    came = rw one refl

    none : (k q : ℕ) → (next kept).kept k q ≡ []
    none k q = elim (cases_eq q r) [ inl e ↦ except-same k q r kept.kept e | inr e ↦ except-other k q r kept.kept e ∙ added-other k q (record { link = 0; round = r; content = m }) (begun r).kept (λ _ d. e d) ]

    emptied : next kept ≡ begun (r + 1)
    emptied = ap (λ g. record { round = r + 1; kept = g }) (fun_ext (λ k. fun_ext (none k)))

    over : is_over origin kept ≡ true
    over = rw one refl

    ending : ends 3 origin kept ≡ record { state = next kept; rounds = over_now origin kept ∷ [] }
    ending = rw (over, never-over origin (next kept) (λ k. none k (r + 1))) refl
