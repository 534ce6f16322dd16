-- Packets under way and arrived are as many as were sent, and those are at most one for each link and message; when nothing is under way
-- they are just as many, and then all have caught up, so that the source may go on.
use Rattle.std.proofs.Common.{◌≡◌, ℕ, zero, suc, ◌+◌, ◌*◌, ◌<◌, ◌≤◌, Bool, true, false, cond, ◌||◌, eqb, ltb, ◌⊎◌, List, [], ◌∷◌, ◌++◌, map, length, take, sym, refl, ap, ◌∙◌, subst, ap₂, inl, inr, suc-mul, arith}
use mathlib.Core.List.{Memᴰ}
use Rattle.std.proofs.lemmas.Bool.{cases_eq, cases_Bool, eq-eqb, ne_eqb, and_from, or_left, or_right, lt-ltb, not_from_false}
use Rattle.std.proofs.lemmas.List.{length_push, length-append, length-take-le}
use Rattle.network.specs.Network.{Link, Network, Sound, link_at}
use Rattle.network_cuts.specs.Scheme.{Packet, Scheme, got}
use Rattle.relay_theory.specs.Relay.{Parcel, State, fresh, is_in, any, is_over, next, keep, ends, refused, receive, send, sent, came_in, numbers}
use Rattle.relay_theory.proofs.Finds.{first_of, numbers-in}
use Rattle.relay_theory.proofs.Receives.{Fits, Received, not_taken, taken, received, accepts}
use Rattle.run_theory.specs.Run.{Reader, Config, start, Event, begin, deliver, Outcome, went, cannot, refuses, and_then, ins, outs, change, picked, caught_up, beginning, onward, arrive, step, steps, run}
use Rattle.run_theory.specs.Promise.{unsent, under, here, gone, MayBegin, arrivals, FewArrivals, EachArrived, OnceOnly, MessagesThemselves}
use Rattle.run_theory.proofs.Finds.{Taken, first, later, picks, none, some}
use Rattle.run_theory.proofs.Stages.{change-at, change-off, comes-in, rounds, rounds-other, rounds-bound}
use Rattle.run_theory.proofs.Runs.{After, Inv, inv-start, inv-begin, inv-arrive, inv-led, all_in, all-sent}

-- at rest all have caught up
caught-from : (z : Network) (c : Config) (n : ℕ) → ((p : ℕ) → any (ins z p) ≡ true → length c.begun < (c.states p).round + 3) → caught_up z c n ≡ true
unfolding caught_up
caught-from z c zero h = refl
caught-from z c (suc p) h = and_from _ _ (elim (cases_Bool (any (ins z p))) [ inl a ↦ or_right _ _ (lt-ltb _ _ (h p a)) | inr a ↦ or_left _ _ (not_from_false _ a) ]) (caught-from z c p h)

pub may-begin : MayBegin
may-begin z g fed f read may c led rest = caught-from z c z.nodes near
  where
    i : Inv z g f read c
    i = inv-led z g f read may c led

    near : (p : ℕ) → any (ins z p) ≡ true → length c.begun < (c.states p).round + 3
    near p a =
        let k = first_of (ins z p) a in
        let h = comes-in z k.0 p k.1 in
        let n = all_in z g f read c i rest k.0 h.0 (λ m l d. all-sent z g f read c i rest fed (suc m) m (omega arith) l) in
        omega (arith, ap (λ q. (c.states q).round) h.1)

-- how much has been sent over all links
unfoldable total : List (List Packet) → (ℕ → State Packet) → List Link → ℕ
total ms st [] = 0
total ms st (l ∷ ls) = rounds ms st l.from + total ms st ls

total-same : (ms : List (List Packet)) (st st' : ℕ → State Packet) (ls : List Link) → ((q : ℕ) → (st' q).round ≡ (st q).round) → total ms st' ls ≡ total ms st ls
unfolding total
total-same ms st st' [] h = refl
total-same ms st st' (l ∷ ls) h = ap₂ (λ x y. cond (eqb l.from 0) (length ms) x + y) (h l.from) (total-same ms st st' ls h)

-- a node that gets on by a round adds one for each link out of it
total-at : (ms ms' : List (List Packet)) (st st' : ℕ → State Packet) (p : ℕ) → rounds ms' st' p ≡ rounds ms st p + 1 → ((q : ℕ) → (q ≡ p → ⊥) → rounds ms' st' q ≡ rounds ms st q) → (j : ℕ) (ls : List Link) → total ms' st' ls ≡ total ms st ls + length (numbers (λ l. l.from) p j ls)
unfolding total numbers
total-at ms ms' st st' p here' off j [] = omega arith
total-at ms ms' st st' p here' off j (l ∷ ls) = go (cases_eq l.from p) (total-at ms ms' st st' p here' off (j + 1) ls)
  where
    go : (l.from ≡ p) ⊎ (l.from ≡ p → ⊥) → total ms' st' ls ≡ total ms st ls + length (numbers (λ l. l.from) p (j + 1) ls) → total ms' st' (l ∷ ls) ≡ total ms st (l ∷ ls) + length (numbers (λ l. l.from) p j (l ∷ ls))
    go (inl e) ih = rw (e, eq-eqb p p refl) (omega arith)
    go (inr e) ih = rw (ne_eqb p l.from (λ d. e (sym d))) (omega (arith, off l.from e))

total-bound : (ms : List (List Packet)) (st : ℕ → State Packet) (ls : List Link) → ((q : ℕ) → rounds ms st q ≤ length ms) → total ms st ls ≤ length ls * length ms
unfolding total
total-bound ms st [] h = omega arith
total-bound ms st (l ∷ ls) h = omega (arith, total-bound ms st ls h, h l.from, suc-mul (length ls) (length ms))

length-send : (f : Scheme) (r : ℕ) (bs : List Packet) (ks : List ℕ) → length (send f r bs ks) ≡ length ks
unfolding send
length-send f r bs [] = refl
length-send f r bs (k ∷ ks) = ap suc (length-send f r bs ks)

taken-length : {x : Parcel Packet} {xs ys : List (Parcel Packet)} → Taken x xs ys → length xs ≡ length ys + 1
taken-length first = omega arith
taken-length (later t) = omega (arith, taken-length t)

total-full : (ms : List (List Packet)) (st : ℕ → State Packet) (ls : List Link) → ((k : ℕ) → k < length ls → rounds ms st (link_at ls k).from ≡ length ms) → total ms st ls ≡ length ls * length ms
unfolding total
total-full ms st [] h = omega arith
total-full ms st (l ∷ ls) h = omega (arith, total-full ms st ls (λ k i. h (suc k) (omega arith)), h 0 (omega arith), suc-mul (length ls) (length ms))

module _ (z : Network) (good : Sound z) (f : Scheme) (read : Reader) where
  -- what is sent while rounds end
  ends-total : (ms : List (List Packet)) (st : ℕ → State Packet) (p : ℕ) → (p ≡ 0 → ⊥) → (n : ℕ) (s : State Packet) → length (sent f (outs z p) (ends n (ins z p) s).rounds) + total ms (change p s st) z.links ≡ total ms (change p (ends n (ins z p) s).state st) z.links
  unfolding ends sent
  ends-total ms st p o zero s = omega arith
  ends-total ms st p o (suc n) s = go (cases_Bool (is_over (ins z p) s)) (ends-total ms st p o n (next s))
    where
      up : rounds ms (change p (next s) st) p ≡ rounds ms (change p s st) p + 1
      up = rounds-other ms (change p (next s) st) p o ∙ ap (λ (u : State Packet). u.round) (change-at p p (next s) st refl) ∙ ap (λ (u : State Packet). u.round + 1) (sym (change-at p p s st refl)) ∙ ap (λ x. x + 1) (sym (rounds-other ms (change p s st) p o))

      off : (q : ℕ) → (q ≡ p → ⊥) → rounds ms (change p (next s) st) q ≡ rounds ms (change p s st) q
      off q d = ap (λ (u : State Packet). cond (eqb q 0) (length ms) u.round) (change-off p q (next s) st d ∙ sym (change-off p q s st d))

      go : (is_over (ins z p) s ≡ true) ⊎ (is_over (ins z p) s ≡ false) → length (sent f (outs z p) (ends n (ins z p) (next s)).rounds) + total ms (change p (next s) st) z.links ≡ total ms (change p (ends n (ins z p) (next s)).state st) z.links → length (sent f (outs z p) (ends (suc n) (ins z p) s).rounds) + total ms (change p s st) z.links ≡ total ms (change p (ends (suc n) (ins z p) s).state st) z.links
      go (inl e) ih =
          let came : List Packet = came_in s.round (ins z p) s.kept in
          rw e (omega (arith, ih, total-at ms ms (change p s st) (change p (next s) st) p up off 0 z.links, length-append (send f s.round came (outs z p)) (sent f (outs z p) (ends n (ins z p) (next s)).rounds), length-send f s.round came (outs z p)))
      go (inr e) ih = rw e (omega arith)

  record Counted (d : ℕ) (c : Config) : Type 0 where
    inv : Inv z good f read c
    sum : d + length c.way ≡ total c.begun c.states z.links

  total-zero : (ls : List Link) → total [] (λ _. fresh) ls ≡ 0
  unfolding total
  total-zero [] = refl
  total-zero (l ∷ ls) = elim (cases_eq l.from 0) [ inl e ↦ rw (eq-eqb l.from 0 e) (omega (arith, total-zero ls)) | inr e ↦ rw (ne_eqb l.from 0 e) (omega (arith, total-zero ls)) ]

  counted-begin : (d : ℕ) (c : Config) (m : List Packet) → Counted d c → Counted d (beginning z f read c m)
  counted-begin d c m i = record { inv = inv-begin z good f read c m i.inv; sum = omega (arith, i.sum, length-append c.way (send f (length c.begun) m (outs z 0)), length-send f (length c.begun) m (outs z 0), total-at c.begun (c.begun ++ m ∷ []) c.states c.states 0 (length_push c.begun m) off 0 z.links) }
    where
      off : (q : ℕ) → (q ≡ 0 → ⊥) → rounds (c.begun ++ m ∷ []) c.states q ≡ rounds c.begun c.states q
      off q e = rounds-other (c.begun ++ m ∷ []) c.states q e ∙ sym (rounds-other c.begun c.states q e)

  counted-arrive : (d : ℕ) (c : Config) (x : Parcel Packet) (ys : List (Parcel Packet)) (p : ℕ) → Counted d c → Taken x c.way ys → Fits (ins z p) (c.states p) x → Counted (d + 1) (onward z f read c p ys (ends 3 (ins z p) (keep x (c.states p))))
  counted-arrive d c x ys p i t h =
      record {
        inv = inv-arrive z good f read c x ys p i.inv t h;
        sum = omega (arith, i.sum, taken-length t, length-append ys (sent f (outs z p) (ends 3 (ins z p) (keep x (c.states p))).rounds), ends-total c.begun c.states p not-source 3 (keep x (c.states p)), total-same c.begun c.states (change p (keep x (c.states p)) c.states) z.links same);
      }
    where
      not-source : p ≡ 0 → ⊥
      not-source e = let a = comes-in z x.link p h.comes in (good.apart x.link a.0).0 (a.1 ∙ e)

      same : (q : ℕ) → (change p (keep x (c.states p)) c.states q).round ≡ (c.states q).round
      same q = elim (cases_eq q p) [ inl e ↦ ap (λ (u : State Packet). u.round) (change-at p q (keep x (c.states p)) c.states e) ∙ ap (λ q. (c.states q).round) (sym e) | inr e ↦ ap (λ (u : State Packet). u.round) (change-off p q (keep x (c.states p)) c.states e) ]

  counted-deliver : (may : Config → Bool) (d : ℕ) (c : Config) (n : ℕ) → Counted d c → After (Counted (d + 1)) (Unit {0}) (step z f read may c (deliver n))
  counted-deliver may d c n i =
      elim (picks n c.way) [
        | none e l ↦ rw e tt
        | some x ys e t ↦ rw e (arrives x ys t (received (ins z (link_at z.links x.link).to) (c.states (link_at z.links x.link).to) x))
      ]
    where
      arrives : (x : Parcel Packet) (ys : List (Parcel Packet)) → Taken x c.way ys → Received (ins z (link_at z.links x.link).to) (c.states (link_at z.links x.link).to) x → After (Counted (d + 1)) (Unit {0}) (arrive z f read c (picked x ys))
      arrives x ys t (not_taken k e) = rw e tt
      arrives x ys t (taken h) = rw (accepts _ _ x h) (counted-arrive d c x ys _ i t h)

  counted-steps : (may : Config → Bool) (es : List Event) (d : ℕ) (c : Config) → Counted d c → After (Counted (d + arrivals es)) (Unit {0}) (steps z f read may es c)
  unfolding arrivals
  counted-steps may [] d c i = let e : d + 0 ≡ d = omega arith in rw e i
  counted-steps may (begin m ∷ es) d c i =
      elim (may c) as (λ v. After (Counted (d + arrivals es)) (Unit {0}) (and_then (cond v (went (beginning z f read c m)) cannot) (steps z f read may es))) [ true ↦ counted-steps may es d _ (counted-begin d c m i) | false ↦ tt ]
  counted-steps may (deliver n ∷ es) d c i = go (step z f read may c (deliver n)) (counted-deliver may d c n i) (counted-steps may es (d + 1))
    where
      go : (o : Outcome) → After (Counted (d + 1)) (Unit {0}) o → ((c : Config) → Counted (d + 1) c → After (Counted (d + 1 + arrivals es)) (Unit {0}) (steps z f read may es c)) → After (Counted (d + (1 + arrivals es))) (Unit {0}) (and_then o (steps z f read may es))
      go (went c) a g = let e : d + (1 + arrivals es) ≡ d + 1 + arrivals es = omega arith in rw e (g c a)
      go cannot a g = tt
      go (refuses n) a g = tt

  counted : (may : Config → Bool) (es : List Event) (c : Config) → run z f read may es ≡ went c → Counted (arrivals es) c
  counted may es c e =
      let q : 0 + arrivals es ≡ arrivals es = omega arith in
      rw q at (subst (After (Counted (0 + arrivals es)) (Unit {0})) e (counted-steps may es 0 start (record { inv = inv-start z good f read; sum = omega (arith, total-zero z.links) })))

pub few-arrivals : FewArrivals
few-arrivals z g f read may es c e =
    let i = counted z g f read may es c e in
    omega (arith, i.sum, total-bound c.begun c.states z.links (rounds-bound z g f read i.inv.core))

pub each-arrived : EachArrived
each-arrived z g fed f read may es c e rest =
    let i = counted z g f read may es c e in
    omega (arith, i.sum, ap length rest, total-full c.begun c.states z.links (λ k l. omega (arith, all-sent z g f read c i.inv rest fed (suc k) k (omega arith) l, rounds-bound z g f read i.inv.core (link_at z.links k).from)))

-- a second packet
second : (is : List ℕ) (s : State Packet) (x : Parcel Packet) → is_in x.link is ≡ true → (ltb x.round s.round || any (s.kept x.link x.round)) ≡ true → receive is s x ≡ refused 7
unfolding receive
second is s x a b = rw (a, b)

pub once-only : OnceOnly
unfolding any
once-only z g f read may c led x l sent' gone' =
    let i = inv-led z g f read may c led in
    let q : ℕ = (link_at z.links x.link).to in
    let comes : is_in x.link (ins z q) ≡ true = numbers-in (λ l. l.to) q z.links 0 x.link x.link (omega arith) l refl in
    second (ins z q) (c.states q) x comes (
    elim (i.core.links x.link x.round l) [
      | unsent a b w h ↦ absurd (omega arith)
      | under a b w h ↦ let n = ap length (sym gone' ∙ w) in absurd (omega arith)
      | here a b w h ↦ or_right _ _ (ap any h)
      | gone a b w h ↦ or_left _ _ (lt-ltb _ _ b)
    ]
    )

-- messages themselves
map_same : (g : List Packet → List Packet) (n : ℕ) (ms : List (List Packet)) → ((m : List Packet) → Memᴰ m ms → g m ≡ m) → map g (take n ms) ≡ take n ms
map_same g zero ms h = refl
map_same g (suc n) [] h = refl
map_same g (suc n) (m ∷ ms) h = ap₂ (λ x l. x ∷ l) (h m (Memᴰ.head refl)) (map_same g n ms (λ k i. h k (Memᴰ.tail i)))

pub messages-themselves : MessagesThemselves
messages-themselves z g f read may c led p h =
    let i = inv-led z g f read may c led in
    let n : ℕ = (c.states p).round in
    let e : c.out p ≡ take n c.begun = i.core.put p ∙ map_same (λ m. read p (got z f p m)) n c.begun h in
    let k : length (c.out p) ≡ n = ap length e ∙ length-take-le n c.begun (i.core.bound p) in
    e ∙ ap (λ x. take x c.begun) (sym k)
