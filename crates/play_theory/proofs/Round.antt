-- Links stand in order, so when the packets on all links before link k have arrived, the node at the beginning of k has ended the round and
-- sent its packet, which is under way; it arrives, and then the same holds of link k + 1.
use Rattle.std.proofs.Common.{◌≡◌, ℕ, zero, suc, ◌+◌, ◌<◌, ◌≤◌, true, false, ◌⊎◌, List, [], ◌∷◌, ◌++◌, map, length, get_or, sym, refl, ap, ◌∙◌, subst, ap₂, inl, inr, arith}
use Rattle.std.proofs.lemmas.Bool.{cases_eq, cases_lt, cases_Bool, and_parts, and_from, both_ways, ne_eqb}
use Rattle.std.proofs.lemmas.List.{get_or_push, length_push, map_push}
use Rattle.network.specs.Network.{Network, Sound, link_at}
use Rattle.network_cuts.specs.Scheme.{Packet, Scheme, carried, got}
use Rattle.relay_theory.specs.Relay.{Parcel, added, find, State, is_in, any, came_in, is_over, Over, Ended, over_now, next, keep, ends, send, sent}
use Rattle.relay_theory.proofs.Finds.{added-same, added-other, except-other, find-same, find-append, in-any, first_of, complete-each, complete-from, numbers-in, numbers-at, send-round, send-not}
use Rattle.relay_theory.proofs.Receives.{Fits, accepts}
use Rattle.run_theory.specs.Run.{Reader, Config, begin, deliver, went, ins, outs, third_before, beginning, onward, answered, arrive, step}
use Rattle.run_theory.specs.Promise.{Supplied, Led, sent_by, unsent, under, here, gone, arrivals}
use Rattle.run_theory.proofs.Carries.{carried-length, carried-at}
use Rattle.run_theory.proofs.Finds.{taken-other, taken-one, came-into}
use Rattle.run_theory.proofs.Stages.{change-at, change-off, comes-in, rounds-source, rounds-other, rounds-bound}
use Rattle.run_theory.proofs.Runs.{Inv, inv-led, all_in, all-sent, all-out}
use Rattle.run_theory.proofs.Rest.{may-begin}
use Rattle.play_theory.specs.Round.{Rests, Passed, Played, Passing, Began, Passes, Plays, AllEnded, OneMore}
use Rattle.play_theory.proofs.Events.{one_more, led_on, arrivals-more, parcel, Somewhere, somewhere}

ends-none : (is : List ℕ) (s : State Packet) → is_over is s ≡ false → ends 3 is s ≡ record { state = s; rounds = [] }
unfolding ends
ends-none is s h = rw h refl

ends-once : (is : List ℕ) (s : State Packet) → is_over is s ≡ true → is_over is (next s) ≡ false → ends 3 is s ≡ record { state = next s; rounds = over_now is s ∷ [] }
unfolding ends
ends-once is s h d = rw (h, d) refl

-- a round is not over when something is missing
missing : (is : List ℕ) (s : State Packet) (k : ℕ) → is_in k is ≡ true → s.kept k s.round ≡ [] → is_over is s ≡ false
unfolding is_over
missing is s k h e =
    elim (cases_Bool (is_over is s)) [
      | inl t ↦ absurd (complete-each s.round k is s.kept (and_parts (any is) _ t).1 h e)
      | inr t ↦ t
    ]

none_found : (way : List (Parcel Packet)) (k r : ℕ) → way ≡ [] → find way k r ≡ []
unfolding find
none_found way k r e = rw e refl

nothing_left : (way : List (Parcel Packet)) → ((k r : ℕ) → find way k r ≡ []) → way ≡ []
nothing_left [] h = refl
nothing_left (y ∷ ys) h = absurd (let n = ap length (sym (find-same y ys) ∙ h y.link y.round) in omega arith)

module _ (z : Network) (good : Sound z) (fed : Supplied z) (f : Scheme) (read : Reader) (c : Config) (rests : Rests z f read c) (msg : List Packet) where
  inv₀ : Inv z good f read c
  inv₀ = inv-led z good f read (third_before z) c rests.0

  -- at rest every node that links come into has ended all rounds
  ended-before : (p : ℕ) → any (ins z p) ≡ true → length c.begun ≤ (c.states p).round
  ended-before p a =
      let k = first_of (ins z p) a in
      let h = comes-in z k.0 p k.1 in
      let n = all_in z good f read c inv₀ rests.1 k.0 h.0 (λ m l d. all-sent z good f read c inv₀ rests.1 fed (suc m) m (omega arith) l) in
      omega (arith, ap (λ q. (c.states q).round) h.1)

  begins : Passed z f read c msg 0 (beginning z f read c msg)
  unfolding arrivals
  begins =
      record {
        arrived = record { events = []; count = refl; only = refl; leads = rw (may-begin z good fed f read (third_before z) c rests.0 rests.1) refl; begun = refl };
        past = λ j l _. absurd (omega arith);
        ahead = nothing_yet;
        alone = λ j q o. find-append j q c.way _ ∙ ap₂ (λ x y. x ++ y) (none_found c.way j q rests.1) (send-round f msg j q (length c.begun) (outs z 0) o);
        over = ended-before;
      }
    where
      nothing_yet : (j : ℕ) → 0 ≤ j → j < length z.links → ((c.states (link_at z.links j).to).round ≤ length c.begun) × ((c.states (link_at z.links j).to).kept j (length c.begun) ≡ [])
      nothing_yet j _ l =
          elim (inv₀.core.links j (length c.begun) l) [
            | unsent a b w h ↦ (b, h)
            | under a b w h ↦ absurd (omega (arith, rounds-bound z good f read inv₀.core (link_at z.links j).from))
            | here a b w h ↦ absurd (omega (arith, rounds-bound z good f read inv₀.core (link_at z.links j).from))
            | gone a b w h ↦ absurd (omega (arith, rounds-bound z good f read inv₀.core (link_at z.links j).from))
          ]

  -- link k is next
  module _ (k : ℕ) (l : k < length z.links) (c₁ : Config) (s : Passed z f read c msg k c₁) where
    led : Led z f read (third_before z) c₁
    led = led_on z f read (third_before z) (begin msg ∷ s.arrived.events) c c₁ rests.0 s.arrived.leads

    inv : Inv z good f read c₁
    inv = inv-led z good f read (third_before z) c₁ led

    many : length c₁.begun ≡ length c.begun + 1
    many = ap length s.arrived.begun ∙ length_push c.begun msg

    this : get_or c₁.begun (length c.begun) [] ≡ msg
    this = ap (λ ms. get_or ms (length c.begun) []) s.arrived.begun ∙ get_or_push c.begun msg [] (length c.begun) refl

    due-is : (j : ℕ) → j < length z.links → get_or (carried z f (get_or c₁.begun (length c.begun) [])) j [] ≡ f j (got z f (link_at z.links j).from msg)
    due-is j h = ap (λ m. get_or (carried z f m) j []) this ∙ carried-at z good f msg j h

    -- all that leads to its beginning has arrived there
    came-before : (j : ℕ) → is_in j (ins z (link_at z.links k).from) ≡ true → (c₁.states (link_at z.links k).from).round ≡ length c.begun
        → (c₁.states (link_at z.links k).from).kept j (c₁.states (link_at z.links k).from).round ≡ [] → ⊥
    came-before j h e n =
        let a = comes-in z j (link_at z.links k).from h in
        let b = s.past j (good.order j k (a.0, l) a.1) a.0 in
        let at = ap c₁.states a.1 in
        let d = ap (λ (u : State Packet). u.round) at in
        let g : (c₁.states (link_at z.links j).to).kept j (length c.begun) ≡ [] = ap (λ (u : State Packet). u.kept j (length c.begun)) at ∙ ap ((c₁.states (link_at z.links k).from).kept j) (sym e) ∙ n in
        elim (inv.core.links j (length c.begun) a.0) [
          | unsent x y w v ↦ omega (arith, b.0)
          | under x y w v ↦ let no = ap length (sym b.1 ∙ w) in omega arith
          | here x y w v ↦ let no = ap length (sym g ∙ v) in omega arith
          | gone x y w v ↦ omega arith
        ]

    -- so the packet has been sent
    sent-on : length c.begun < sent_by c₁ (link_at z.links k).from
    unfolding is_over
    sent-on =
        elim (cases_eq (link_at z.links k).from 0) [
          | inl e ↦ omega (arith, many, rounds-source c₁.begun c₁.states (link_at z.links k).from e)
          | inr e ↦
              let j = fed k l e in
              let some : any (ins z (link_at z.links k).from) ≡ true = in-any _ _ (numbers-in (λ l. l.to) (link_at z.links k).from z.links 0 j.0 j.0 (omega arith) j.1 j.2) in
              let up = s.over (link_at z.links k).from some in
              elim (cases_lt (length c.begun) (c₁.states (link_at z.links k).from).round) [
                | inl h ↦ omega (arith, rounds-other c₁.begun c₁.states (link_at z.links k).from e)
                | inr h ↦
                    let d : (c₁.states (link_at z.links k).from).round ≡ length c.begun = omega arith in
                    absurd (both_ways _ (inv.idle (link_at z.links k).from) (and_from _ _ some (complete-from _ _ _ (λ i h. came-before i h d))))
              ]
        ]

    -- and is under way
    found : find c₁.way k (length c.begun) ≡ f k (got z f (link_at z.links k).from msg) ∷ []
    found =
        let new = s.ahead k (omega arith) l in
        elim (inv.core.links k (length c.begun) l) [
          | unsent a b w h ↦ absurd (omega (arith, sent-on))
          | under a b w h ↦ w ∙ ap (λ v. v ∷ []) (due-is k l)
          | here a b w h ↦ let no = ap length (sym new.1 ∙ h) in absurd (omega arith)
          | gone a b w h ↦ absurd (omega arith)
        ]

    abbrev x : Parcel Packet
    x = parcel k (length c.begun) (f k (got z f (link_at z.links k).from msg))

    at_place : Somewhere c₁.way x
    at_place = somewhere c₁.way k (length c.begun) _ found

    comes : is_in k (ins z (link_at z.links k).to) ≡ true
    comes = numbers-in (λ l. l.to) (link_at z.links k).to z.links 0 k k (omega arith) l refl

    now-at : (c₁.states (link_at z.links k).to).round ≡ length c.begun
    now-at = omega (arith, (s.ahead k (omega arith) l).0, s.over (link_at z.links k).to (in-any _ _ comes))

    fits : Fits (ins z (link_at z.links k).to) (c₁.states (link_at z.links k).to) x
    fits = record { comes = comes; open' = omega (arith, now-at); free = (s.ahead k (omega arith) l).1; soon = omega (arith, now-at) }

    abbrev e : Ended Packet
    e = ends 3 (ins z (link_at z.links k).to) (keep x (c₁.states (link_at z.links k).to))

    abbrev c₂ : Config
    c₂ = onward z f read c₁ (link_at z.links k).to at_place.left e

    goes : step z f read (third_before z) c₁ (deliver at_place.place) ≡ went c₂
    goes = ap (arrive z f read c₁) at_place.picks ∙ ap (answered z f read c₁ (link_at z.links k).to at_place.left) (accepts _ _ x fits)

    -- when the round is over there, all that came in is what the synchronous network gives
    abbrev Over' : Type 0
    Over' = is_over (ins z (link_at z.links k).to) (keep x (c₁.states (link_at z.links k).to)) ≡ true

    -- of what comes into the node, all has come if the round is over
    each-came : Over' → (j : ℕ) → j < length z.links → (link_at z.links j).to ≡ (link_at z.links k).to
        → (keep x (c₁.states (link_at z.links k).to)).kept j (length c.begun) ≡ get_or (carried z f msg) j [] ∷ []
    unfolding is_over
    each-came o j h t =
        let full = complete-each _ j (ins z (link_at z.links k).to) _ (and_parts (any (ins z (link_at z.links k).to)) _ o).1 (numbers-in (λ l. l.to) (link_at z.links k).to z.links 0 j j (omega arith) h t) in
        let at = ap c₁.states t in
        let m = ap (λ ms. get_or (carried z f ms) j [] ∷ []) this in
        elim (cases_eq j k) [
          | inl d ↦ rw d (added-same x (c₁.states (link_at z.links k).to).kept ∙ ap₂ (λ v vs. v ∷ vs) (sym (carried-at z good f msg k l)) (s.ahead k (omega arith) l).1)
          | inr d ↦
              let old : (keep x (c₁.states (link_at z.links k).to)).kept j (length c.begun) ≡ (c₁.states (link_at z.links j).to).kept j (length c.begun) =
              added-other j (length c.begun) x _ (λ i _. d i) ∙ ap (λ (u : State Packet). u.kept j (length c.begun)) (sym at) in
              let none : (c₁.states (link_at z.links j).to).kept j (length c.begun) ≡ [] → ⊥ = λ n. full (ap (added x (c₁.states (link_at z.links k).to).kept j) now-at ∙ old ∙ n) in
              old ∙ elim (inv.core.links j (length c.begun) h) [
                | unsent a b w v ↦ absurd (none v)
                | under a b w v ↦ absurd (none v)
                | here a b w v ↦ v ∙ m
                | gone a b w v ↦ absurd (none v)
              ]
        ]

    came-all : Over' → came_in (length c.begun) (ins z (link_at z.links k).to) (keep x (c₁.states (link_at z.links k).to)).kept ≡ got z f (link_at z.links k).to msg
    came-all o =
        rw (ne_eqb (link_at z.links k).to 0 (good.apart k l).0)
        (came-into (length c.begun) (link_at z.links k).to _ z.links (carried z f msg) 0 (sym (carried-length z f msg))
        (λ j i d h t. let same : j ≡ i = omega arith in rw same (each-came o i h t)))

    -- and the next round is not
    only_one : is_over (ins z (link_at z.links k).to) (next (keep x (c₁.states (link_at z.links k).to))) ≡ false
    only_one =
        missing (ins z (link_at z.links k).to) (next (keep x (c₁.states (link_at z.links k).to))) k comes
        (except-other k _ (c₁.states (link_at z.links k).to).round _ (λ d. omega arith) ∙ added-other k _ x _ (λ _ d. omega (arith, now-at)) ∙ unsent-yet)
      where
        unsent-yet : (c₁.states (link_at z.links k).to).kept k ((c₁.states (link_at z.links k).to).round + 1) ≡ []
        unsent-yet =
            let few = rounds-bound z good f read inv.core (link_at z.links k).from in
            elim (inv.core.links k ((c₁.states (link_at z.links k).to).round + 1) l) [
              | unsent a b w v ↦ v
              | under a b w v ↦ absurd (omega (arith, few, many, now-at))
              | here a b w v ↦ absurd (omega (arith, few, many, now-at))
              | gone a b w v ↦ v
            ]

    -- the rounds that end: none, or this one
    abbrev this-round : Over Packet
    this-round = record { number = length c.begun; came = got z f (link_at z.links k).to msg }

    abbrev Ended' : Type 0
    Ended' = ((e.rounds ≡ []) × (e.state.round ≡ (c₁.states (link_at z.links k).to).round)) ⊎ ((e.rounds ≡ this-round ∷ []) × (e.state.round ≡ length c.begun + 1))

    ended : Ended'
    ended =
        elim (cases_Bool (is_over (ins z (link_at z.links k).to) (keep x (c₁.states (link_at z.links k).to)))) [
          | inl o ↦
              let is = ends-once (ins z (link_at z.links k).to) (keep x (c₁.states (link_at z.links k).to)) o only_one in
              inr (
                ap (λ (u : Ended Packet). u.rounds) is
                    ∙ ap (λ n. record { number = n; came = came_in n (ins z (link_at z.links k).to) (keep x (c₁.states (link_at z.links k).to)).kept } ∷ []) now-at
                    ∙ ap (λ bs. record { number = length c.begun; came = bs } ∷ []) (came-all o),
                ap (λ (u : Ended Packet). u.state.round) is ∙ ap (λ n. n + 1) now-at,
              )
          | inr o ↦
              let is = ends-none (ins z (link_at z.links k).to) (keep x (c₁.states (link_at z.links k).to)) o in
              inl (ap (λ (u : Ended Packet). u.rounds) is, ap (λ (u : Ended Packet). u.state.round) is)
        ]

    grows : (q : ℕ) → (c₁.states q).round ≤ (c₂.states q).round
    grows q =
        elim (cases_eq q (link_at z.links k).to) [
          | inl d ↦
              let a = ap (λ (u : State Packet). u.round) (change-at (link_at z.links k).to q e.state c₁.states d) in
              let b = ap (λ i. (c₁.states i).round) d in
              elim ended [ inl h ↦ omega (arith, h.1) | inr h ↦ omega (arith, h.1, now-at) ]
          | inr d ↦ let a = ap (λ (u : State Packet). u.round) (change-off (link_at z.links k).to q e.state c₁.states d) in omega arith
        ]

    more-sent : (q : ℕ) → sent_by c₁ q ≤ sent_by c₂ q
    more-sent q =
        elim (cases_eq q 0) [
          | inl d ↦ omega (arith, rounds-source c₁.begun c₁.states q d, rounds-source c₂.begun c₂.states q d)
          | inr d ↦ omega (arith, rounds-other c₁.begun c₁.states q d, rounds-other c₂.begun c₂.states q d, grows q)
        ]

    -- what the node sends is of this round, and over links out of it
    sent-other : (j n : ℕ) → (n ≡ length c.begun → ⊥) → find (sent f (outs z (link_at z.links k).to) e.rounds) j n ≡ []
    unfolding sent find
    sent-other j n o =
        elim ended [
          | inl h ↦ ap (λ os. find (sent f (outs z (link_at z.links k).to) os) j n) h.0
          | inr h ↦
              ap (λ os. find (sent f (outs z (link_at z.links k).to) os) j n) h.0
              ∙ find-append j n (send f (length c.begun) this-round.came (outs z (link_at z.links k).to)) []
              ∙ ap (λ vs. vs ++ []) (send-round f this-round.came j n (length c.begun) (outs z (link_at z.links k).to) o)
        ]

    sent-not : (j : ℕ) → j ≤ k → find (sent f (outs z (link_at z.links k).to) e.rounds) j (length c.begun) ≡ []
    unfolding sent find
    sent-not j i =
        let off : is_in j (outs z (link_at z.links k).to) ≡ false = elim (cases_Bool (is_in j (outs z (link_at z.links k).to))) [
          | inl t ↦
              let a = numbers-at (λ l. l.from) (link_at z.links k).to z.links 0 j t in
              let b = good.order k a.0 (l, a.2) (sym a.3) in
              absurd (omega (arith, a.1))
          | inr t ↦ t
        ] in
        elim ended [
          | inl h ↦ ap (λ os. find (sent f (outs z (link_at z.links k).to) os) j (length c.begun)) h.0
          | inr h ↦
              ap (λ os. find (sent f (outs z (link_at z.links k).to) os) j (length c.begun)) h.0
              ∙ find-append j (length c.begun) (send f (length c.begun) this-round.came (outs z (link_at z.links k).to)) []
              ∙ ap (λ vs. vs ++ []) (send-not f this-round.came j (length c.begun) (length c.begun) (outs z (link_at z.links k).to) off)
        ]

    gone-by : (j : ℕ) → j ≤ k → j < length z.links → (length c.begun < sent_by c₂ (link_at z.links j).from) × (find c₂.way j (length c.begun) ≡ [])
    gone-by j i h =
        elim (cases_eq j k) [
          | inl d ↦
              let left : find at_place.left j (length c.begun) ≡ [] = rw d (taken-one _ at_place.taken found).1 in
              (rw d (omega (arith, sent-on, more-sent (link_at z.links k).from)), find-append j _ at_place.left _ ∙ ap₂ (λ a b. a ++ b) left (sent-not j i))
          | inr d ↦
              let b = s.past j (omega arith) h in (
                omega (arith, more-sent (link_at z.links j).from),
                find-append j _ at_place.left _ ∙ ap₂ (λ a b. a ++ b) (sym (taken-other j _ at_place.taken (λ q _. d q)) ∙ b.1) (sent-not j i),
              )
        ]

    -- a link into the same node over which nothing has come: so the round is not over there
    abbrev Waits : ℕ → State Packet → Type 0
    Waits j u = (u.round ≤ length c.begun) × (u.kept j (length c.begun) ≡ [])

    still : (j : ℕ) → k < j → j < length z.links → (link_at z.links j).to ≡ (link_at z.links k).to → Waits j e.state
    unfolding is_over
    still j i h t =
        let none : Waits j (c₁.states (link_at z.links k).to) = subst (λ q. Waits j (c₁.states q)) t (s.ahead j (omega arith) h) in
        let kept : (keep x (c₁.states (link_at z.links k).to)).kept j (length c.begun) ≡ [] = added-other j (length c.begun) x _ (λ d _. omega arith) ∙ none.1 in
        let idle : is_over (ins z (link_at z.links k).to) (keep x (c₁.states (link_at z.links k).to)) ≡ false =
        missing _ _ j (numbers-in (λ l. l.to) (link_at z.links k).to z.links 0 j j (omega arith) h t) (ap (added x (c₁.states (link_at z.links k).to).kept j) now-at ∙ kept) in
        subst (λ (u : Ended Packet). Waits j u.state) (sym (ends-none (ins z (link_at z.links k).to) _ idle)) (none.0, kept)

    passed_on : Passed z f read c msg (k + 1) c₂
    passed_on =
        record {
          arrived =
              record {
                events = s.arrived.events ++ deliver at_place.place ∷ [];
                count = length_push s.arrived.events _ ∙ ap (λ n. n + 1) s.arrived.count;
                only = arrivals-more s.arrived.events at_place.place ∙ ap (λ n. n + 1) s.arrived.only;
                leads = one_more z f read (third_before z) (begin msg ∷ s.arrived.events) (deliver at_place.place) c c₁ c₂ s.arrived.leads goes;
                begun = s.arrived.begun;
              };
          past = λ j i h. gone-by j (omega arith) h;
          ahead = λ j i h.
              elim (cases_eq (link_at z.links j).to (link_at z.links k).to) [
                | inl d ↦ subst (Waits j) (sym (change-at (link_at z.links k).to _ e.state c₁.states d)) (still j (omega arith) h d)
                | inr d ↦ subst (Waits j) (sym (change-off (link_at z.links k).to _ e.state c₁.states d)) (s.ahead j (omega arith) h)
              ];
          alone = λ j n o. find-append j n at_place.left _ ∙ ap₂ (λ a b. a ++ b) (sym (taken-other j n at_place.taken (λ _ d. o d)) ∙ s.alone j n o) (sent-other j n o);
          over = λ q a. omega (arith, s.over q a, grows q);
        }

    passing : Passing z f read c msg k c₁ e c₂
    passing = record { passed = passed_on; sent = sent-on; taken = accepts _ _ x fits; states = refl; out = refl; ended = ended }

  -- all links are passed
  all-passed : (k : ℕ) → k ≤ length z.links → (c₁ : Config) × Passed z f read c msg k c₁
  all-passed zero l = (_, begins)
  all-passed (suc k) l =
      let b = all-passed k (omega arith) in
      let n : k + 1 ≡ suc k = omega arith in
      (_, subst (λ i. Passed z f read c msg i (c₂ k (omega arith) b.0 b.1)) n (passed_on k (omega arith) b.0 b.1))

  rests-again : (c₁ : Config) → Passed z f read c msg (length z.links) c₁ → Played z f read c msg c₁ × Rests z f read c₁
  rests-again c₁ s =
      let led₁ = led_on z f read (third_before z) (begin msg ∷ s.arrived.events) c c₁ rests.0 s.arrived.leads in
      let i = inv-led z good f read (third_before z) c₁ led₁ in
      let none = nothing_left c₁.way (λ j n. elim (cases_eq n (length c.begun)) [
        | inl d ↦ elim (cases_lt j (length z.links)) [ inl l ↦ rw d (s.past j l l).1 | inr l ↦ i.core.known j n l ]
        | inr d ↦ s.alone j n d
      ]) in
      ((s.arrived, none), (led₁, none))

pub began : Began
began z good fed f read c rests msg = (_, begins z good fed f read c rests msg, refl, refl)

pub passes : Passes
passes z good fed f read c rests msg k l c₁ s = (_, _, passing z good fed f read c rests msg k l c₁ s)

pub plays : Plays
plays z good fed f read c rests msg =
    let a = all-passed z good fed f read c rests msg (length z.links) (omega arith) in
    (rests-again z good fed f read c rests msg, (a.0, (rests-again z good fed f read c rests msg a.0 a.1).0))

pub all-ended : AllEnded
all-ended z good fed f read c rests p a = ended-before z good fed f read c rests [] p a

pub one-more-out : OneMore
one-more-out z good fed f read c rests msg c' played j l =
    let led' = led_on z f read (third_before z) (begin msg ∷ played.0.events) c c' rests.0 played.0.leads in
    let g : List Packet → List Packet = λ m. read (link_at z.links j).to (got z f (link_at z.links j).to m) in
    all-out z good fed f read (third_before z) c' led' played.1 j l
    ∙ ap (map g) played.0.begun ∙ map_push g c.begun msg
    ∙ ap (λ ms. ms ++ g msg ∷ []) (sym (all-out z good fed f read (third_before z) c rests.0 rests.1 j l))
