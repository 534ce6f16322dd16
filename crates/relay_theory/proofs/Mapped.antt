-- A relay looks at what came in only to see whether there is something, so all its steps go through under a function of it.
use Rattle.std.proofs.Common.{◌≡◌, ℕ, zero, suc, ◌+◌, Bool, true, false, cond, not, ◌&&◌, ◌||◌, eqb, ltb, List, [], ◌∷◌, ◌++◌, map, sym, refl, ap, ◌∙◌, ap₂}
use mathlib.Core.Path.{fun_ext}
use Rattle.std.specs.List.{flat_map}
use Rattle.std.proofs.lemmas.List.{map-append}
use Rattle.network_cuts.specs.Scheme.{Packet, Scheme}
use Rattle.relay_theory.specs.Relay.{Parcel, added, State, is_in, any, complete, came_in, is_over, Over, Ended, over_now, except, next, after, ends, Answer, refused, took, keep, receive, send, sent, readings, at_source}
use Rattle.relay_theory.specs.Mapped.{map_parcel, map_state, map_over, map_ended, map_answer, alone, Alone}

module _ {A B : Type 0} (g : A → B) where
  any-map : (xs : List A) → any (map g xs) ≡ any xs
  unfolding any
  any-map [] = refl
  any-map (x ∷ xs) = refl

  complete-map : (r : ℕ) (ks : List ℕ) (kept : ℕ → ℕ → List A) → complete r ks (λ k r. map g (kept k r)) ≡ complete r ks kept
  unfolding complete
  complete-map r [] kept = refl
  complete-map r (k ∷ ks) kept = ap₂ (λ a b. a && b) (any-map (kept k r)) (complete-map r ks kept)

  came-map : (r : ℕ) (ks : List ℕ) (kept : ℕ → ℕ → List A) → came_in r ks (λ k r. map g (kept k r)) ≡ map g (came_in r ks kept)
  unfolding came_in
  came-map r [] kept = refl
  came-map r (k ∷ ks) kept = ap (λ l. map g (kept k r) ++ l) (came-map r ks kept) ∙ sym (map-append g (kept k r) (came_in r ks kept))

  over-map : (ins : List ℕ) (s : State A) → is_over ins (map_state g s) ≡ is_over ins s
  unfolding is_over
  over-map ins s = ap (λ b. any ins && b) (complete-map s.round ins s.kept)

  map-cond : (b : Bool) (xs ys : List A) → map g (cond b xs ys) ≡ cond b (map g xs) (map g ys)
  map-cond true xs ys = refl
  map-cond false xs ys = refl

  next_map : (s : State A) → next (map_state g s) ≡ map_state g (next s)
  unfolding except
  next_map s = ap (λ f. record { round = s.round + 1; kept = f }) (fun_ext (λ k. fun_ext (λ r. sym (map-cond (eqb r s.round) [] (s.kept k r)))))

  keep-map : (x : Parcel A) (s : State A) → keep (map_parcel g x) (map_state g s) ≡ map_state g (keep x s)
  unfolding added
  keep-map x s = ap (λ f. record { round = s.round; kept = f }) (fun_ext (λ k. fun_ext (λ r. sym (map-cond (eqb k x.link && eqb r x.round) (x.content ∷ s.kept k r) (s.kept k r)))))

  now-map : (ins : List ℕ) (s : State A) → over_now ins (map_state g s) ≡ map_over g (over_now ins s)
  now-map ins s = ap (λ c. record { number = s.round; came = c }) (came-map s.round ins s.kept)

  ended-cond : (b : Bool) (e d : Ended A) → map_ended g (cond b e d) ≡ cond b (map_ended g e) (map_ended g d)
  ended-cond true e d = refl
  ended-cond false e d = refl

  ends-map : (n : ℕ) (ins : List ℕ) (s : State A) → ends n ins (map_state g s) ≡ map_ended g (ends n ins s)
  unfolding ends
  ends-map zero ins s = refl
  ends-map (suc n) ins s =
      ap (λ b. cond b (after (over_now ins (map_state g s) ∷ []) (ends n ins (next (map_state g s)))) (record { state = map_state g s; rounds = [] })) (over-map ins s)
      ∙ ap₂ (λ o e. cond (is_over ins s) (after (o ∷ []) e) (record { state = map_state g s; rounds = [] })) (now-map ins s) (ap (ends n ins) (next_map s) ∙ ends-map n ins (next s))
      ∙ sym (ended-cond (is_over ins s) (after (over_now ins s ∷ []) (ends n ins (next s))) (record { state = s; rounds = [] }))

  answer-cond : (b : Bool) (x y : Answer A) → map_answer g (cond b x y) ≡ cond b (map_answer g x) (map_answer g y)
  answer-cond true x y = refl
  answer-cond false x y = refl

  pub receive-map : (ins : List ℕ) (s : State A) (x : Parcel A) → receive ins (map_state g s) (map_parcel g x) ≡ map_answer g (receive ins s x)
  unfolding receive
  receive-map ins s x =
      ap₂ (λ b e. cond (not (is_in x.link ins)) (refused 6) (cond (ltb x.round s.round || b) (refused 7) (cond (ltb (s.round + 2) x.round) (refused 8) (took e))))
      (any-map (s.kept x.link x.round)) (ap (ends 3 ins) (keep-map x s) ∙ ends-map 3 ins (keep x s))
      ∙ sym (answer-cond (not (is_in x.link ins)) _ _
      ∙ ap (cond (not (is_in x.link ins)) (refused 6)) (answer-cond (ltb x.round s.round || any (s.kept x.link x.round)) _ _
      ∙ ap (cond (ltb x.round s.round || any (s.kept x.link x.round)) (refused 7)) (answer-cond (ltb (s.round + 2) x.round) _ _)))

joined-alone : (bs : List Packet) → flat_map (λ m. m) (map alone bs) ≡ bs
joined-alone [] = refl
joined-alone (b ∷ bs) = ap (λ l. b ∷ l) (joined-alone bs)

send-alone : (f : Scheme) (r : ℕ) (bs : List Packet) (outs : List ℕ) → send (at_source f) r (map alone bs) outs ≡ send f r bs outs
unfolding send
send-alone f r bs [] = refl
send-alone f r bs (k ∷ ks) = ap₂ (λ c l. record { link = k; round = r; content = f k c } ∷ l) (joined-alone bs) (send-alone f r bs ks)

sent-alone : (f : Scheme) (outs : List ℕ) (os : List (Over Packet)) → sent (at_source f) outs (map (map_over alone) os) ≡ sent f outs os
unfolding sent
sent-alone f outs [] = refl
sent-alone f outs (o ∷ os) = ap₂ (λ a b. a ++ b) (send-alone f o.number o.came outs) (sent-alone f outs os)

readings-alone : (read : List Packet → List Packet) (os : List (Over Packet)) → readings (λ ms. read (flat_map (λ m. m) ms)) (map (map_over alone) os) ≡ readings read os
unfolding readings
readings-alone read [] = refl
readings-alone read (o ∷ os) = ap₂ (λ a b. read a ∷ b) (joined-alone o.came) (readings-alone read os)

pub alone-holds : Alone
alone-holds = record { received = receive-map alone; same_sent = sent-alone; same_read = readings-alone }
