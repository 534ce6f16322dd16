-- What is told of a node at work by a plan is what the definitions of relays and runs say.
use Rattle.std.proofs.Common.{◌≡◌, ℕ, ◌+◌, ◌*◌, true, false, cond, ◌&&◌, eqb, List, [], ◌∷◌, ◌++◌, map, length, Ok, Err, Result, vec_items, sym, refl, ap, ◌∙◌, subst, ap₂, arith}
use Rattle.std.specs.List.{flat_map}
use Rattle.std.proofs.lemmas.Bool.{eq-eqb, ne_eqb, or_left, or_right, cond-true, cond-false}
use Rattle.network.specs.Network.{Multicast}
use Rattle.network_cuts.specs.Scheme.{Packet}
use Rattle.wire.specs.Plan.{Reader}
use Rattle.relay_theory.specs.Relay.{Parcel, State, is_in, Over, Answer, refused, took, receive, send, sent, readings, at_source, origin}
use Rattle.relay_theory.specs.Law.{begun}
use Rattle.relay_theory.specs.Mapped.{map_over, map_ended, map_answer, alone}
use Rattle.relay_theory.proofs.Law.{begins}
use Rattle.relay_theory.proofs.Mapped.{alone-holds}
use Rattle.run_theory.specs.Run.{ins, outs}
use Rattle.delivery_theory.specs.Work.{working, reading}
use Rattle.relay_memory.specs.Memory.{cut}
use Rattle.relay_memory.specs.Refusals.{number}
use Rattle.relay_memory.specs.Values.{parcel, state, ended_in, Tells}
use Rattle.relay_memory.specs.declared.refusal.Refusal.{Refusal}
use Rattle.relay_node.specs.Nodes.{Works}
use Rattle.relay_node.specs.Steps.{take_packet, take_message}
use Rattle.relay_node.specs.Values.{goes, scheme, reading as reading_of}
use Rattle.relay_node.specs.Relays.{recent, sending, Relayed, Relays, Sources}
use Rattle.relay_node.specs.declared.node.Node.{Node}
use Rattle.relay_node.proofs.Assembled.{works-on}

-- schemes that agree on the links that go out send the same
send-like : {A : Type 0} (f g : ℕ → A → Packet) (r : ℕ) (bs : A) (ks : List ℕ) → ((k : ℕ) → is_in k ks ≡ true → f k bs ≡ g k bs) → send f r bs ks ≡ send g r bs ks
unfolding send is_in
send-like f g r bs [] h = refl
send-like f g r bs (k ∷ ks) h = ap₂ (λ c l. record { link = k; round = r; content = c } ∷ l) (h k (or_left _ _ (eq-eqb k k refl))) (send-like f g r bs ks (λ j t. h j (or_right _ _ t)))

sent-like : {A : Type 0} (f g : ℕ → List A → Packet) (ks : List ℕ) (os : List (Over A)) → ((k : ℕ) (bs : List A) → is_in k ks ≡ true → f k bs ≡ g k bs) → sent f ks os ≡ sent g ks os
unfolding sent
sent-like f g ks [] h = refl
sent-like f g ks (o ∷ os) h = ap₂ (λ a b. a ++ b) (send-like f g o.number o.came ks (λ k t. h k o.came t)) (sent-like f g ks os h)

readings-like : {A : Type 0} (f g : List A → List Packet) (os : List (Over A)) → ((bs : List A) → f bs ≡ g bs) → readings f os ≡ readings g os
unfolding readings
readings-like f g [] h = refl
readings-like f g (o ∷ os) h = ap₂ (λ a b. a ∷ b) (h o.came) (readings-like f g os h)

module _ (m : Multicast) (cs : List (List ℕ)) (rs : List Reader) (p : ℕ) (d : Node) (w : Works m cs rs p d) where
  -- by its own coefficients and rows, or by the plan's
  sends-so : (os : List (Over (List Packet))) → sent (at_source (scheme d)) (goes d) os ≡ sent (at_source (working cs)) (outs m.network p) os
  sends-so os =
      ap (λ ks. sent (at_source (scheme d)) ks os) w.goes
      ∙ sent-like (at_source (scheme d)) (at_source (working cs)) (outs m.network p) os (λ k ms t. w.sends k t (flat_map (λ b. b) ms))

  puts-so : (os : List (Over (List Packet))) → readings (λ ms. reading_of d (flat_map (λ b. b) ms)) os ≡ readings (λ ms. reading m rs p (flat_map (λ b. b) ms)) os
  puts-so os = readings-like (λ ms. reading_of d (flat_map (λ b. b) ms)) (λ ms. reading m rs p (flat_map (λ b. b) ms)) os (λ ms. w.reads (flat_map (λ b. b) ms))

module _ (m : Multicast) (cs : List (List ℕ)) (rs : List Reader) (p : ℕ) (before after : Node) (later : Works m cs rs p after) (s : State Packet) (x : Parcel Packet) where
  follows : (o : Result ℕ Refusal) (a : Answer Packet) → receive (ins m.network p) s x ≡ a → Tells before.slots after.slots o (map_answer alone a) → Relayed m cs rs p s x before after o
  follows (Err f) (refused n) e h = let q : n ≡ number f = cc h.0 in (e ∙ ap refused q, h.1)
  follows (Err f) (took t) e h = let z : ◌≡◌ {A = ℕ} 0 1 = cc h.0 in absurd (omega arith)
  follows (Ok count) (refused n) e h = let z : ◌≡◌ {A = ℕ} 0 1 = cc h.2 in absurd (omega arith)
  follows (Ok count) (took t) e h =
      let q : map_ended alone t ≡ ended_in after.slots before.slots.round count = cc h.2 in
      let rounds : recent after before.slots.round count ≡ map (map_over alone) t.rounds = sym (ap (λ v. v.rounds) q) in (
        t,
        e,
        sym (ap (λ v. v.state) q),
        ap (sent (at_source (scheme after)) (goes after)) rounds ∙ sends-so m cs rs p after later (map (map_over alone) t.rounds) ∙ alone-holds.same_sent (working cs) (outs m.network p) t.rounds,
        ap (readings (λ ms. reading_of after (flat_map (λ b. b) ms))) rounds ∙ puts-so m cs rs p after later (map (map_over alone) t.rounds) ∙ alone-holds.same_read (reading m rs p) t.rounds,
      )

pub relays : Relays
relays m cs rs p away before after w like s same x o h =
    follows m cs rs p before after (works-on m cs rs p before after like w) s x o (receive (ins m.network p) s x) refl (subst (Tells before.slots after.slots o) is h)
  where
    here : before.source ≡ false
    here = w.source ∙ ne_eqb p 0 away

    comes : vec_items before.slots.ins ≡ ins m.network p
    comes = w.comes ∙ cond-false (eqb p 0) origin (ins m.network p) (ne_eqb p 0 away)

    is : take_packet before.source (vec_items before.slots.ins) (state before.slots) x.link x.round x.content ≡ map_answer alone (receive (ins m.network p) s x)
    is =
        cond-false before.source (refused 6) _ here
        ∙ ap₂ (λ is t. receive is t (parcel x.link x.round (x.content ∷ []))) comes same
        ∙ alone-holds.received (ins m.network p) s x

pub sources : Sources
sources m cs rs before after w like n same bytes long o h = answer o (subst (Tells before.slots after.slots o) (is ∙ (begins n (cut m.rate bytes)).1) h)
  where
    is : take_message before.source before.slots.width (vec_items before.slots.ins) (state before.slots) n bytes ≡ receive origin (begun n) (parcel 0 n (cut m.rate bytes))
    is =
        ap₂ (λ v a. cond (v && eqb (length bytes) (a * 1024)) (receive (vec_items before.slots.ins) (state before.slots) (parcel 0 n (cut a bytes))) (refused 1)) w.source w.wide
        ∙ cond-true _ _ _ (eq-eqb (length bytes) (m.rate * 1024) long)
        ∙ ap₂ (λ is t. receive is t (parcel 0 n (cut m.rate bytes))) w.comes same

    later : Works m cs rs 0 after
    later = works-on m cs rs 0 before after like w

    answer : (o : Result ℕ Refusal) → Tells before.slots after.slots o (took (begins n (cut m.rate bytes)).0)
        → (count : ℕ) × (o ≡ Ok count) × (state after.slots ≡ begun (n + 1))
        × (sending after before.slots.round count ≡ send (working cs) n (cut m.rate bytes) (outs m.network 0))
    answer (Err f) h = let z : ◌≡◌ {A = ℕ} 0 1 = cc h.0 in absurd (omega arith)
    answer (Ok count) h =
        let b = begins n (cut m.rate bytes) in
        let q : (begins n (cut m.rate bytes)).0 ≡ ended_in after.slots before.slots.round count = cc h.2 in (
          count,
          refl,
          sym (ap (λ v. v.state) q) ∙ b.2,
          ap (sent (at_source (scheme after)) (goes after)) (sym (ap (λ v. v.rounds) q)) ∙ sends-so m cs rs 0 after later b.0.rounds ∙ b.3 (working cs) (outs m.network 0),
        )
