-- A link is passed: its beginning has the packets of the round in memory, so what it sends is what is under way; its end takes it in as the definition says.
use Rattle.std.proofs.Common.{◌≡◌, ℕ, zero, suc, ◌+◌, ◌-◌, ◌^◌, ◌<◌, ◌≤◌, true, false, cond, ◌⊎◌, List, [], ◌∷◌, ◌++◌, map, length, get_or, set, Ok, Err, Result, vec_items, sym, refl, ap, ◌∙◌, subst, ap₂, inl, inr, arith}
use Rattle.std.specs.List.{range_with_len, flat_map}
use Rattle.std.proofs.lemmas.List.{get_or-set_same, get_or-set_other, length-set}
use Rattle.std.proofs.lemmas.Bool.{cases_eq, eq-eqb, ne_eqb}
use Rattle.network.specs.Network.{Network, Multicast, link_at, Accepted}
use Rattle.network_cuts.specs.Scheme.{Packet, Scheme, carried, got}
use Rattle.wire.specs.Plan.{Reader}
use Rattle.relay_theory.specs.Relay.{State, is_in, Over, Ended, Answer, refused, took, receive, at_source}
use Rattle.relay_theory.specs.Law.{begun}
use Rattle.relay_theory.specs.Mapped.{map_state, map_over, map_ended, map_answer, alone}
use Rattle.relay_theory.proofs.Finds.{numbers-in}
use Rattle.relay_theory.proofs.Mapped.{receive-map}
use Rattle.run_theory.specs.Run.{Config, ins, outs}
use Rattle.run_theory.proofs.Carries.{carried-at}
use Rattle.run_theory.proofs.Stages.{change-at, change-off, rounds-other}
use Rattle.play_theory.specs.Round.{Passing}
use Rattle.play_theory.proofs.Round.{passes}
use Rattle.delivery_theory.specs.Work.{working, reading}
use Rattle.relay_node.specs.Steps.{take_packet}
use Rattle.relay_memory.specs.Values.{state, over_in, Tells}
use Rattle.relay_node.specs.Values.{Alike, goes, scheme}
use Rattle.relay_node.specs.declared.node.Node.{Node}
use Rattle.relay_memory.specs.declared.refusal.Refusal.{Refusal}
use Rattle.relay_node.specs.Nodes.{Works}
use Rattle.run.specs.Zero.{zeros}
use Rattle.run.specs.Taking.{Took}
use Rattle.run.specs.Stands.{busy, held, Midway}
use Rattle.run.specs.declared.player.Player.{Player}

busy-push : (z : Network) (f : Scheme) (k : ℕ) (msgs : List (List Packet)) (msg : List Packet) → busy z f k (msgs ++ msg ∷ []) ≡ busy z f k msgs + cond (zeros (get_or (carried z f msg) k [])) 0 1
unfolding busy
busy-push z f k [] msg = omega arith
busy-push z f k (x ∷ msgs) msg = omega (arith, busy-push z f k msgs msg)

busy-bound : (z : Network) (f : Scheme) (k : ℕ) (msgs : List (List Packet)) → busy z f k msgs ≤ length msgs
unfolding busy
busy-bound z f k [] = omega arith
busy-bound z f k (x ∷ msgs) =
    let h = busy-bound z f k msgs in
    elim (zeros (get_or (carried z f x) k [])) as (λ v. cond v 0 1 + busy z f k msgs ≤ suc (length msgs)) [ true ↦ omega arith | false ↦ omega arith ]

joined-alone : (bs : List Packet) → flat_map (λ b. b) (map alone bs) ≡ bs
joined-alone [] = refl
joined-alone (b ∷ bs) = ap (λ l. b ∷ l) (joined-alone bs)

-- what a node does with what comes in does not change how it works
pub still-works : (m : Multicast) (cs : List (List ℕ)) (rs : List Reader) (p : ℕ) (one two : Node) → Works m cs rs p one → Alike one two → Works m cs rs p two
still-works m cs rs p one two w a =
    record {
      source = a.source ∙ w.source;
      wide = a.width ∙ w.wide;
      comes = ap vec_items a.ins ∙ w.comes;
      goes = ap (λ os. map (λ o. o.link) (vec_items os)) a.outs ∙ w.goes;
      sends = λ k h bs. rw a.outs (w.sends k h bs);
      reads = λ bs. rw (a.current, a.rows) (w.reads bs);
    }

-- a packet is taken in as a list of one
record Took' (after : Node) (e : Ended Packet) : Type 0 where
  new : state after.slots ≡ map_state alone e.state
  came : (r : ℕ) (bs : List Packet) → e.rounds ≡ record { number = r; came = bs } ∷ [] → flat_map (λ b. b) (over_in after.slots r).came ≡ bs

abbrev ended_by : {A : Type 0} → Ended A → Answer A → Ended A
ended_by d (refused n) = d
ended_by d (took e) = e

abbrev told : {A : Type 0} → Answer A → ℕ
told (refused n) = 0
told (took e) = 1

abbrev first_of : {A : Type 0} → Over A → List (Over A) → Over A
first_of d [] = d
first_of d (o ∷ os) = o

-- what is told of what came in, by the answer of the definition
pub record Kept (after : Node) (e : Ended (List Packet)) : Type 0 where
  pub new : state after.slots ≡ e.state
  pub came : (r : ℕ) (ms : List (List Packet)) → e.rounds ≡ record { number = r; came = ms } ∷ [] → (over_in after.slots r).came ≡ ms

only-round : (after : Node) (b n r : ℕ) (ms : List (List Packet)) → record { number = r; came = ms } ∷ [] ≡ map (over_in after.slots) (range_with_len b n) → (over_in after.slots r).came ≡ ms
only-round after b zero r ms e = absurd (let n = ap length e in omega arith)
only-round after b (suc n) r ms e =
    let o = ap (first_of (over_in after.slots 0)) e in
    let q : r ≡ b = ap (λ (u : Over (List Packet)). u.number) o in
    let c = ap (λ (u : Over (List Packet)). u.came) o in
    ap (λ i. (over_in after.slots i).came) q ∙ sym c

pub tells : (before after : Node) (o : Result ℕ Refusal) (e : Ended (List Packet)) → Tells before.slots after.slots o (took e) → Kept after e
tells before after (Err f) e t = absurd (let n = ap told t.0 in omega arith)
tells before after (Ok n) e t =
    let is = ap (ended_by e) t.2 in
    record {
      new = sym (ap (λ (u : Ended (List Packet)). u.state) is);
      came = λ r ms q. only-round after before.slots.round n r ms (sym q ∙ ap (λ (u : Ended (List Packet)). u.rounds) is);
    }

taken_in : (before after : Node) (is : List ℕ) (s : State Packet) (k r : ℕ) (packet : Packet) (e : Ended Packet)
    → before.source ≡ false → vec_items before.slots.ins ≡ is → state before.slots ≡ map_state alone s
    → receive is s (record { link = k; round = r; content = packet }) ≡ took e
    → Took before after (take_packet before.source (vec_items before.slots.ins) (state before.slots) k r packet) → Took' after e
taken_in before after is s k r packet e h i d t o =
    let kept = tells before after o.0.0 (map_ended alone e) (subst (Tells before.slots after.slots o.0.0) answer o.0.1) in
    record { new = kept.new; came = λ r bs q. ap (flat_map (λ b. b)) (kept.came r (map alone bs) (ap (map (map_over alone)) q)) ∙ joined-alone bs }
  where
    answer : take_packet before.source (vec_items before.slots.ins) (state before.slots) k r packet ≡ took (map_ended alone e)
    answer =
        ap (λ b. take_packet b (vec_items before.slots.ins) (state before.slots) k r packet) h
        ∙ ap₂ (λ js u. receive js u (record { link = k; round = r; content = packet ∷ [] })) i d
        ∙ receive-map alone is s (record { link = k; round = r; content = packet })
        ∙ ap (map_answer alone) t

module _ (m : Multicast) (ok : Accepted m) (cs : List (List ℕ)) (rs : List Reader) (c : Config) (msg : List Packet) (k : ℕ) (l : k < length m.network.links) (y : Player) (now : Config) (w : Midway m cs rs c msg k y now) where
  abbrev q : ℕ
  q = (link_at m.network.links k).from

  pub on : (then' : Config) × (e : Ended Packet) × Passing m.network (working cs) (reading m rs) c msg k now e then'
  on = passes m.network ok.sound ok.fed (working cs) (reading m rs) c w.rests msg k l now w.passed

  -- the packet that the link's beginning sends
  pub right-packet : (d : Node) (packet : Packet)
      → ((d : Node) → is_in k (goes (get_or (vec_items y.nodes) (link_at m.network.links k).from d)) ≡ true → packet ≡ at_source (scheme (get_or (vec_items y.nodes) (link_at m.network.links k).from d)) k (over_in (get_or (vec_items y.nodes) (link_at m.network.links k).from d).slots y.round).came)
      → packet ≡ working cs k (got m.network (working cs) (link_at m.network.links k).from msg)
  right-packet d packet is =
      let inside = (ok.sound.within k l).0 in
      let works = w.fitted.works q d inside in
      let out : is_in k (outs m.network q) ≡ true = numbers-in (λ l. l.from) q m.network.links 0 k k (omega arith) l refl in
      is d (ap (is_in k) works.goes ∙ out) ∙ works.sends k out _ ∙ ap (working cs k) (hand-is d inside)
    where
      hand-is : (d : Node) → (link_at m.network.links k).from < m.network.nodes → held y y.round (link_at m.network.links k).from d ≡ got m.network (working cs) (link_at m.network.links k).from msg
      hand-is d inside =
          elim (cases_eq (link_at m.network.links k).from 0) [
            | inl e ↦ rw (eq-eqb (link_at m.network.links k).from 0 e) (ap (λ i. held y y.round i d) e ∙ w.message d)
            | inr e ↦
                w.came (link_at m.network.links k).from d (omega arith) inside
                (omega (arith, on.2.sent, rounds-other now.begun now.states (link_at m.network.links k).from e, w.number))
          ]

  module _ (d₀ : Node) (y' : Player) (packet : Packet) (is : packet ≡ working cs k (got m.network (working cs) (link_at m.network.links k).from msg)) (same : y'.round ≡ y.round) (early : y.round < 2 ^ 32) (after : Node)
      (put : vec_items y'.nodes ≡ set (vec_items y.nodes) (link_at m.network.links k).to after)
      (took' : Took (get_or (vec_items y.nodes) (link_at m.network.links k).to d₀) after (take_packet (get_or (vec_items y.nodes) (link_at m.network.links k).to d₀).source (vec_items (get_or (vec_items y.nodes) (link_at m.network.links k).to d₀).slots.ins) (state (get_or (vec_items y.nodes) (link_at m.network.links k).to d₀).slots) k y.round packet))
      (counted : get_or (vec_items y.counts) k 0 < 2 ^ 64 - 1 → vec_items y'.counts ≡ set (vec_items y.counts) k (get_or (vec_items y.counts) k 0 + cond (zeros packet) 0 1)) where
    there : (link_at m.network.links k).to < m.network.nodes
    there = (ok.sound.within k l).1

    not-source : (link_at m.network.links k).to ≡ 0 → ⊥
    not-source = (ok.sound.apart k l).0

    works : Works m cs rs (link_at m.network.links k).to (get_or (vec_items y.nodes) (link_at m.network.links k).to d₀)
    works = w.fitted.works (link_at m.network.links k).to d₀ there

    passing : Passing m.network (working cs) (reading m rs) c msg k now on.1 on.0
    passing = on.2

    in-there : Took' after on.1
    in-there =
        taken_in _ after (ins m.network (link_at m.network.links k).to) (now.states (link_at m.network.links k).to) k y.round packet on.1
        (works.source ∙ ne_eqb (link_at m.network.links k).to 0 not-source)
        (rw (ne_eqb (link_at m.network.links k).to 0 not-source) at works.comes)
        (w.states (link_at m.network.links k).to d₀ (omega (arith, not-source)) there)
        (ap₂ (λ r v. receive (ins m.network (link_at m.network.links k).to) (now.states (link_at m.network.links k).to) (record { link = k; round = r; content = v })) w.number is ∙ passing.taken)
        took'

    -- a node of the new list: the one that took the packet in, or one that is as it was
    at_place : (i : ℕ) (d : Node) → ((i ≡ (link_at m.network.links k).to) × (get_or (vec_items y'.nodes) i d ≡ after)) ⊎ ((i ≡ (link_at m.network.links k).to → ⊥) × (get_or (vec_items y'.nodes) i d ≡ get_or (vec_items y.nodes) i d))
    at_place i d =
        elim (cases_eq i (link_at m.network.links k).to) [
          | inl h ↦ inl (h, ap (λ ns. get_or ns i d) put ∙ rw h (get_or-set_same (vec_items y.nodes) _ after d (omega (arith, w.fitted.every, there))))
          | inr h ↦ inr (h, ap (λ ns. get_or ns i d) put ∙ get_or-set_other (vec_items y.nodes) _ i after d h)
        ]

    counts-are : vec_items y'.counts ≡ set (vec_items y.counts) k (get_or (vec_items y.counts) k 0 + cond (zeros packet) 0 1)
    counts-are = counted (omega (arith, w.ahead k (omega arith) l, busy-bound m.network (working cs) k c.begun, w.number, early))

    new-states : (i : ℕ) → (i ≡ (link_at m.network.links k).to → ⊥) → on.0.states i ≡ now.states i
    new-states i h = ap (λ f. f i) passing.states ∙ change-off (link_at m.network.links k).to i on.1.state now.states h

    new-state : (i : ℕ) → i ≡ (link_at m.network.links k).to → on.0.states i ≡ on.1.state
    new-state i h = ap (λ f. f i) passing.states ∙ change-at (link_at m.network.links k).to i on.1.state now.states h

    pub passed_on : Midway m cs rs c msg (k + 1) y' on.0
    passed_on =
        record {
          fitted =
              record {
                every = ap length put ∙ length-set (vec_items y.nodes) _ after ∙ w.fitted.every;
                works = λ i d h.
                    elim (at_place i d) [
                      | inl t ↦ subst (λ n. Works m cs rs i n) (sym t.1) (subst (λ j. Works m cs rs j after) (sym t.0) (still-works m cs rs _ _ after works took'.1))
                      | inr t ↦ subst (λ n. Works m cs rs i n) (sym t.1) (w.fitted.works i d h)
                    ];
                lines = ap length counts-are ∙ length-set (vec_items y.counts) k _ ∙ w.fitted.lines;
              };
          rests = w.rests;
          passed = passing.passed;
          number = same ∙ w.number;
          source = λ d. elim (at_place 0 d) [
            | inl t ↦ absurd (not-source (sym t.0))
            | inr t ↦ ap (λ (n : Node). state n.slots) t.1 ∙ w.source d ∙ ap (λ r. begun (r + 1)) (sym same)
          ];
          message = λ d. elim (at_place 0 d) [
            | inl t ↦ absurd (not-source (sym t.0))
            | inr t ↦ ap₂ (λ (n : Node) r. flat_map (λ b. b) (over_in n.slots r).came) t.1 same ∙ w.message d
          ];
          states = λ i d o h. elim (at_place i d) [
            | inl t ↦ ap (λ (n : Node). state n.slots) t.1 ∙ in-there.new ∙ ap (map_state alone) (sym (new-state i t.0))
            | inr t ↦ ap (λ (n : Node). state n.slots) t.1 ∙ w.states i d o h ∙ ap (map_state alone) (sym (new-states i t.0))
          ];
          came = λ i d o h over. elim (at_place i d) [
            | inl t ↦
                let n : (on.0.states i).round ≡ on.1.state.round = ap (λ (u : State Packet). u.round) (new-state i t.0) in
                elim passing.ended [
                  | inl q ↦ absurd (omega (arith, over, n, q.1, same, w.number, (w.passed.ahead k (omega arith) l).0))
                  | inr q ↦
                      ap₂ (λ (n : Node) r. flat_map (λ b. b) (over_in n.slots r).came) t.1 (same ∙ w.number)
                      ∙ in-there.came (length c.begun) _ q.0 ∙ ap (λ j. got m.network (working cs) j msg) (sym t.0)
                ]
            | inr t ↦
                let n : (on.0.states i).round ≡ (now.states i).round = ap (λ (u : State Packet). u.round) (new-states i t.0) in
                ap₂ (λ (n : Node) r. flat_map (λ b. b) (over_in n.slots r).came) t.1 same ∙ w.came i d o h (omega (arith, over, n, same))
          ];
          past = λ j h i. elim (cases_eq j k) [
            | inl d ↦ rw d now-counted
            | inr d ↦ ap (λ ns. get_or ns j 0) counts-are ∙ get_or-set_other (vec_items y.counts) k j _ 0 d ∙ w.past j (omega arith) i
          ];
          ahead = λ j h i. ap (λ ns. get_or ns j 0) counts-are ∙ get_or-set_other (vec_items y.counts) k j _ 0 (λ d. omega arith) ∙ w.ahead j (omega arith) i;
        }
      where
        now-counted : get_or (vec_items y'.counts) k 0 ≡ busy m.network (working cs) k (c.begun ++ msg ∷ [])
        now-counted =
            ap (λ ns. get_or ns k 0) counts-are ∙ get_or-set_same (vec_items y.counts) k _ 0 (omega (arith, w.fitted.lines))
            ∙ ap₂ (λ n v. n + cond (zeros v) 0 1) (w.ahead k (omega arith) l) (is ∙ sym (carried-at m.network ok.sound (working cs) msg k l))
            ∙ sym (busy-push m.network (working cs) k c.begun msg)
