-- The source takes in a message at once, and its packets are then in its memory.
use Rattle.std.proofs.Common.{◌≡◌, ℕ, ◌+◌, ◌*◌, ◌<◌, ◌≤◌, true, cond, ◌⊎◌, List, [], ◌∷◌, length, get_or, set, vec_items, sym, refl, ap, ◌∙◌, subst, ap₂, inl, inr, append-nil, arith}
use mathlib.Core.Path.{fun_ext}
use Rattle.std.specs.List.{flat_map}
use Rattle.std.proofs.lemmas.List.{get_or-set_same, get_or-set_other, length-set}
use Rattle.std.proofs.lemmas.Bool.{cases_eq, eq-eqb}
use Rattle.network.specs.Network.{Multicast, Accepted}
use Rattle.network_cuts.specs.Scheme.{Packet}
use Rattle.wire.specs.Plan.{Reader}
use Rattle.relay_theory.specs.Relay.{Parcel, State, is_in, any, complete, came_in, is_over, Ended, next, keep, ends, refused, took, receive, origin}
use Rattle.relay_theory.specs.Law.{begun}
use Rattle.relay_theory.specs.Mapped.{map_state, alone}
use Rattle.relay_theory.proofs.Finds.{added-same, added-other, except-same, except-other}
use Rattle.relay_theory.proofs.Receives.{accepts, never-over}
use Rattle.run_theory.specs.Run.{Config}
use Rattle.run_theory.proofs.Runs.{inv-led}
use Rattle.play_theory.specs.Round.{Passed}
use Rattle.play_theory.proofs.Round.{began}
use Rattle.delivery_theory.specs.Work.{working, reading}
use Rattle.relay_memory.specs.Memory.{cut}
use Rattle.relay_node.specs.Nodes.{Works}
use Rattle.relay_node.specs.Steps.{take_message}
use Rattle.relay_memory.specs.Values.{state, over_in, Tells}
use Rattle.relay_node.specs.declared.node.Node.{Node}
use Rattle.run.specs.Taking.{Took}
use Rattle.run.specs.Stands.{Stands, Midway}
use Rattle.run.specs.declared.player.Player.{Player}
use Rattle.run.proofs.Pass.{Kept, tells, still-works}

-- the source works at round r, and the message of round r comes in
module _ (r : ℕ) (msg : List Packet) where
  abbrev x : Parcel (List Packet)
  x = record { link = 0; round = r; content = msg }

  abbrev kept : State (List Packet)
  kept = keep x (begun r)

  one : kept.kept 0 r ≡ msg ∷ []
  one = added-same x (begun r).kept

  none : (k q : ℕ) → (next kept).kept k q ≡ []
  none k q = elim (cases_eq q r) [ inl e ↦ except-same k q r kept.kept e | inr e ↦ except-other k q r kept.kept e ∙ added-other k q x (begun r).kept (λ _ d. e d) ]

  emptied : next kept ≡ begun (r + 1)
  emptied = ap (λ g. record { round = r + 1; kept = g }) (fun_ext (λ k. fun_ext (none k)))

  over : is_over origin kept ≡ true
  unfolding is_over any complete
  over = rw one refl

  came : came_in r origin kept.kept ≡ msg ∷ []
  unfolding came_in
  came = rw one refl

  abbrev begins : Ended (List Packet)
  begins = record { state = begun (r + 1); rounds = record { number = r; came = msg ∷ [] } ∷ [] }

  ending : ends 3 origin kept ≡ begins
  unfolding ends
  ending = rw (over, never-over origin (next kept) (λ k. none k (r + 1))) (ap₂ (λ s b. record { state = s; rounds = record { number = r; came = b } ∷ [] }) emptied came)

  pub source-takes : receive origin (begun r) x ≡ took begins
  unfolding is_in
  source-takes = accepts origin (begun r) x (record { comes = refl; open' = omega arith; free = refl; soon = omega arith }) ∙ ap took ending

module _ (m : Multicast) (ok : Accepted m) (cs : List (List ℕ)) (rs : List Reader) (c : Config) (y y' : Player) (w : Stands m cs rs y c) (bytes : List ℕ) (long : length bytes ≡ m.rate * 1024)
    (d₀ : Node) (same : y'.round ≡ y.round) (counts : vec_items y'.counts ≡ vec_items y.counts) (after : Node) (put : vec_items y'.nodes ≡ set (vec_items y.nodes) 0 after)
    (took' : Took (get_or (vec_items y.nodes) 0 d₀) after (take_message (get_or (vec_items y.nodes) 0 d₀).source (get_or (vec_items y.nodes) 0 d₀).slots.width (vec_items (get_or (vec_items y.nodes) 0 d₀).slots.ins) (state (get_or (vec_items y.nodes) 0 d₀).slots) y.round bytes)) where
  some : 0 < m.network.nodes
  some = omega (arith, ok.sound.some)

  works : Works m cs rs 0 (get_or (vec_items y.nodes) 0 d₀)
  works = w.fitted.works 0 d₀ some

  answer : take_message (get_or (vec_items y.nodes) 0 d₀).source (get_or (vec_items y.nodes) 0 d₀).slots.width (vec_items (get_or (vec_items y.nodes) 0 d₀).slots.ins) (state (get_or (vec_items y.nodes) 0 d₀).slots) y.round bytes ≡ took (begins y.round (cut m.rate bytes))
  answer =
      ap₂ (λ b h. take_message b h (vec_items (get_or (vec_items y.nodes) 0 d₀).slots.ins) (state (get_or (vec_items y.nodes) 0 d₀).slots) y.round bytes) works.source works.wide
      ∙ ap₂ (λ is s. take_message true m.rate is s y.round bytes) works.comes (w.source d₀)
      ∙ ap (λ b. cond b (receive origin (begun y.round) (record { link = 0; round = y.round; content = cut m.rate bytes })) (refused 1)) (eq-eqb (length bytes) (m.rate * 1024) long)
      ∙ source-takes y.round (cut m.rate bytes)

  in-there : Kept after (begins y.round (cut m.rate bytes))
  in-there = tells (get_or (vec_items y.nodes) 0 d₀) after took'.0.0 _ (subst (Tells (get_or (vec_items y.nodes) 0 d₀).slots after.slots took'.0.0) answer took'.0.1)

  at_place : (i : ℕ) (d : Node) → ((i ≡ 0) × (get_or (vec_items y'.nodes) i d ≡ after)) ⊎ ((i ≡ 0 → ⊥) × (get_or (vec_items y'.nodes) i d ≡ get_or (vec_items y.nodes) i d))
  at_place i d =
      elim (cases_eq i 0) [
        | inl h ↦ inl (h, ap (λ ns. get_or ns i d) put ∙ rw h (get_or-set_same (vec_items y.nodes) 0 after d (omega (arith, w.fitted.every, some))))
        | inr h ↦ inr (h, ap (λ ns. get_or ns i d) put ∙ get_or-set_other (vec_items y.nodes) 0 i after d h)
      ]

  first_of : (d : Node) → get_or (vec_items y'.nodes) 0 d ≡ after
  first_of d = elim (at_place 0 d) [ inl t ↦ t.1 | inr t ↦ absurd (t.0 refl) ]

  pub start_of : (c₁ : Config) × Passed m.network (working cs) (reading m rs) c (cut m.rate bytes) 0 c₁ × (c₁.states ≡ c.states) × (c₁.out ≡ c.out)
  start_of = began m.network ok.sound ok.fed (working cs) (reading m rs) c w.rests (cut m.rate bytes)

  -- no node but the source has anything of the round
  none-ended : (p : ℕ) → (c.states p).round ≤ length c.begun
  none-ended p = (inv-led m.network ok.sound (working cs) (reading m rs) _ c w.rests.0).core.bound p

  pub opened : Midway m cs rs c (cut m.rate bytes) 0 y' start_of.0
  opened =
      record {
        fitted =
            record {
              every = ap length put ∙ length-set (vec_items y.nodes) 0 after ∙ w.fitted.every;
              works = λ i d h.
                  elim (at_place i d) [
                    | inl t ↦ subst (λ n. Works m cs rs i n) (sym t.1) (subst (λ j. Works m cs rs j after) (sym t.0) (still-works m cs rs _ _ after works took'.1))
                    | inr t ↦ subst (λ n. Works m cs rs i n) (sym t.1) (w.fitted.works i d h)
                  ];
              lines = ap length counts ∙ w.fitted.lines;
            };
        rests = w.rests;
        passed = start_of.1;
        number = same ∙ w.number;
        source = λ d. ap (λ (n : Node). state n.slots) (first_of d) ∙ in-there.new ∙ ap (λ r. begun (r + 1)) (sym same);
        message = λ d.
            ap₂ (λ (n : Node) r. flat_map (λ b. b) (over_in n.slots r).came) (first_of d) same
            ∙ ap (flat_map (λ b. b)) (in-there.came y.round (cut m.rate bytes ∷ []) refl) ∙ append-nil _;
        states = λ i d o h. elim (at_place i d) [
          | inl t ↦ absurd (omega (arith, t.0))
          | inr t ↦ ap (λ (n : Node). state n.slots) t.1 ∙ w.states i d o h ∙ ap (λ f. map_state alone (f i)) (sym start_of.2)
        ];
        came = λ i d o h over.
            let n : (start_of.0.states i).round ≡ (c.states i).round = ap (λ f. (f i).round) start_of.2 in
            absurd (omega (arith, over, n, none-ended i, same, w.number));
        past = λ j h i. absurd (omega arith);
        ahead = λ j h i. ap (λ ns. get_or ns j 0) counts ∙ w.counts j i;
      }
