-- Rounds end one after the other: what is left of the endings follows the rounds that have ended.
use Rattle.std.proofs.Common.{◌≡◌, ℕ, zero, suc, ◌+◌, ◌-◌, ◌<◌, ◌≤◌, true, false, List, [], ◌∷◌, ◌++◌, map, vec_items, sym, refl, ap, ◌∙◌, append_assoc, append-nil, arith}
use mathlib.Core.Path.{fun_ext}
use Rattle.std.specs.List.{range_with_len}
use Rattle.std.proofs.lemmas.List.FromFn.{map-range_with_len_more}
use Rattle.network_cuts.specs.Scheme.{Packet}
use Rattle.relay_theory.specs.Relay.{State, is_over, Over, over_now, next, after, ends}
use Rattle.relay_memory.specs.Values.{state, over_in, ended_in}
use Rattle.relay_memory.specs.declared.slots.Slots.{Slots}
use Rattle.relay_memory.proofs.Steps.{over-state}

module _ (is : List ℕ) (s : State (List Packet)) where
  ends-step : (m : ℕ) → is_over is s ≡ true → ends (suc m) is s ≡ after (over_now is s ∷ []) (ends m is (next s))
  unfolding ends
  ends-step m h = rw h

  ends-stop : (m : ℕ) → is_over is s ≡ false → ends m is s ≡ record { state = s; rounds = [] }
  unfolding ends
  ends-stop zero h = refl
  ends-stop (suc m) h = rw h

  ends-none : ends 0 is s ≡ record { state = s; rounds = [] }
  unfolding ends
  ends-none = refl

-- `count` rounds have ended since `self`, and now it is `slots`
pub record Ending (self slots : Slots) (count : ℕ) : Type 0 where
  pub few : count ≤ 3
  pub ins : slots.ins ≡ self.ins
  pub width : slots.width ≡ self.width
  pub packets : slots.packets ≡ self.packets
  pub round : slots.round ≡ self.round + count
  pub ends_so : ends 3 (vec_items self.ins) (state self)
      ≡ after (map (over_in self) (range_with_len self.round count)) (ends (3 - count) (vec_items self.ins) (state slots))

pub ending-none : (s : Slots) → Ending s s 0
ending-none s = record { few = omega arith; ins = refl; width = refl; packets = refl; round = omega arith; ends_so = refl }

module _ (self slots : Slots) (count : ℕ) (i : Ending self slots count) where
  same_over : (r : ℕ) → over_in slots r ≡ over_in self r
  same_over r = rw (i.ins, i.width, i.packets) refl

  pub ending-more : (then : Slots) → count < 3 → is_over (vec_items slots.ins) (state slots) ≡ true → state then ≡ next (state slots)
      → then.ins ≡ slots.ins → then.width ≡ slots.width → then.packets ≡ slots.packets → then.round ≡ slots.round + 1 → Ending self then (count + 1)
  ending-more then l h e a w b d =
      record {
        few = omega arith;
        ins = a ∙ i.ins;
        width = w ∙ i.width;
        packets = b ∙ i.packets;
        round = omega (arith, i.round);
        ends_so = i.ends_so ∙ ap (after done) (ap (λ m. ends m is (state slots)) left ∙ ends-step is (state slots) (3 - (count + 1)) over ∙ ap (λ t. after (over_now is (state slots) ∷ []) (ends (3 - (count + 1)) is t)) (sym e)) ∙ joined;
      }
    where
      is : List ℕ
      is = vec_items self.ins

      done : List (Over (List Packet))
      done = map (over_in self) (range_with_len self.round count)

      over : is_over (vec_items self.ins) (state slots) ≡ true
      over = ap (λ v. is_over (vec_items v) (state slots)) (sym i.ins) ∙ h

      left : 3 - count ≡ suc (3 - (count + 1))
      left = omega arith

      last : over_now (vec_items self.ins) (state slots) ≡ over_in self slots.round
      last = ap (λ v. over_now (vec_items v) (state slots)) (sym i.ins) ∙ over-state slots h ∙ same_over slots.round

      more : map (over_in self) (range_with_len self.round count) ++ over_now (vec_items self.ins) (state slots) ∷ [] ≡ map (over_in self) (range_with_len self.round (count + 1))
      more = ap (λ o. map (over_in self) (range_with_len self.round count) ++ o ∷ []) last ∙ sym (map-range_with_len_more (over_in self) self.round count slots.round (sym i.round))

      joined : after (map (over_in self) (range_with_len self.round count)) (after (over_now (vec_items self.ins) (state slots) ∷ []) (ends (3 - (count + 1)) (vec_items self.ins) (state then))) ≡ after (map (over_in self) (range_with_len self.round (count + 1))) (ends (3 - (count + 1)) (vec_items self.ins) (state then))
      joined = ap (λ os. record { state = (ends (3 - (count + 1)) (vec_items self.ins) (state then)).state; rounds = os }) (sym (append_assoc _ (over_now (vec_items self.ins) (state slots) ∷ []) _) ∙ ap (λ l. l ++ (ends (3 - (count + 1)) (vec_items self.ins) (state then)).rounds) more)

  ended : ends (3 - count) (vec_items self.ins) (state slots) ≡ record { state = state slots; rounds = [] } → ends 3 (vec_items self.ins) (state self) ≡ ended_in slots self.round count
  ended e =
      i.ends_so ∙ ap (after (map (over_in self) (range_with_len self.round count))) e
      ∙ ap (λ os. record { state = state slots; rounds = os }) (append-nil _ ∙ ap (λ g. map g (range_with_len self.round count)) (fun_ext (λ r. sym (same_over r))))

  pub ending-idle : is_over (vec_items slots.ins) (state slots) ≡ false → ends 3 (vec_items self.ins) (state self) ≡ ended_in slots self.round count
  ending-idle h = ended (ends-stop _ _ (3 - count) (ap (λ v. is_over (vec_items v) (state slots)) (sym i.ins) ∙ h))

  pub ending-third : 3 ≤ count → ends 3 (vec_items self.ins) (state self) ≡ ended_in slots self.round count
  ending-third l = let z : 3 - count ≡ 0 = omega arith in ended (ap (λ m. ends m (vec_items self.ins) (state slots)) z ∙ ends-none _ _)
