-- Where packets come in one by one, the memory of lists of one packet is a memory of packets, and the mixes are sums of bytes.
use Rattle.std.proofs.Common.{◌≡◌, ℕ, zero, suc, ◌+◌, ◌*◌, ◌%◌, ◌<◌, ◌≤◌, Bool, true, false, cond, ◌&&◌, nat_eq, nat_le, List, [], ◌∷◌, map, length, get_or, take, drop, Some, None, Ok, Err, Result, vec_items, sym, refl, ap, ◌∙◌, subst, ap₂, inl, inr, mod-lt, mul-one, arith}
use mathlib.Core.Path.{fun_ext}
use lib.Arith.{digits_lt}
use Rattle.std.specs.List.{range_with_len, flat_map}
use Rattle.std.specs.Option.{option_eq}
use Rattle.std.proofs.lemmas.List.{drop_more}
use Rattle.std.proofs.lemmas.List.FromFn.{length-map-range_with_len, get_or-map-range_with_len}
use Rattle.std.proofs.lemmas.Bool.{cases_Bool, cond-false}
use Rattle.gf.proofs.Fields.{byte_field}
use Rattle.gf_bytes.specs.Packet.{mix_at}
use Rattle.linear.specs.Vectors.{mixed as mixed_of}
use Rattle.network_cuts.specs.Scheme.{Packet}
use Rattle.relay_theory.specs.Relay.{State, is_in, Over, Ended, Answer, refused, took, receive}
use Rattle.relay_theory.specs.Mapped.{map_state, map_over, map_ended, map_answer, alone}
use Rattle.relay_theory.proofs.Mapped.{alone-holds}
use Rattle.delivery_theory.specs.Work.{place}
use Rattle.relay_memory.specs.Memory.{part, slot, held as held_of}
use Rattle.relay_memory.specs.Refusals.{number}
use Rattle.relay_memory.specs.Values.{Tells, parcel, state as state_of, over_in as over_in_of, ended_in as ended_in_of}
use Rattle.relay_memory.specs.declared.refusal.Refusal.{Refusal}
use Rattle.relay_memory.specs.declared.slots.Slots.{Slots}
use Rattle.relay_memory.proofs.Parts.{part_end, cut-one}
use Rattle.relay_memory.proofs.Memory.{at_in}
use Rattle.relay_memory.proofs.Steps.{ins, packets-level}
use Rattle.relay_node.specs.Values.{coefficients_of, scheme as scheme_of, reading as reading_of}
use Rattle.relay_node.specs.Packets.{held, state, over_in, ended_in, Told, mixed, packet_in, OneByOne}
use Rattle.relay_node.specs.declared.node.Node.{Node}
use Rattle.relay_node.proofs.Sums.{mixed-all}

-- parts of one element
part-one : (s : ℕ) (xs : List Packet) → s < length xs → part 1 s xs ≡ alone (get_or xs s [])
part-one s xs l = ap (λ k. take 1 (drop k xs)) (mul-one s) ∙ ap (take 1) (drop_more xs s [] l)

parts-one : (n a : ℕ) (xs : List Packet) → a + n ≤ length xs → map (λ s. part 1 s xs) (range_with_len a n) ≡ map alone (take n (drop a xs))
parts-one zero a xs l = refl
parts-one (suc n) a xs l =
    ap₂ (λ p ps. p ∷ ps) (part-one a xs (omega arith)) (parts-one n (a + 1) xs (omega arith))
    ∙ sym (ap (λ ys. map alone (take (suc n) ys)) (drop_more xs a [] (omega arith)))

cond-alone : (b : Bool) (p : Packet) → cond b (alone p ∷ []) [] ≡ map alone (cond b (p ∷ []) [])
cond-alone true p = refl
cond-alone false p = refl

module _ (s : Slots) (one : s.width ≡ 1) where
  packets-long : length (vec_items s.packets) ≡ 3 * length (ins s)
  packets-long = packets-level s ∙ ap (λ w. 3 * length (ins s) * w) one ∙ mul-one (3 * length (ins s))

  held-alone : (k r : ℕ) → held_of (ins s) s.width s.round (vec_items s.tags) (vec_items s.packets) k r ≡ map alone (held (ins s) s.round (vec_items s.tags) (vec_items s.packets) k r)
  unfolding held_of held
  held-alone k r =
      let at : ℕ = slot (length (ins s)) r (place k (ins s)) in
      let also : Bool = nat_le s.round r && option_eq nat_eq (get_or (vec_items s.tags) at None) (Some r) in
      elim (cases_Bool (is_in k (ins s))) [
        | inl t ↦
            let within : at < 3 * length (ins s) = digits_lt (mod-lt r (omega arith)) (at_in k (ins s) t).0 in
            let there : at < length (vec_items s.packets) = omega (arith, packets-long) in
            ap (λ p. cond (is_in k (ins s) && also) (p ∷ []) []) (ap (λ w. part w at (vec_items s.packets)) one ∙ part-one at (vec_items s.packets) there) ∙ cond-alone (is_in k (ins s) && also) (get_or (vec_items s.packets) at [])
        | inr f ↦ rw f refl
      ]

  state-alone : state_of s ≡ map_state alone (state s)
  state-alone = ap (λ g. record { round = s.round; kept = g }) (fun_ext (λ k. fun_ext (held-alone k)))

  over-alone : (r : ℕ) → over_in_of s r ≡ map_over alone (over_in s r)
  over-alone r =
      let n : ℕ = length (ins s) in
      ap (λ c. record { number = r; came = c })
      (ap (λ w. map (λ t. part w t (vec_items s.packets)) (range_with_len (r % 3 * n) n)) one
      ∙ parts-one n (r % 3 * n) (vec_items s.packets) (omega (arith, packets-long, part_end (r % 3) 3 n (mod-lt r (omega arith)))))

map-of : {A B C : Type 0} (g : B → C) (f : A → B) (xs : List A) → map (λ x. g (f x)) xs ≡ map g (map f xs)
map-of g f [] = refl
map-of g f (x ∷ xs) = ap (λ ys. g (f x) ∷ ys) (map-of g f xs)

ended-alone : (s : Slots) → s.width ≡ 1 → (from count : ℕ) → ended_in_of s from count ≡ map_ended alone (ended_in s from count)
ended-alone s one from count =
    ap₂ (λ t os. record { state = t; rounds = os }) (state-alone s one)
    (ap (λ f. map f (range_with_len from count)) (fun_ext (over-alone s one)) ∙ map-of (map_over alone) (over_in s) (range_with_len from count))

-- a list of one is taken apart again
abbrev single : List Packet → Packet
single [] = []
single (p ∷ ps) = p

map-single : (ps : List Packet) → map single (map alone ps) ≡ ps
map-single [] = refl
map-single (p ∷ ps) = ap (λ l. p ∷ l) (map-single ps)

overs-single : (os : List (Over Packet)) → map (map_over single) (map (map_over alone) os) ≡ os
overs-single [] = refl
overs-single (o ∷ os) = ap₂ (λ c l. record { number = o.number; came = c } ∷ l) (map-single o.came) (overs-single os)

state-single : (t : State Packet) → map_state single (map_state alone t) ≡ t
state-single t = ap (λ g. record { round = t.round; kept = g }) (fun_ext (λ k. fun_ext (λ r. map-single (t.kept k r))))

ended-single : (e : Ended Packet) → map_ended single (map_ended alone e) ≡ e
ended-single e = ap₂ (λ t os. record { state = t; rounds = os }) (state-single e.state) (overs-single e.rounds)

module _ (before after : Slots) (one : before.width ≡ 1) (same : after.width ≡ before.width) where
  follows : (r : Result ℕ Refusal) (a : Answer Packet) → Tells before after r (map_answer alone a) → Told before after r a
  follows (Err f) (refused n) h = let q : n ≡ number f = cc h.0 in (ap refused q, h.1)
  follows (Err f) (took t) h = let z : ◌≡◌ {A = ℕ} 0 1 = cc h.0 in absurd (omega arith)
  follows (Ok count) (refused n) h = let z : ◌≡◌ {A = ℕ} 0 1 = cc h.2 in absurd (omega arith)
  follows (Ok count) (took t) h =
      let q : map_ended alone t ≡ ended_in_of after before.round count = cc h.2 in
      (h.0, h.1, ap took (sym (ended-single t) ∙ ap (map_ended single) (q ∙ ended-alone after (same ∙ one) before.round count) ∙ ended-single (ended_in after before.round count)))

  pub kept-one : (link round : ℕ) (packet : Packet) (r : Result ℕ Refusal)
      → Tells before after r (receive (ins before) (state_of before) (parcel link round (alone packet)))
      → Told before after r (receive (ins before) (state before) (packet_in link round packet))
  kept-one link round packet r h =
      follows r _
      (subst (Tells before after r) (ap (λ t. receive (ins before) t (parcel link round (alone packet))) (state-alone before one) ∙ alone-holds.received (ins before) (state before) (packet_in link round packet)) h)

joined-alone : (ps : List Packet) → flat_map (λ m. m) (map alone ps) ≡ ps
joined-alone [] = refl
joined-alone (p ∷ ps) = ap (λ l. p ∷ l) (joined-alone ps)

mixed-is : (cs : List ℕ) (bs : List Packet) → mixed_of byte_field 1024 cs bs ≡ mixed cs bs
mixed-is cs bs =
    sym (mixed-all cs bs (mixed cs bs) (length-map-range_with_len (mix_at cs bs) 0 1024) (λ k l. get_or-map-range_with_len (mix_at cs bs) 0 1024 k k 0 l (omega arith)))

came-alone : (d : Node) → d.source ≡ false → (r : ℕ) → flat_map (λ m. m) (over_in_of d.slots r).came ≡ (over_in d.slots r).came
came-alone d o r = ap (λ (v : Over (List Packet)). flat_map (λ m. m) v.came) (over-alone d.slots (d.single o) r) ∙ joined-alone (over_in d.slots r).came

pub one-by-one : OneByOne
one-by-one =
    record {
      begins = λ s one h. sym (state-single (state s)) ∙ ap (map_state single) (sym (state-alone s one) ∙ h);
      keeps = λ before after one same link round packet long r h.
          kept-one before after one same link round packet r
          (subst (λ p. Tells before after r (receive (ins before) (state_of before) (parcel link round p))) (cut-one before.width packet one long) h);
      takes = λ before after o like link round packet r h.
          kept-one before.slots after.slots (before.single o) like.width link round packet r
          (subst (Tells before.slots after.slots r) (cond-false before.source (refused 6) _ o) h);
      sends = λ d o k r. ap (scheme_of d k) (came-alone d o r) ∙ mixed-is (coefficients_of k (vec_items d.outs)) (over_in d.slots r).came;
      reads = λ d o r.
          ap (reading_of d) (came-alone d o r)
          ∙ ap (λ f. map f (map vec_items (vec_items d.rows))) (fun_ext (λ q. mixed-is q (map (λ i. get_or (over_in d.slots r).came i []) (vec_items d.current))));
    }
