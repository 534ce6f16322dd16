-- Records: heads of fixed length, behind which the packet or the message lies.
use Rattle.std.proofs.Common.{◌≡◌, ℕ, zero, suc, ◌+◌, ◌*◌, ◌/◌, ◌%◌, ◌<◌, Bool, true, false, cond, ◌&&◌, eqb, ltb, List, [], ◌∷◌, ◌++◌, length, get_or, take, drop, set, Result, w16, w32, sym, refl, ap, ◌∙◌, subst, ap₂, inl, inr, append-nil, suc-mul, zero-mul, arith, length-append, drop-drop}
use Rattle.std.specs.List.{flat_map, AllByRecursion}
use Rattle.std.specs.Simd.{first_chunks}
use Rattle.std.specs.Int.{from_be_bytes, to_be_bytes}
use borrow.Rule.Slice.PartMut.{put_mid}
use Rattle.std.proofs.lemmas.List.{drop_all, take_all, length-drop, take_at, drop_at}
use Rattle.std.proofs.lemmas.List.FromFn.{fill_by_all}
use Rattle.std.proofs.lemmas.Bool.{cases_Bool, cases_eq, eq-eqb, ne_eqb, eqb-true, lt-ltb, ltb-true, and_from, and_parts, and_left, cond-true, cond-false}
use Rattle.octets.specs.Words.{word_at}
use Rattle.network_cuts.specs.Scheme.{Packet}
use Rattle.relay_theory.specs.Relay.{State, Answer, refused, receive}
use Rattle.relay_memory.specs.Memory.{part, cut}
use Rattle.relay_memory.specs.Values.{parcel, Tells}
use Rattle.relay_node.specs.Steps.{take_packet, take_message}
use Rattle.relay_node.specs.Records.{long_at, packet_record, message_record, take_record, ReadBack}
use Rattle.relay_memory.specs.declared.refusal.Refusal.{Refusal}
use Rattle.relay_memory.specs.declared.slots.Slots.{Slots}

pub long-read : (bs : List ℕ) (at : ℕ) → from_be_bytes w32 (get_or bs at 0 ∷ get_or bs (at + 1) 0 ∷ get_or bs (at + 2) 0 ∷ get_or bs (at + 3) 0 ∷ []) ≡ long_at bs at
unfolding word_at
long-read bs at = let e : at + 2 + 1 ≡ at + 3 = omega arith in rw e (omega arith)

pub word_read : (bs : List ℕ) (i : ℕ) → 256 * get_or bs i 0 + get_or bs (i + 1) 0 ≡ word_at bs i
unfolding word_at
word_read bs i = refl

-- the head of a packet's record, and that of a message's
module _ (link round : ℕ) (rest : List ℕ) where
  packet-link : word_at (packet_record link round rest) 1 ≡ link
  unfolding word_at
  packet-link = omega arith

  packet-round : long_at (packet_record link round rest) 3 ≡ round
  unfolding word_at
  packet-round = omega arith

message-round : (round : ℕ) (ps : List Packet) → long_at (message_record round ps) 1 ≡ round
unfolding word_at
message-round round ps = omega arith

length-joined : {A : Type 0} (w : ℕ) (xss : List (List A)) → AllByRecursion (λ xs. length xs ≡ w) xss → length (flat_map (λ q. q) xss) ≡ length xss * w
length-joined w [] h = sym (zero-mul w)
length-joined w (xs ∷ xss) h = length-append xs (flat_map (λ q. q) xss) ∙ omega (arith, h.0, length-joined w xss h.1, suc-mul (length xss) w)

part-joined : {A : Type 0} (w : ℕ) (xss : List (List A)) (j : ℕ) → AllByRecursion (λ xs. length xs ≡ w) xss → j < length xss → part w j (flat_map (λ q. q) xss) ≡ get_or xss j []
part-joined w [] j h l = absurd (omega arith)
part-joined w (xs ∷ xss) zero h l = rw (zero-mul w) (take_at xs (flat_map (λ q. q) xss) w h.0)
part-joined w (xs ∷ xss) (suc j) h l =
    let e : suc j * w ≡ w + j * w = omega (arith, suc-mul j w) in
    ap (λ n. take w (drop n (xs ++ flat_map (λ q. q) xss))) e
    ∙ ap (take w) (sym (drop-drop (j * w) w (xs ++ flat_map (λ q. q) xss)) ∙ ap (drop (j * w)) (drop_at xs (flat_map (λ q. q) xss) w h.0))
    ∙ part-joined w xss j h.1 (omega arith)

-- packets that are joined are cut again
cut-joined : (ps : List Packet) → AllByRecursion (λ p. length p ≡ 1024) ps → cut (length ps) (flat_map (λ p. p) ps) ≡ ps
cut-joined ps all = sym (fill_by_all (λ j. part 1024 j (flat_map (λ p. p) ps)) ps (length ps) [] refl (λ j l. sym (part-joined 1024 ps j all l)))

module _ (source : Bool) (h : ℕ) (ins : List ℕ) (s : State (List Packet)) where
  packets-back : (link round : ℕ) (packet : Packet) → length packet ≡ 1024 → take_record source h ins s (packet_record link round packet) ≡ take_packet source ins s link round packet
  packets-back link round packet e =
      let long : length (packet_record link round packet) ≡ 1031 = omega arith in
      rw (eq-eqb (length (packet_record link round packet)) 1031 long) (ap₂ (λ k r. take_packet source ins s k r packet) (packet-link link round packet) (packet-round link round packet))

  no-message : (b : Bool) (x y z : Answer (List Packet)) → cond (b && false) x z ≡ cond (b && false) y z
  no-message true x y z = refl
  no-message false x y z = refl

  message-same : (round : ℕ) (ps : List Packet) → AllByRecursion (λ p. length p ≡ 1024) ps
      → take_message source h ins s round (flat_map (λ p. p) ps) ≡ cond (source && eqb (length ps) h) (receive ins s (parcel 0 round ps)) (refused 1)
  message-same round ps all =
      let long : length (flat_map (λ p. p) ps) ≡ length ps * 1024 = length-joined 1024 ps all in
      elim (cases_eq (length ps) h) [
        | inl e ↦ subst (λ n. take_message source n ins s round (flat_map (λ p. p) ps) ≡ cond (source && eqb (length ps) n) (receive ins s (parcel 0 round ps)) (refused 1)) e
            (ap₂ (λ b p. cond (source && b) (receive ins s (parcel 0 round p)) (refused 1)) (eq-eqb _ _ long ∙ sym (eq-eqb (length ps) (length ps) refl)) (cut-joined ps all))
        | inr o ↦ rw (ne_eqb (length (flat_map (λ p. p) ps)) (h * 1024) (λ q. o (omega arith)), ne_eqb (length ps) h o) (no-message source _ _ _)
      ]

  messages-back : (round : ℕ) (ps : List Packet) → AllByRecursion (λ p. length p ≡ 1024) ps
      → take_record source h ins s (message_record round ps) ≡ cond (source && eqb (length ps) h) (receive ins s (parcel 0 round ps)) (refused 1)
  messages-back round ps all =
      let some : ltb 4 (length (message_record round ps)) ≡ true = lt-ltb 4 (length (message_record round ps)) (omega arith) in
      rw some (ap (λ r. take_message source h ins s r (flat_map (λ p. p) ps)) (message-round round ps) ∙ message-same round ps all)

  -- the ways of `take_record`
  module _ (bs : List ℕ) where
    pub takes-packet : (link round : ℕ) (packet : Packet) → length bs ≡ 1031 → get_or bs 0 0 ≡ 3 → link ≡ word_at bs 1 → round ≡ long_at bs 3 → packet ≡ drop 7 bs
        → take_packet source ins s link round packet ≡ take_record source h ins s bs
    takes-packet link round packet l k a b p =
        ap₂ (λ x y. take_packet source ins s x y packet) a b ∙ ap (take_packet source ins s (word_at bs 1) (long_at bs 3)) p
        ∙ sym (cond-true _ _ _ (and_from _ _ (eq-eqb (get_or bs 0 0) 3 k) (eq-eqb (length bs) 1031 l)))

    pub takes-message : (round : ℕ) (message : List ℕ) → 4 < length bs → get_or bs 0 0 ≡ 4 → round ≡ long_at bs 1 → message ≡ drop 5 bs → take_message source h ins s round message ≡ take_record source h ins s bs
    takes-message round message l k a m =
        ap₂ (take_message source h ins s) a m
        ∙ sym (cond-false _ _ _ (and_left _ _ (ne_eqb (get_or bs 0 0) 3 (λ q. omega arith))) ∙ cond-true _ _ _ (and_from _ _ (eq-eqb (get_or bs 0 0) 4 k) (lt-ltb 4 (length bs) l)))

    pub takes_none : (length bs ≡ 1031 → get_or bs 0 0 ≡ 3 → ⊥) → (4 < length bs → get_or bs 0 0 ≡ 4 → ⊥) → refused 1 ≡ take_record source h ins s bs
    takes_none o q =
        sym (cond-false _ _ _ (not-both _ _ (λ a b. o (eqb-true (length bs) 1031 b) (eqb-true (get_or bs 0 0) 3 a)))
        ∙ cond-false _ _ _ (not-both _ _ (λ a b. q (ltb-true 4 (length bs) b) (eqb-true (get_or bs 0 0) 4 a))))
      where
        not-both : (x y : Bool) → (x ≡ true → y ≡ true → ⊥) → (x && y) ≡ false
        not-both x y n = elim (cases_Bool (x && y)) [ inl t ↦ (let p = and_parts x y t in absurd (n p.0 p.1)) | inr t ↦ t ]

pub read_back : ReadBack
read_back = record { packets = packets-back; messages = messages-back }

-- the packet behind the head, as the code takes it
pub packet-behind : (bs ys : List ℕ) (ps : List Packet) → length bs ≡ 1031 → ys ≡ drop 7 bs → ps ≡ first_chunks 1024 (length ys / 1024) ys → get_or ps 0 [] ≡ drop 7 bs
packet-behind bs ys ps l e f =
    let long : length ys ≡ 1024 = omega (arith, ap length e, length-drop 7 bs) in
    let one : length ys / 1024 ≡ 1 = omega arith in
    ap (λ qs. get_or qs 0 []) (f ∙ ap (λ m. first_chunks 1024 m ys) one) ∙ take_all 1024 ys (omega arith) ∙ e

-- what is written: the bytes of numbers, and a packet behind a head of seven bytes
pub word-written : (n : ℕ) → n < 65536 → to_be_bytes w16 n ≡ n / 256 ∷ n % 256 ∷ []
word-written n l = ap₂ (λ a b. a ∷ b ∷ []) (omega arith) (omega arith)

pub long-written : (n : ℕ) → n < 4294967296 → to_be_bytes w32 n ≡ n / 65536 / 256 ∷ n / 65536 % 256 ∷ n % 65536 / 256 ∷ n % 65536 % 256 ∷ []
long-written n l = ap₂ (λ a b. a ++ b) (ap₂ (λ a b. a ∷ b ∷ []) (omega arith) (omega arith)) (ap₂ (λ a b. a ∷ b ∷ []) (omega arith) (omega arith))

pub record-written : (xs : List ℕ) (k a b c d e f : ℕ) (packet : List ℕ) → length xs ≡ 1031 → put_mid 7 1024 (put_mid 3 4 (put_mid 1 2 (set xs 0 k) (a ∷ b ∷ [])) (c ∷ d ∷ e ∷ f ∷ [])) packet ≡ k ∷ a ∷ b ∷ c ∷ d ∷ e ∷ f ∷ packet
record-written [] k a b c d e f packet l = absurd (omega arith)
record-written (x ∷ []) k a b c d e f packet l = absurd (omega arith)
record-written (x ∷ x1 ∷ []) k a b c d e f packet l = absurd (omega arith)
record-written (x ∷ x1 ∷ x2 ∷ []) k a b c d e f packet l = absurd (omega arith)
record-written (x ∷ x1 ∷ x2 ∷ x3 ∷ []) k a b c d e f packet l = absurd (omega arith)
record-written (x ∷ x1 ∷ x2 ∷ x3 ∷ x4 ∷ []) k a b c d e f packet l = absurd (omega arith)
record-written (x ∷ x1 ∷ x2 ∷ x3 ∷ x4 ∷ x5 ∷ []) k a b c d e f packet l = absurd (omega arith)
record-written (x ∷ x1 ∷ x2 ∷ x3 ∷ x4 ∷ x5 ∷ x6 ∷ xs) k a b c d e f packet l = ap (λ l. k ∷ a ∷ b ∷ c ∷ d ∷ e ∷ f ∷ l) (ap (λ l. packet ++ l) (drop_all 1024 xs (omega arith)) ∙ append-nil packet)

pub told : (before after : Slots) (o : Result ℕ Refusal) (a b : Answer (List Packet)) → a ≡ b → Tells before after o a → Tells before after o b
told before after o a b e h = subst (Tells before after o) e h
