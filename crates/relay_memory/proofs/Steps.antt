-- What the memory lemmas say of the program's values.
use Rattle.std.proofs.Common.{◌≡◌, ℕ, zero, suc, ◌+◌, ◌-◌, ◌*◌, ◌%◌, ◌^◌, ◌<◌, ◌≤◌, Bool, true, false, eqb, List, [], ◌∷◌, length, get_or, set, take, drop, replicate, Some, None, Option, vec_items, vec_len, sym, refl, ap, ◌∙◌, inl, inr, mod-lt, arith}
use mathlib.Core.Path.{fun_ext}
use lib.Arith.{digits_lt}
use Rattle.std.specs.List.{AllWithin, HoldsAt}
use Rattle.std.specs.Bool.{MatchBool}
use Rattle.std.specs.Option.{option_eq}
use borrow.Rule.Slice.PartMut.{put_mid}
use Rattle.std.specs.Simd.{first_chunks}
use Rattle.std.proofs.lemmas.List.{get_or_read, get_or-take, get_or-drop, length-take-le, length-drop}
use Rattle.std.proofs.lemmas.List.FromFn.{length-map-range_with_len}
use Rattle.std.proofs.lemmas.Bool.{both_ways, cases_Bool}
use Rattle.network.specs.Network.{Rising}
use Rattle.network_cuts.specs.Scheme.{Packet}
use Rattle.relay_theory.specs.Relay.{State, fresh, any, is_over, next, keep, over_now}
use Rattle.delivery_theory.specs.Work.{place}
use Rattle.relay_memory.specs.Memory.{part, cut, slot, held}
use Rattle.relay_memory.specs.Values.{parcel, state, over_in}
use Rattle.relay_memory.specs.declared.slots.Slots.{Slots}
use Rattle.relay_memory.proofs.Parts.{part_end, cut-chunks, put-here, put-apart}
use Rattle.relay_memory.proofs.Memory.{is-held, held_none, held_next, over-from, over-not, over-tags, came-row, held-keep}

-- memory in which no packet has come in
get_d-untagged : (n j : ℕ) → ◌≡◌ {A = Option ℕ} (get_or (replicate n None) j None) None
get_d-untagged zero j = refl
get_d-untagged (suc n) zero = refl
get_d-untagged (suc n) (suc j) = get_d-untagged n j

pub untagged : (n : ℕ) (tags : List (Option ℕ)) → tags ≡ replicate n None → (j r : ℕ) → get_or tags j None ≡ Some r → ⊥
untagged n tags e j r h = let q : ◌≡◌ {A = Option ℕ} None (Some r) = sym (get_d-untagged n j) ∙ sym (ap (λ l. get_or l j None) e) ∙ h in cc

pub held-fresh : (ins : List ℕ) (width : ℕ) (tags : List (Option ℕ)) (packets : List Packet) → ((j r : ℕ) → get_or tags j None ≡ Some r → ⊥) → record { round = 0; kept = held ins width 0 tags packets } ≡ fresh
held-fresh ins width tags packets none =
    ap (λ g. record { round = 0; kept = g })
    (fun_ext (λ k. fun_ext (λ r. held_none ins width 0 tags packets k r (λ _ _ e. none (slot (length ins) r (place k ins)) r e))))

-- a bound of all tags is kept by a tag within it
pub set_below : (b x : ℕ) (tags : List (Option ℕ)) (i : ℕ) → x ≤ b → ((j r : ℕ) → get_or tags j None ≡ Some r → r ≤ b) → (j r : ℕ) → get_or (set tags i (Some x)) j None ≡ Some r → r ≤ b
set_below b x [] i l h j r e = h j r e
set_below b x (t ∷ tags) zero l h zero r e = let q : x ≡ r = cc in omega arith
set_below b x (t ∷ tags) zero l h (suc j) r e = h (suc j) r e
set_below b x (t ∷ tags) (suc i) l h zero r e = h 0 r e
set_below b x (t ∷ tags) (suc i) l h (suc j) r e = set_below b x tags i l (λ k. h (suc k)) j r e

some-link : (ks : List ℕ) (t : State (List Packet)) → is_over ks t ≡ true → 0 < length ks
unfolding is_over any
some-link [] t h = absurd (both_ways false refl h)
some-link (k ∷ ks) t h = omega arith

module _ (s : Slots) where
  abbrev pub ins : List ℕ
  ins = vec_items s.ins

  pub links : vec_len s.ins ≡ length ins
  links = omega (arith, s.ins.ok.0)

  pub rises : Rising (length ins) (λ i. get_or ins i 0)
  rises = rw (sym links) s.rising

  pub tags-level : length (vec_items s.tags) ≡ 3 * length ins
  tags-level = omega (arith, s.tags.ok.0, s.tagged, links)

  pub packets-level : length (vec_items s.packets) ≡ 3 * length ins * s.width
  packets-level = sym s.packets.ok.0 ∙ s.level ∙ ap (λ n. 3 * n * s.width) links

  pub next-state : record { round = s.round + 1; kept = held ins s.width (s.round + 1) (vec_items s.tags) (vec_items s.packets) } ≡ next (state s)
  next-state = ap (λ g. record { round = s.round + 1; kept = g }) (held_next ins s.width s.round (vec_items s.tags) (vec_items s.packets))

  pub over-state : is_over ins (state s) ≡ true → over_now ins (state s) ≡ over_in s s.round
  over-state h = ap (λ c. record { number = s.round; came = c }) (came-row ins rises s.width s.round (vec_items s.tags) (vec_items s.packets) h)

  -- a round that is over had packets, whose numbers have 32 bits
  pub next-counted : is_over ins (state s) ≡ true → s.round + 1 ≤ 2 ^ 32
  next-counted h = omega (arith, s.bounded (slot (length ins) s.round 0) s.round (over-tags ins rises s.width s.round (vec_items s.tags) (vec_items s.packets) h 0 (some-link ins (state s) h)))

  abbrev pub side : ℕ → List (Option ℕ)
  side n = take (s.round % 3 * n + n - s.round % 3 * n) (drop (s.round % 3 * n) (vec_items s.tags))

  -- n is the number of links that come in, as the code has it
  module _ (n : ℕ) (e : n ≡ vec_len s.ins) where
    all-links : n ≡ length ins
    all-links = e ∙ links

    pub slot-within : (r i : ℕ) → i < n → slot n r i < 3 * n
    slot-within r i l = digits_lt (mod-lt r (omega arith)) l

    pub tag_read : (r i : ℕ) (x : Option ℕ) → i < n → x ≡ get_or (vec_items s.tags) (slot n r i) x → x ≡ get_or (vec_items s.tags) (slot n r i) None
    tag_read r i x l d = get_or_read (vec_items s.tags) (slot n r i) x (omega (arith, slot-within r i l, tags-level, all-links)) d None

    pub tag_is : (r i : ℕ) (x : Option ℕ) → i < vec_len s.ins → x ≡ get_or (vec_items s.tags) (slot n r i) x → get_or (vec_items s.tags) (slot (vec_len s.ins) r i) None ≡ x
    tag_is r i x l d = ap (λ m. get_or (vec_items s.tags) (slot m r i) None) (sym e) ∙ sym (tag_read r i x (omega arith) d)

    pub tags-end : (r : ℕ) → r % 3 * n + n ≤ vec_len s.tags
    tags-end r = omega (arith, part_end (r % 3) 3 n (mod-lt r (omega arith)), s.tagged, ap (λ m. 3 * m) e)

    -- v is the round, as the code widens it
    pub tag-not : (r v i : ℕ) (x : Option ℕ) → v ≡ r → i < vec_len s.ins → x ≡ get_or (vec_items s.tags) (slot n r i) x → option_eq eqb x (Some v) ≡ false
        → get_or (vec_items s.tags) (slot (vec_len s.ins) r i) None ≡ Some r → ⊥
    tag-not r v i x w l d o h = both_ways _ o (is-held x v (sym (tag_is r i x l d) ∙ h ∙ ap Some (sym w)))

    side-long : length (side n) ≡ n
    side-long = length-take-le (s.round % 3 * n + n - s.round % 3 * n) (drop (s.round % 3 * n) (vec_items s.tags)) (simp length-drop (omega (arith, tags-end s.round, s.tags.ok.0))) ∙ omega arith

    -- the code looks at the tags of a round side by side
    round_tag : (i : ℕ) → i < n → get_or (side n) i None ≡ get_or (vec_items s.tags) (slot (length ins) s.round i) None
    round_tag i l =
        get_or-take (s.round % 3 * n + n - s.round % 3 * n) (drop (s.round % 3 * n) (vec_items s.tags)) i None (omega arith) ∙ get_or-drop (s.round % 3 * n) (vec_items s.tags) i None
        ∙ ap (λ m. get_or (vec_items s.tags) (slot m s.round i) None) all-links

    -- what the code learns of the tags of the round at work
    pub round-over : 0 < n → (b : Bool) → MatchBool b (AllWithin (λ t. t ≡ Some s.round) (side n) 0 (length (side n))) ((i : ℕ) × (i < length (side n)) × HoldsAt (λ t. t ≡ Some s.round → ⊥) (side n) i) → b ≡ is_over ins (state s)
    round-over some true h =
        sym (over-from ins rises s.width s.round (vec_items s.tags) (vec_items s.packets) (omega (arith, all-links))
        (λ i l. sym (round_tag i (omega (arith, all-links))) ∙ h i None (omega arith) (omega (arith, side-long, all-links))))
    round-over some false h =
        sym (over-not ins rises s.width s.round (vec_items s.tags) (vec_items s.packets) h.0 (omega (arith, h.1, side-long, all-links))
        (λ e. h.2 None (round_tag h.0 (omega (arith, h.1, side-long)) ∙ e)))

    pub round-empty : n ≤ 0 → is_over ins (state s) ≡ false
    round-empty z = elim (cases_Bool (is_over ins (state s))) [ inl t ↦ absurd (omega (arith, some-link ins (state s) t, all-links)) | inr t ↦ t ]

    pub packets-end : (j : ℕ) → j < 3 * n → j * s.width + s.width ≤ vec_len s.packets
    packets-end j l = rw (s.level, sym e) (part_end j (3 * n) s.width l)

    -- what came in is put into its slot; v is its round, as the code widens it, and k the number of its packets
    pub kept-state : (i round v k m : ℕ) (bytes : List ℕ) (whole old new : List Packet) → whole ≡ put_mid (slot n round i * s.width) k old new → old ≡ vec_items s.packets → new ≡ first_chunks 1024 m bytes → v ≡ round → i < vec_len s.ins → s.round ≤ round → round ≤ s.round + 2
        → (get_or (vec_items s.tags) (slot (vec_len s.ins) round i) None ≡ Some round → ⊥)
        → k ≡ s.width → m ≡ s.width
        → record { round = s.round; kept = held ins s.width s.round (set (vec_items s.tags) (slot n round i) (Some v)) whole }
        ≡ keep (parcel (get_or ins i 0) round (cut s.width bytes)) (state s)
    kept-state i round v k m bytes whole old new put is cuts w l late soon free few all =
        rw (put, w, is, cuts, cut-chunks s.width m bytes all)
        (ap (λ m. record { round = s.round; kept = held ins s.width s.round (set (vec_items s.tags) (slot m round i) (Some round)) packets }) all-links
        ∙ ap (λ g. record { round = s.round; kept = g })
        (held-keep ins rises s.width s.round (vec_items s.tags) (vec_items s.packets) packets (parcel (get_or ins i 0) round (cut s.width bytes)) i (omega (arith, links)) refl late soon (rw links at free) s.recent tags-level
        (ap (λ m. part s.width (slot m round i) packets) (sym all-links) ∙ put-here here s.width k (vec_items s.packets) (cut s.width bytes) few long room)
        (λ t o. put-apart here s.width k (vec_items s.packets) (cut s.width bytes) few long room t (λ q. o (q ∙ ap (λ m. slot m round i) all-links)))))
      where
        here : ℕ
        here = slot n round i

        packets : List Packet
        packets = put_mid (slot n round i * s.width) k (vec_items s.packets) (cut s.width bytes)

        long : length (cut s.width bytes) ≡ s.width
        long = length-map-range_with_len (λ j. part 1024 j bytes) 0 s.width

        room : slot n round i * s.width + s.width ≤ length (vec_items s.packets)
        room = omega (arith, packets-end (slot n round i) (slot-within round i (omega (arith, e))), s.packets.ok.0)
