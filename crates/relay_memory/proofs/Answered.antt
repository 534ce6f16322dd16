-- Each way of `take` gives what is received by the definition.
use Rattle.std.proofs.Common.{◌≡◌, ℕ, ◌+◌, ◌<◌, ◌≤◌, true, false, ◌||◌, ltb, List, [], length, get_or, Some, None, vec_items, vec_len, sym, refl, ap, ◌∙◌, ap₂, arith}
use Rattle.std.proofs.lemmas.Bool.{lt-ltb, le-ltb, or_left, or_right}
use Rattle.network_cuts.specs.Scheme.{Packet}
use Rattle.relay_theory.specs.Relay.{is_in, any, refused, took, keep, ends, receive}
use Rattle.relay_theory.proofs.Receives.{accepts}
use Rattle.delivery_theory.specs.Work.{place}
use Rattle.relay_memory.specs.Memory.{slot, held}
use Rattle.relay_memory.specs.Values.{parcel, state, ended_in}
use Rattle.relay_memory.specs.declared.slots.Slots.{Slots}
use Rattle.relay_memory.proofs.Memory.{in-at, place_at, held_one, held_none}
use Rattle.relay_memory.proofs.Steps.{ins, links, rises}

-- the links that come in, as the code hands them on
pub at-link : (s : Slots) (ks : List ℕ) → ks ≡ ins s → (link i : ℕ) → (i < length ks) × (get_or ks i 0 ≡ link) × (i ≡ place link ks) → (i < vec_len s.ins) × (get_or (ins s) i 0 ≡ link)
at-link s ks e link i h = (omega (arith, h.0, ap length e, links s), ap (λ l. get_or l i 0) (sym e) ∙ h.1)

module _ (s : Slots) (link round : ℕ) (packets : List Packet) where
  pub foreign : is_in link (ins s) ≡ false → receive (ins s) (state s) (parcel link round packets) ≡ refused 6
  unfolding receive
  foreign h = rw h

  late-for : is_in link (ins s) ≡ true → (ltb round s.round || any ((state s).kept link round)) ≡ true → receive (ins s) (state s) (parcel link round packets) ≡ refused 7
  unfolding receive
  late-for h l = rw (h, l)

  early-for : is_in link (ins s) ≡ true → (ltb round s.round || any ((state s).kept link round)) ≡ false → s.round + 2 < round → receive (ins s) (state s) (parcel link round packets) ≡ refused 8
  unfolding receive
  early-for h o l = rw (h, o, lt-ltb (s.round + 2) round l)

  -- the link stands at place i
  module _ (i : ℕ) (l : i < vec_len s.ins) (there : get_or (ins s) i 0 ≡ link) where
    here : i < length (ins s)
    here = omega (arith, links s)

    known : is_in link (ins s) ≡ true
    known = in-at link (ins s) i here there

    standing : place link (ins s) ≡ i
    standing = place_at (ins s) (rises s) link i here there

    pub over : round < s.round → receive (ins s) (state s) (parcel link round packets) ≡ refused 7
    over h = late-for known (or_left _ _ (lt-ltb round s.round h))

    pub early : s.round + 2 < round → receive (ins s) (state s) (parcel link round packets) ≡ refused 8
    unfolding any
    early h =
        let none : held (ins s) s.width s.round (vec_items s.tags) (vec_items s.packets) link round ≡ [] =
        held_none (ins s) s.width s.round (vec_items s.tags) (vec_items s.packets) link round (λ _ _ e. omega (arith, s.recent (slot (length (ins s)) round (place link (ins s))) round e)) in
        early-for known (rw (le-ltb round s.round (omega arith), none) refl) h

    pub twice : s.round ≤ round → get_or (vec_items s.tags) (slot (vec_len s.ins) round i) None ≡ Some round → receive (ins s) (state s) (parcel link round packets) ≡ refused 7
    unfolding any
    twice h e =
        let one = held_one (ins s) s.width s.round (vec_items s.tags) (vec_items s.packets) link round known h (rw standing (rw (links s) at e)) in
        late-for known (or_right _ _ (ap any one))

    fits : s.round ≤ round → round ≤ s.round + 2 → (get_or (vec_items s.tags) (slot (vec_len s.ins) round i) None ≡ Some round → ⊥)
        → receive (ins s) (state s) (parcel link round packets) ≡ took (ends 3 (ins s) (keep (parcel link round packets) (state s)))
    fits h soon free =
        accepts (ins s) (state s) (parcel link round packets) (record {
          comes = known;
          open' = h;
          free = held_none (ins s) s.width s.round (vec_items s.tags) (vec_items s.packets) link round (λ _ _ e. free (rw (links s) (rw standing at e)));
          soon = soon;
        })

    pub taken : s.round ≤ round → round ≤ s.round + 2 → (get_or (vec_items s.tags) (slot (vec_len s.ins) round i) None ≡ Some round → ⊥)
        → (kept after : Slots) (count : ℕ) → state kept ≡ keep (parcel (get_or (ins s) i 0) round packets) (state s) → kept.ins ≡ s.ins → kept.round ≡ s.round
        → ends 3 (ins kept) (state kept) ≡ ended_in after kept.round count
        → receive (ins s) (state s) (parcel link round packets) ≡ took (ended_in after s.round count)
    taken h soon free kept after count e a b d =
        fits h soon free
        ∙ ap took (ap₂ (λ v t. ends 3 (vec_items v) t) (sym a) (ap (λ l. keep (parcel l round packets) (state s)) (sym there) ∙ sym e) ∙ d ∙ ap (λ r. ended_in after r count) b)
