-- The whole network: before the first link the code's state stands for the definition's, and after the last one what the receivers are
-- left with is the definition's, since each current carrier leads to the receiver, which is not at the source, and so is a link.
use Rattle.std.proofs.Common.{◌≡◌, ℕ, suc, ◌<◌, ◌≤◌, List, [], ◌∷◌, map, length, get_or, vec_items, sym, refl, ap, ◌∙◌, subst, ap₂, arith}
use lib.ListN.{length-map}
use Rattle.std.proofs.lemmas.List.{take_all}
use Rattle.gf.proofs.Fields.{byte_field}
use Rattle.linear.specs.Vectors.{row}
use Rattle.linear.specs.Reading.{transpose}
use Rattle.linear.proofs.Lists.{get_d_map}
use Rattle.network.specs.Network.{Network, Sound}
use Rattle.coding_theory.specs.Paths.{Aim}
use Rattle.coding_theory.specs.Coding.{Carrier, message, link, Receiver, current_at, start, along, code}
use Rattle.coding_theory.specs.Promise.{Ends, Served as Promised}
use Rattle.coding_theory.proofs.Served.{all-at-once}
use Rattle.coding.specs.Aims.{aims_on}
use Rattle.coding.specs.Served.{Served}
use Rattle.coding.specs.State.{up_to, Stands, State}
use Rattle.std.specs.List.{filter_map}
use Rattle.coding_steps.specs.Carriers.{carrier, number_of}
use Rattle.coding_steps.specs.Rows.{bytes_of}
use Rattle.coding_steps.specs.declared.carrier.Carrier.{Carrier as Named}
use Rattle.coding_steps.specs.declared.carrier.Carrier.TheVariants.{Message, Link as Over}
use Rattle.coding_steps.proofs.AtHand.{table_same}
use Rattle.coding.specs.Decoding.{Leaves}
use Rattle.coding.specs.Meaning.{Away, Decodes}
use Rattle.wire.specs.declared.plan.Decoder.{Decoder}
use Rattle.coding.specs.declared.receiver.Receiver.{Receiver as Pending}

pub some_of : {A : Type 0} (xs : List A) (i : ℕ) → i < length xs → A
some_of [] i l = absurd (omega arith)
some_of (x ∷ xs) i l = x

pub state-start : (z : Network) (h : ℕ) (as' : List Aim) (ps : List Pending) → length ps ≡ length as'
    → ((i : ℕ) (p : Pending) (a : Aim) → i < length as' → Stands h (get_or ps i p) (start h (get_or as' i a))) → State z h as' 0 [] ps
unfolding along
state-start z h as' ps lp begun = record {
  many = refl;
  counted = λ k l. absurd (omega arith);
  vectors-same = λ k x l lx. absurd (omega arith);
  all = lp;
  receivers = λ i p r l. subst (Stands h (get_or ps i p)) (sym (get_d_map (start h) as' i r.aim r l)) (begun i p r.aim l);
}

-- receivers that stand at the start for those of some aims have these aims
pub aims-started : (h : ℕ) (as' : List Aim) (ps : List Pending) → length ps ≡ length as'
    → ((i : ℕ) (p : Pending) (a : Aim) → i < length as' → Stands h (get_or ps i p) (start h (get_or as' i a))) → aims_on ps ≡ as'
aims-started h [] [] long begun = refl
aims-started h [] (p ∷ ps) long begun = absurd (omega arith)
aims-started h (a ∷ as') [] long begun = absurd (omega arith)
aims-started h (a ∷ as') (p ∷ ps) long begun = ap₂ (λ x xs. x ∷ xs) (begun 0 p a (omega arith)).aim (aims-started h as' ps (omega arith) (λ i q b l. begun (suc i) q b (omega arith)))

-- where all of the packets are on links, their numbers say which
links-numbered : (cs : List Named) → ((j : ℕ) → j < length cs → (k : ℕ) × (get_or (map carrier cs) j (message 0) ≡ link k)) → map link (filter_map number_of cs) ≡ map carrier cs
links-numbered [] all = refl
links-numbered (Message i ∷ cs) all = absurd (let e = (all 0 (omega arith)).1 in cc)
links-numbered (Over k ∷ cs) all = ap (λ q. link k ∷ q) (links-numbered cs (λ j l. all (suc j) (omega arith)))

module _ (z : Network) (g : Sound z) (h : ℕ) (as' : List Aim) (s : Served z h as') (away : Away as') (e : ℕ) (ln : length z.links ≤ e) where
  pub whole : up_to z h as' e ≡ code byte_field z h as'
  whole = ap (λ ls. along byte_field h [] ls (record { coefficients = []; vectors = []; receivers = map (start h) as' })) (take_all e z.links ln)

  served : Promised byte_field z h as' (code byte_field z h as')
  served = all-at-once byte_field z g h as' (omega (arith, s.few)) s.given

  pub all_there : length (code byte_field z h as').receivers ≡ length as'
  all_there = sym (length-map (code byte_field z h as').receivers (λ q. q.aim)) ∙ ap length served.all

  module _ (i : ℕ) (p : Pending) (d : Decoder) (r₀ : Receiver) (li : i < length (code byte_field z h as').receivers)
      (stands : Stands h p (get_or (up_to z h as' e).receivers i r₀)) (leaves : Leaves p d) where
    abbrev r : Receiver
    r = get_or (code byte_field z h as').receivers i r₀

    st : Stands h p r
    st = subst (λ c. Stands h p (get_or c.receivers i r₀)) whole stands

    -- the receiver is not at the source
    far : r.aim.node ≡ 0 → ⊥
    far =
        let l : i < length as' = omega (arith, all_there) in
        let is : r.aim ≡ get_or as' i r.aim = sym (get_d_map (λ q. q.aim) (code byte_field z h as').receivers i r₀ r.aim li) ∙ ap (λ q. get_or q i r.aim) served.all in
        subst (λ a. a.node ≡ 0 → ⊥) (sym is) (away i r.aim l)

    ends : (j : ℕ) → j < h → Ends z.links h (length z.links) (current_at r j) r.aim.node
    ends = (served.readers i r₀ li).lead

    on_link : (c : Carrier) → Ends z.links h (length z.links) c r.aim.node → (k : ℕ) × (c ≡ link k)
    on_link (message j) x = absurd (far x.1)
    on_link (link k) x = (k, refl)

    abbrev cs : List Named
    cs = vec_items p.current

    rate : length cs ≡ h
    rate = omega (arith, p.level, st.many)

    numbered : map link (vec_items d.links) ≡ r.current
    numbered =
        ap (map link) leaves.links
        ∙ links-numbered cs (λ j l. subst (λ q. (k : ℕ) × (get_or q j (message 0) ≡ link k)) (sym st.current) (on_link (current_at r j) (ends j (omega (arith, rate)))))
        ∙ st.current

    many : length (vec_items d.links) ≡ h
    many = omega (arith, ap length numbered, length-map (vec_items d.links) link, ap length st.current, length-map cs carrier, rate)

    pub decodes : Decodes h d r
    decodes = record {
      many = many;
      links = λ j lj. ap (λ q. get_or q j (message 0)) (sym numbered) ∙ get_d_map link (vec_items d.links) j 0 (message 0) (omega (arith, many));
      decoding = leaves.rows ∙ ap (λ n. transpose n (row (bytes_of (vec_items p.rows)))) st.many ∙ table_same h _ _ (λ k lk. table_same h _ _ (λ j lj. st.rows j k lj lk));
    }
