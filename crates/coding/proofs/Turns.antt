-- One turn of the code's loop over the receivers: from what the code's state stands for, what it calls `serve` with is what the receiver
-- wants, `serve` can be called, and what it leaves is what the definition has after one more receiver.
use Rattle.std.proofs.Common.{◌≡◌, ℕ, ◌+◌, ◌<◌, ◌≤◌, true, ltb, List, [], ◌∷◌, ◌++◌, map, length, get_or, vec_items, take, replicate, sym, refl, ap, ◌∙◌, subst, ap₂, arith}
use lib.ListN.{get_or-replicate}
use Rattle.std.proofs.lemmas.List.{take_all}
use Rattle.std.proofs.lemmas.Bool.{lt-ltb, le-ltb}
use Rattle.gf.proofs.Fields.{byte_field}
use Rattle.gf_bytes.specs.declared.vector.Vector.{Vector}
use Rattle.linear.specs.Vectors.{at, row, units, mixed, mix, dot}
use Rattle.linear.specs.Lowest.{lowest}
use Rattle.linear.proofs.Lists.{get_d_map, at-mixed}
use Rattle.network.specs.Network.{Network, link_at, Sound}
use Rattle.coding_theory.specs.Paths.{Aim}
use Rattle.coding_theory.specs.Coding.{place, Carrier, message, link, on_carrier, at_hand, trial, Receiver, current_at, start, Want, wants, choose, chosen}
use Rattle.coding_theory.proofs.Loop.{want}
use Rattle.coding_steps.specs.Rows.{bytes_of}
use Rattle.coding_steps.specs.Carriers.{carrier, Known}
use Rattle.coding_steps.specs.declared.carrier.Carrier.{Carrier as Named}
use Rattle.coding_steps.specs.Products.{product_of, all_served, Extended}
use Rattle.coding.specs.Aims.{aim_of}
use Rattle.coding.specs.Served.{Served}
use Rattle.coding.specs.Passing.{place_on}
use Rattle.coding.specs.State.{up_to, Stands, State, chosen_at, Carries}
use Rattle.coding.specs.declared.receiver.Receiver.{Receiver as Pending}
use Rattle.coding_steps.proofs.Renewal.{count_at, bytes-at}
use Rattle.coding.proofs.Choosing.{Like, Chosen, chosen_none, chosen-found, chosen_more}
use Rattle.coding.proofs.Linked.{Turn, so_far, names, hands, wanting, all, wanting-off, wanting-on, known, trial-gives, wanted, room, all_wanted}

module _ (z : Network) (g : Sound z) (h : ℕ) (as' : List Aim) (s : Served z h as') (e : ℕ) (le : e < length z.links)
    (vectors : List Vector) (pending : List Pending) (st : State z h as' e vectors pending) (i : ℕ) (li : i < length as') (p : Pending) (is-p : p ≡ get_or pending i p) where
  abbrev receiver : Receiver
  receiver = get_or (up_to z h as' e).receivers i (start h (aim_of p.aim.now))

  abbrev J : ℕ
  J = place (length (take e z.links)) receiver.aim.paths

  pub stands : Stands h p receiver
  stands = subst (λ q. Stands h q receiver) (sym is-p) (st.receivers i p (start h (aim_of p.aim.now)) li)

  is-place : place_on e p ≡ J
  is-place = ap₂ (λ n q. place n q.paths) (sym (so_far z g h as' s e le)) stands.aim

  pub turn-off : (cs : List ℕ) (v : Vector) (rows : List Vector) → h ≤ place_on e p → Turn z h as' e i cs v rows → Turn z h as' e (i + 1) cs v rows
  turn-off cs v rows le' t =
      subst (λ ws. Chosen h (hands z g h as' s e le) (names z g h as' s e le) ws cs v rows)
      (sym (wanting-off z g h as' s e le i li (start h (aim_of p.aim.now)) (le-ltb J h (subst (λ n. h ≤ n) is-place le')))) t

  module _ (j : ℕ) (is-j : j ≡ place_on e p) (lj : j < h) (packet : Named) (is-packet : packet ≡ get_or (vec_items p.current) j packet) where
    on : ltb J h ≡ true
    on = lt-ltb J h (subst (λ n. n < h) (is-j ∙ is-place) lj)

    packet-is : carrier packet ≡ current_at receiver J
    packet-is =
        ap carrier is-packet ∙ sym (get_d_map carrier (vec_items p.current) j packet (message 0) (omega (arith, p.level, stands.many)))
        ∙ ap₂ (λ q n. get_or q n (message 0)) stands.current (is-j ∙ is-place)

    pub packet_known : Known h (length vectors) (carrier packet)
    packet_known = subst (λ c. Known h (length vectors) c) (sym packet-is) (subst (λ n. Known h n (current_at receiver J)) (sym st.many) (known z g h as' s e le i li (start h (aim_of p.aim.now)) on))

    module _ (cs : List ℕ) (v : Vector) (rows : List Vector) (t : Turn z h as' e i cs v rows)
        (at-hand : List Named) (is-hands : map carrier at-hand ≡ at_hand h (link_at z.links e).from (take e z.links))
        (x : Vector) (is_x : x ≡ get_or (vec_items p.rows) j x) where
      abbrev w : Want
      w = want h (length (take e z.links)) (names z g h as' s e le) receiver

      trial-so : w.trial ≡ trial (carrier packet) (map carrier at-hand)
      trial-so = ap₂ trial (sym packet-is) (sym is-hands)

      like : Like h x w
      like =
          let l : j < length (vec_items p.rows) = omega (arith, stands.many) in (
            ap (λ q. q.count) is_x ∙ sym (count_at (vec_items p.rows) j x l) ∙ p.counted j l ∙ stands.many,
            λ k lk. ap (λ q. at q.bytes k) is_x ∙ ap (λ q. at q k) (sym (bytes-at (vec_items p.rows) j x l)) ∙ stands.rows j k lj lk ∙ ap (λ n. at (row receiver.dual n) k) (is-j ∙ is-place),
          )

      -- the vectors of the code are those of the definition
      on_same : (c : Carrier) → Known h e c → (k : ℕ) → k < h → at (on_carrier (units h) (bytes_of vectors) c) k ≡ at (on_carrier (units h) (up_to z h as' e).vectors c) k
      on_same (message i) l k lk = refl
      on_same (link n) l k lk = st.vectors-same n k l lk

      pub row_counted : x.count ≡ v.count
      row_counted = like.0 ∙ sym t.count

      module _ (u : Vector) (is-u : (k : ℕ) → k < h → at u.bytes k ≡ at (on_carrier (units h) (bytes_of vectors) (carrier packet)) k) where
        gives : (k : ℕ) → k < h → at u.bytes k ≡ at (mix byte_field w.trial (hands z g h as' s e le)) k
        gives k lk =
            is-u k lk ∙ on_same (carrier packet) (subst (λ n. Known h n (carrier packet)) st.many packet_known) k lk
            ∙ ap (λ c. at (on_carrier (units h) (up_to z h as' e).vectors c) k) packet-is ∙ sym (trial-gives z g h as' s e le i li (start h (aim_of p.aim.now)) on k lk)

        pub turn-found : dot byte_field v.count x.bytes v.bytes ≡ 0
            → lowest (all_served (map (product_of v.count v.bytes u.bytes) (bytes_of (rows ++ x ∷ [])))) 255 1 < 256
        turn-found =
            chosen-found h (hands z g h as' s e le) (names z g h as' s e le) (wanting z g h as' s e le i) cs v rows t w x like u.bytes gives
            (all_wanted z g h as' s e le i) (wanted z g h as' s e le i li (start h (aim_of p.aim.now)) on) (room z g h as' s e le i li (start h (aim_of p.aim.now)) on)

        pub turn_more : (cs' : List ℕ) (v' : Vector) → Extended (bytes_of (rows ++ x ∷ [])) x.bytes u.bytes (trial (carrier packet) (map carrier at-hand)) cs v cs' v' → Turn z h as' e (i + 1) cs' v' (rows ++ x ∷ [])
        turn_more cs' v' y =
            subst (λ ws. Chosen h (hands z g h as' s e le) (names z g h as' s e le) ws cs' v' (rows ++ x ∷ [])) (sym (wanting-on z g h as' s e le i li (start h (aim_of p.aim.now)) on))
            (chosen_more h (hands z g h as' s e le) (names z g h as' s e le) (wanting z g h as' s e le i) cs v rows t w x like u.bytes gives cs' v' s.rate
            (subst (λ q. Extended (bytes_of (rows ++ x ∷ [])) x.bytes u.bytes q cs v cs' v') (sym trial-so) y))

zeros : {A B : Type 0} (ns : List A) (f : A → B) → replicate {A = ℕ} (length ns) 0 ≡ map (λ n. 0) (map f ns)
zeros [] f = refl
zeros (n ∷ ns) f = ap (λ q. 0 ∷ q) (zeros ns f)

module _ (z : Network) (g : Sound z) (h : ℕ) (as' : List Aim) (s : Served z h as') (e : ℕ) (le : e < length z.links) where
  -- before the first receiver
  pub turn-none : (at-hand : List Named) → map carrier at-hand ≡ at_hand h (link_at z.links e).from (take e z.links) → (v : Vector) → v.count ≡ h → v.bytes ≡ replicate 32 0
      → Turn z h as' e 0 (replicate (length at-hand) 0) v []
  unfolding wants
  turn-none at-hand is-hands v ev empty =
      subst (λ cs. Turn z h as' e 0 cs v []) (sym (zeros at-hand carrier ∙ ap (map (λ n. 0)) is-hands))
      (chosen_none h (hands z g h as' s e le) (names z g h as' s e le) v ev (λ x l. ap (λ q. at q x) empty ∙ get_or-replicate 32 x 0 0 (omega (arith, s.rate))))

  -- after the last
  module _ (n : ℕ) (cs : List ℕ) (v : Vector) (rows : List Vector) (ln : length as' ≤ n) (t : Turn z h as' e n cs v rows) where
    pub all-chosen : cs ≡ chosen_at z h as' e
    unfolding chosen
    all-chosen =
        t.coefficients ∙ ap (λ q. choose byte_field h (hands z g h as' s e le) [] (map (λ n. 0) (names z g h as' s e le)) (wants h (length (take e z.links)) (names z g h as' s e le) q))
        (take_all n (up_to z h as' e).receivers (omega (arith, all z g h as' s e le)))

    pub all-carried : Carries z h as' e v
    all-carried = record {
      count = t.count;
      bytes = λ x l. t.vector x l ∙ sym (at-mixed byte_field h cs (hands z g h as' s e le) x l) ∙ ap (λ q. at (mixed byte_field h q (hands z g h as' s e le)) x) all-chosen;
    }
