-- From link to link: the vector that was chosen serves every receiver on whose path the link lies, so the receivers can be passed on, and
-- with the link's vector at the end of the vectors the code's state stands for the definition's after one more link.
use Rattle.std.proofs.Common.{◌≡◌, ℕ, suc, ◌+◌, ◌<◌, true, List, [], ◌∷◌, ◌++◌, map, length, get_or, vec_items, take, sym, refl, ap, ◌∙◌, subst, ap₂, inl, inr, arith, length-append}
use lib.ListN.{length-map, get_or-append}
use lib.Seq.{get_or_at}
use Rattle.std.proofs.lemmas.List.{map-append, take_more, take_all}
use Rattle.std.proofs.lemmas.Bool.{cases_eq, lt-ltb}
use Rattle.gf.proofs.Fields.{byte_field}
use Rattle.gf_bytes.specs.declared.vector.Vector.{Vector}
use Rattle.linear.specs.Vectors.{at, row, dot, mix}
use Rattle.linear.specs.Dual.{serves}
use Rattle.linear.specs.Choice.{serves_all}
use Rattle.linear.proofs.Sums.{by-same}
use Rattle.linear.proofs.Lists.{get_d_map, at-mixed}
use Rattle.linear.proofs.Dual.{serves-of}
use Rattle.network.specs.Network.{Network, link_at, Sound}
use Rattle.std.specs.List.{All}
use Rattle.coding_theory.specs.Paths.{Aim}
use Rattle.coding_theory.specs.Coding.{place, Receiver, start, wants, chosen, one_more, along, passed}
use Rattle.coding_theory.proofs.Choose.{Wanted, choose-serves}
use Rattle.coding_theory.proofs.Loop.{want, On, each-wants, wants-few}
use Rattle.coding_theory.proofs.Steps.{along-append}
use Rattle.coding_steps.specs.Rows.{bytes_of}
use Rattle.coding.specs.Aims.{aim_of, aims_on}
use Rattle.coding.specs.Served.{Served}
use Rattle.coding.specs.Passing.{place_on, Ready, Passed}
use Rattle.coding.specs.State.{up_to, Stands, State, chosen_at, vector_at, Carries}
use Rattle.coding.specs.declared.receiver.Receiver.{Receiver as Pending}
use Rattle.coding.proofs.Passes.{passed-same}
use Rattle.coding.proofs.Linked.{so_far, names, hands, fine, all, all_wanted}

pub positive : (n : ℕ) → (n ≡ 0 → ⊥) → 0 < n
positive n ne = omega arith

module _ (z : Network) (g : Sound z) (h : ℕ) (as' : List Aim) (s : Served z h as') (e : ℕ) (le : e < length z.links) where
  -- the definition's step
  pub up_to-more : up_to z h as' (e + 1) ≡ one_more byte_field h (take e z.links) (link_at z.links e) (up_to z h as' e)
  unfolding along
  up_to-more =
      ap (λ ls. along byte_field h [] ls (record { coefficients = []; vectors = []; receivers = map (start h) as' })) (take_more z.links e (record { from = 0; to = 0 }) le)
      ∙ along-append byte_field h (take e z.links) [] (link_at z.links e ∷ []) _

  pub more-coefficients : (up_to z h as' (e + 1)).coefficients ≡ (up_to z h as' e).coefficients ++ chosen_at z h as' e ∷ []
  unfolding one_more
  more-coefficients = ap (λ c. c.coefficients) up_to-more

  more_vectors : (up_to z h as' (e + 1)).vectors ≡ (up_to z h as' e).vectors ++ vector_at z h as' e ∷ []
  unfolding one_more
  more_vectors = ap (λ c. c.vectors) up_to-more

  more-receivers : (up_to z h as' (e + 1)).receivers ≡ map (passed byte_field h (length (take e z.links)) (vector_at z h as' e)) (up_to z h as' e).receivers
  unfolding one_more
  more-receivers = ap (λ c. c.receivers) up_to-more

  passed-vectors : length (up_to z h as' e).vectors ≡ e
  passed-vectors = (fine z g h as' s e le).vectors ∙ so_far z g h as' s e le

  -- the chosen coefficients serve all
  all-served : All (λ r. On h (length (take e z.links)) (names z g h as' s e le) r
      → serves byte_field h (mix byte_field (chosen_at z h as' e) (hands z g h as' s e le)) (want h (length (take e z.links)) (names z g h as' s e le) r).test ≡ true) (up_to z h as' e).receivers
  unfolding chosen serves_all
  all-served =
      each-wants h (length (take e z.links)) (names z g h as' s e le) (λ w. serves byte_field h (mix byte_field (chosen_at z h as' e) (hands z g h as' s e le)) w.test ≡ true) (up_to z h as' e).receivers
      (choose-serves byte_field h (hands z g h as' s e le) (wants h (length (take e z.links)) (names z g h as' s e le) (up_to z h as' e).receivers) [] (map (λ n. 0) (names z g h as' s e le)) refl
      (subst (λ q. All (Wanted byte_field h (hands z g h as' s e le)) (wants h (length (take e z.links)) (names z g h as' s e le) q)) (take_all (length as') (up_to z h as' e).receivers (omega (arith, all z g h as' s e le))) (all_wanted z g h as' s e le (length as')))
      (omega (arith, wants-few h (length (take e z.links)) (names z g h as' s e le) (up_to z h as' e).receivers, all z g h as' s e le, s.few))).1

  module _ (vectors : List Vector) (ps : List Pending) (st : State z h as' e vectors ps) (v : Vector) (c : Carries z h as' e v) where
    module _ (i : ℕ) (li : i < length as') (p : Pending) (r₀ : Receiver) where
      abbrev r : Receiver
      r = get_or (up_to z h as' e).receivers i r₀

      abbrev J : ℕ
      J = place (length (take e z.links)) r.aim.paths

      abbrev now : Pending
      now = get_or ps i p

      stands : Stands h now r
      stands = st.receivers i p r₀ li

      is-place : place_on e now ≡ J
      is-place = ap₂ (λ n q. place n q.paths) (sym (so_far z g h as' s e le)) stands.aim

      serves-here : J < h → 0 < dot byte_field h (row (bytes_of (vec_items now.rows)) J) v.bytes
      serves-here lj =
          let same : dot byte_field h (row (bytes_of (vec_items now.rows)) J) v.bytes ≡ dot byte_field h (row r.dual J) (mix byte_field (chosen_at z h as' e) (hands z g h as' s e le)) =
          by-same byte_field h (at (row (bytes_of (vec_items now.rows)) J)) (at (row r.dual J)) (at v.bytes) _ (λ k lk. stands.rows J k lj lk)
          (λ k lk. c.bytes k lk ∙ at-mixed byte_field h (chosen_at z h as' e) (hands z g h as' s e le) k lk) in
          let not_None = serves-of byte_field h (mix byte_field (chosen_at z h as' e) (hands z g h as' s e le)) (row r.dual J)
          (all-served i r₀ (omega (arith, all z g h as' s e le, li)) (lt-ltb J h lj)) in
          positive _ (λ q. not_None (sym same ∙ q))

      ready-here : Ready e v now
      ready-here = record {
        count = c.count ∙ sym stands.many;
        served = λ l.
            subst (λ n. 0 < dot byte_field n (row (bytes_of (vec_items now.rows)) (place_on e now)) v.bytes) (sym stands.many)
            (subst (λ n. 0 < dot byte_field h (row (bytes_of (vec_items now.rows)) n) v.bytes) (sym is-place)
            (serves-here (subst (λ n. n < h) is-place (subst (λ n. place_on e now < n) stands.many l))));
      }

      module _ (ps' : List Pending) (x : Passed e v.bytes now (get_or ps' i p)) where
        abbrev after : Receiver
        after = get_or (up_to z h as' (e + 1)).receivers i r₀

        after_is : after ≡ passed byte_field h (length (take e z.links)) (vector_at z h as' e) r
        after_is =
            ap (λ q. get_or q i r₀) more-receivers
            ∙ get_d_map (passed byte_field h (length (take e z.links)) (vector_at z h as' e)) (up_to z h as' e).receivers i r₀ r₀ (omega (arith, all z g h as' s e le, li))

        stands_after : Stands h (get_or ps' i p) after
        stands_after =
            subst (Stands h (get_or ps' i p)) (sym after_is)
            (subst (λ n. Stands h (get_or ps' i p) (passed byte_field h n (vector_at z h as' e) r)) (sym (so_far z g h as' s e le))
            (passed-same h e v.bytes (vector_at z h as' e) (get_or ps' i p) r c.bytes
            (subst (λ n. Stands n (get_or ps' i p) (passed byte_field n e v.bytes r)) stands.many (x.stands r (subst (λ n. Stands n now r) (sym stands.many) stands)))))

    pub all-ready : (i : ℕ) (p : Pending) → i < length as' → Ready e v (get_or ps i p)
    all-ready i p li = ready-here i li p (start h (aim_of p.aim.now))

    pub state-more : (ps' : List Pending) → length ps' ≡ length ps → ((i : ℕ) (p : Pending) → i < length as' → Passed e v.bytes (get_or ps i p) (get_or ps' i p)) → State z h as' (e + 1) (vectors ++ v ∷ []) ps'
    state-more ps' lp x = record {
      many = omega (arith, length-append vectors (v ∷ []), st.many);
      counted = λ k lk.
          elim (cases_eq k e) [
            | inl q ↦ ap (λ w. get_or w k 0) (map-append (λ y. y.count) vectors (v ∷ [])) ∙ get_or_at (map (λ y. y.count) vectors) v.count [] 0 k (omega (arith, length-map vectors (λ y. y.count), st.many)) ∙ c.count
            | inr ne ↦
                let l : k < length vectors = omega (arith, length-append vectors (v ∷ []), st.many) in
                ap (λ w. get_or w k 0) (map-append (λ y. y.count) vectors (v ∷ [])) ∙ get_or-append (map (λ y. y.count) vectors) (v.count ∷ []) 0 k (omega (arith, length-map vectors (λ y. y.count))) ∙ st.counted k l
          ];
      vectors-same = λ k n lk ln.
          elim (cases_eq k e) [
            | inl q ↦
                ap (λ w. at (row w k) n) (map-append (λ y. y.bytes) vectors (v ∷ [])) ∙ ap (λ w. at w n) (get_or_at (bytes_of vectors) v.bytes [] [] k (omega (arith, length-map vectors (λ y. y.bytes), st.many)))
                ∙ c.bytes n ln
                ∙ sym (ap (λ w. at (row w k) n) more_vectors ∙ ap (λ w. at w n) (get_or_at (up_to z h as' e).vectors (vector_at z h as' e) [] [] k (omega (arith, passed-vectors))))
            | inr ne ↦
                let l : k < e = omega arith in
                ap (λ w. at (row w k) n) (map-append (λ y. y.bytes) vectors (v ∷ [])) ∙ ap (λ w. at w n) (get_or-append (bytes_of vectors) (v.bytes ∷ []) [] k (omega (arith, length-map vectors (λ y. y.bytes), st.many)))
                ∙ st.vectors-same k n l ln
                ∙ sym (ap (λ w. at (row w k) n) more_vectors ∙ ap (λ w. at w n) (get_or-append (up_to z h as' e).vectors (vector_at z h as' e ∷ []) [] k (omega (arith, passed-vectors))))
          ];
      all = lp ∙ st.all;
      receivers = λ i p r li. stands_after i li p r ps' (x i p li);
    }

-- the receivers keep their aims
pub aims-kept : (e : ℕ) (v : List ℕ) (ps ps' : List Pending) → length ps' ≡ length ps → ((i : ℕ) (p : Pending) → i < length ps → Passed e v (get_or ps i p) (get_or ps' i p)) → aims_on ps' ≡ aims_on ps
aims-kept e v [] [] long x = refl
aims-kept e v [] (p ∷ ps') long x = absurd (omega arith)
aims-kept e v (p ∷ ps) [] long x = absurd (omega arith)
aims-kept e v (p ∷ ps) (p' ∷ ps') long x = ap₂ (λ a as'. aim_of a ∷ as') (x 0 p (omega arith)).aim (aims-kept e v ps ps' (omega arith) (λ i q l. x (suc i) q (omega arith)))
