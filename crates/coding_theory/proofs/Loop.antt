-- Along all links: `Fine` holds at the beginning, and one more link keeps it, since its vector serves every receiver on whose path it lies.
use Rattle.std.proofs.Common.{◌≡◌, ℕ, zero, suc, ◌<◌, ◌≤◌, Bool, true, false, not, eqb, ltb, List, [], ◌∷◌, ◌++◌, map, length, sym, refl, ap, ◌∙◌, subst, ap₂, inl, inr, append_assoc, append-nil, arith, length-append}
use lib.ListN.{length-map, get_or-append}
use Rattle.std.proofs.lemmas.Bool.{cond-true, cond-false, cond_both, cases_Bool}
use Rattle.gf.specs.Field.{Field}
use Rattle.linear.specs.Vectors.{at, row, units, mix, mixed}
use Rattle.linear.specs.Dual.{serves}
use Rattle.linear.specs.Choice.{serves_all}
use Rattle.linear.proofs.Sums.{by_right}
use Rattle.linear.proofs.Lists.{at-mixed, mixed-small}
use Rattle.network.specs.Network.{Link, Network, Sound, link_at}
use Rattle.network_cuts.specs.Scheme.{hand}
use Rattle.coding_theory.specs.Coding.{place, Carrier, at_hand, trial, Receiver, current_at, start, Want, wants, choose, passed, Coded, chosen, one_more, along}
use Rattle.std.specs.List.{All}
use Rattle.std.proofs.lemmas.List.Elements.{All-nil, All-cons, All-head, All-tail, All-weaker}
use Rattle.coding_theory.specs.Paths.{Aim, Given}
use Rattle.coding_theory.proofs.Each.{each_map, each-one}
use Rattle.coding_theory.proofs.Choose.{Wanted, choose-serves}
use Rattle.coding_theory.proofs.Track.{Tracks, tracks-start, tracks-more}
use Rattle.coding_theory.proofs.Pass.{Kept, kept-start, can-be, passes_kept}

serves-mixed : (F : Field) (h : ℕ) (cs : List ℕ) (bs : List (List ℕ)) (test : List ℕ) → serves F h (mixed F h cs bs) test ≡ serves F h (mix F cs bs) test
serves-mixed F h cs bs test = ap (λ x. not (eqb x 0)) (by_right F h (at test) (at (mixed F h cs bs)) (at (mix F cs bs)) (at-mixed F h cs bs))

-- WHAT RECEIVERS WANT
module _ (h e : ℕ) (names : List Carrier) where
  abbrev pub want : Receiver → Want
  want r = record { test = row r.dual (place e r.aim.paths); trial = trial (current_at r (place e r.aim.paths)) names }

  abbrev pub On : Receiver → Type 0
  On r = ltb (place e r.aim.paths) h ≡ true

  pub wants-on : (r : Receiver) (rs : List Receiver) → On r → wants h e names (r ∷ rs) ≡ want r ∷ wants h e names rs
  unfolding wants
  wants-on r rs t = cond-true _ _ _ t

  pub wants-off : (r : Receiver) (rs : List Receiver) → ltb (place e r.aim.paths) h ≡ false → wants h e names (r ∷ rs) ≡ wants h e names rs
  unfolding wants
  wants-off r rs t = cond-false _ _ _ t

  pub wants-few : (rs : List Receiver) → length (wants h e names rs) ≤ length rs
  unfolding wants
  wants-few [] = omega arith
  wants-few (r ∷ rs) =
      elim (cases_Bool (ltb (place e r.aim.paths) h)) [
        | inl t ↦ omega (arith, ap length (wants-on r rs t), wants-few rs)
        | inr f ↦ omega (arith, ap length (wants-off r rs f), wants-few rs)
      ]

  pub wants-each : (P : Want → Type 0) (rs : List Receiver) → All (λ r. On r → P (want r)) rs → All P (wants h e names rs)
  unfolding wants
  wants-each P [] a = All-nil P
  wants-each P (r ∷ rs) a =
      let rest = wants-each P rs (All-tail (λ r. On r → P (want r)) r rs a) in
      elim (cases_Bool (ltb (place e r.aim.paths) h)) [
        | inl t ↦ subst (All P) (sym (wants-on r rs t)) (All-cons P (want r) (wants h e names rs) (All-head (λ r. On r → P (want r)) r rs a t) rest)
        | inr f ↦ subst (All P) (sym (wants-off r rs f)) rest
      ]

  pub each-wants : (P : Want → Type 0) (rs : List Receiver) → All P (wants h e names rs) → All (λ r. On r → P (want r)) rs
  each-wants P [] w = All-nil (λ r. On r → P (want r))
  each-wants P (r ∷ rs) w =
      elim (cases_Bool (ltb (place e r.aim.paths) h)) [
        | inl t ↦
            let w' : All P (want r ∷ wants h e names rs) = subst (All P) (wants-on r rs t) w in
            All-cons (λ r. On r → P (want r)) r rs (λ _. All-head P (want r) (wants h e names rs) w') (each-wants P rs (All-tail P (want r) (wants h e names rs) w'))
        | inr f ↦ All-cons (λ r. On r → P (want r)) r rs (λ t. absurd (let z : ◌≡◌ {A = Bool} true false = sym t ∙ f in cc-no z)) (each-wants P rs (subst (All P) (wants-off r rs f) w))
      ]
    where
      cc-no : true ≡ false → ⊥
      cc-no z = let n : ◌≡◌ {A = ℕ} 0 1 = cc z in omega arith

-- one more row
push-small : (n : ℕ) → 0 < n → (vs : List (List ℕ)) (v : List ℕ) → ((k x : ℕ) → at (row vs k) x < n) → ((x : ℕ) → at v x < n) → (k x : ℕ) → at (row (vs ++ v ∷ []) k) x < n
push-small n pos [] v s t zero x = t x
push-small n pos [] v s t (suc k) x = pos
push-small n pos (y ∷ vs) v s t zero x = s 0 x
push-small n pos (y ∷ vs) v s t (suc k) x = push-small n pos vs v (λ k x. s (suc k) x) t k x

pub length_push : {A : Type 0} (xs : List A) (x : A) → length (xs ++ x ∷ []) ≡ suc (length xs)
length_push xs x = omega (arith, length-append xs (x ∷ []))

-- no link so far leads into the source
pub far_from : (z : Network) → Sound z → (before : List Link) (l : Link) (after : List Link) → z.links ≡ before ++ l ∷ after
    → (k : ℕ) → k < length before → (link_at before k).to ≡ 0 → ⊥
far_from z g before l after whole k lk e =
    (g.apart k (omega (arith, ap length whole, length-append before (l ∷ after)))).0
    (ap (λ q. (link_at q k).to) whole ∙ ap (λ q. q.to) (get_or-append before (l ∷ after) _ k lk) ∙ e)

module _ (F : Field) (h : ℕ) where
  open F use {size, times, laws}
  open laws use {more}

  -- when the links of `before` are passed
  pub record Fine (as' : List Aim) (ls before : List Link) (c : Coded) : Type 0 where
    pub coefficients : length c.coefficients ≡ length before
    pub vectors : length c.vectors ≡ length before
    pub small : (k x : ℕ) → at (row c.vectors k) x < size
    pub kept : All (Kept F ls h (length before) c.vectors) c.receivers
    pub aims : map (λ r. r.aim) c.receivers ≡ as'
    pub tracks : All (Tracks h (length before)) c.receivers

  passed-aim : (e : ℕ) (v : List ℕ) (r : Receiver) → (passed F h e v r).aim ≡ r.aim
  unfolding passed
  passed-aim e v r = cond_both _ _ _ (λ (x : Receiver). x.aim ≡ r.aim) (λ _. refl) (λ _. refl)

  passed-aims : (e : ℕ) (v : List ℕ) (rs : List Receiver) → map (λ r. r.aim) (map (passed F h e v) rs) ≡ map (λ r. r.aim) rs
  passed-aims e v [] = refl
  passed-aims e v (r ∷ rs) = ap₂ (λ a as'. a ∷ as') (passed-aim e v r) (passed-aims e v rs)

  module _ (as' : List Aim) (few : length as' < size) (z : Network) (g : Sound z) where
    fine_more : (before : List Link) (l : Link) (after : List Link) → z.links ≡ before ++ l ∷ after → (c : Coded)
        → Fine as' z.links before c → Fine as' z.links (before ++ l ∷ []) (one_more F h before l c)
    unfolding one_more chosen serves_all
    fine_more before l after whole c f =
        record {
          coefficients = length_push c.coefficients cs ∙ ap suc f.coefficients ∙ sym (length_push before l);
          vectors = length_push c.vectors v ∙ ap suc f.vectors ∙ sym (length_push before l);
          small = push-small size (omega (arith, more)) c.vectors v f.small (λ x. mixed-small F h cs hands x);
          kept =
              subst (λ n. All (Kept F z.links h n (c.vectors ++ v ∷ [])) (map (passed F h (length before) v) c.receivers)) (sym (length_push before l))
              (each_map (Kept F z.links h (length before) c.vectors) (λ r. On h (length before) names r → serves F h v (row r.dual (place (length before) r.aim.paths)) ≡ true)
              (Kept F z.links h (suc (length before)) (c.vectors ++ v ∷ [])) (passed F h (length before) v) c.receivers
              (λ r s t. passes_kept F h z.links before l after whole c.vectors f.vectors r s v (λ k _. mixed-small F h cs hands k) t)
              f.kept
              (each-wants h (length before) names (λ w. serves F h v w.test ≡ true) c.receivers served));
          aims = passed-aims (length before) v c.receivers ∙ f.aims;
          tracks =
              subst (λ n. All (Tracks h n) (map (passed F h (length before) v) c.receivers)) (sym (length_push before l))
              (each_map (Kept F z.links h (length before) c.vectors) (Tracks h (length before)) (Tracks h (suc (length before)))
              (passed F h (length before) v) c.receivers (λ r s t. tracks-more F z g h (length before) v r s.given t) f.kept f.tracks);
        }
      where
        names : List Carrier
        names = at_hand h l.from before

        hands : List (List ℕ)
        hands = hand l.from (units h) before c.vectors

        ws : List Want
        ws = wants h (length before) names c.receivers

        cs : List ℕ
        cs = choose F h hands [] (map (λ n. 0) names) ws

        v : List ℕ
        v = mixed F h cs hands

        chosen-serve : (serves_all F h (mix F cs hands) [] ≡ true) × All (λ w. serves F h (mix F cs hands) w.test ≡ true) ws
        chosen-serve =
            choose-serves F h hands ws [] (map (λ n. 0) names) refl
            (wants-each h (length before) names (Wanted F h hands) c.receivers
            (All-weaker (Kept F z.links h (length before) c.vectors) (λ r. On h (length before) names r → Wanted F h hands (want h (length before) names r))
            (λ r s t. can-be F h z.links before l after whole c.vectors f.vectors r s t (far_from z g before l after whole) f.small) c.receivers f.kept))
            (omega (arith, wants-few h (length before) names c.receivers, ap length f.aims, length-map c.receivers (λ r. r.aim)))

        served : All (λ w. serves F h v w.test ≡ true) ws
        served =
            All-weaker (λ w. serves F h (mix F cs hands) w.test ≡ true) (λ w. serves F h v w.test ≡ true)
            (λ w t. serves-mixed F h cs hands w.test ∙ t) ws chosen-serve.1

    fine-part : (mid before rest : List Link) (c : Coded) → z.links ≡ before ++ (mid ++ rest) → Fine as' z.links before c
        → Fine as' z.links (before ++ mid) (along F h before mid c)
    unfolding along
    fine-part [] before rest c whole f = subst (λ b. Fine as' z.links b c) (sym (append-nil before)) f
    fine-part (l ∷ mid) before rest c whole f =
        subst (λ b. Fine as' z.links b (along F h (before ++ l ∷ []) mid (one_more F h before l c))) (append_assoc before (l ∷ []) mid)
        (fine-part mid (before ++ l ∷ []) rest (one_more F h before l c) (whole ∙ sym (append_assoc before (l ∷ []) (mid ++ rest))) (fine_more before l (mid ++ rest) whole c f))

    start-aims : (bs : List Aim) → map (λ r. r.aim) (map (start h) bs) ≡ bs
    start-aims [] = refl
    start-aims (b ∷ bs) = ap (λ q. b ∷ q) (start-aims bs)

    abbrev pub begin : Coded
    begin = record { coefficients = []; vectors = []; receivers = map (start h) as' }

    module _ (given : All (Given z.links h) as') where
      -- after the links of any front
      pub fine-at : (before after : List Link) → z.links ≡ before ++ after → Fine as' z.links before (along F h [] before begin)
      fine-at before after whole =
          fine-part before [] after begin whole
          (record {
            coefficients = refl;
            vectors = refl;
            small = λ k x. omega (arith, more);
            kept = each-one (Given z.links h) (Kept F z.links h 0 []) (start h) as' (λ a ga. kept-start F z g h a ga) given;
            aims = start-aims as';
            tracks = each-one (Given z.links h) (Tracks h 0) (start h) as' (λ a ga. tracks-start h a) given;
          })

      pub fine : Fine as' z.links z.links (along F h [] z.links begin)
      fine = fine-at z.links [] (sym (append-nil z.links))
