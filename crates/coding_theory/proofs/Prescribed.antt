-- The coefficients follow the rule in the subject's words: the test by a dual row decides whether the vectors stay independent, receiver by
-- receiver (`Matched`). No others do: the rule leaves no choice, neither at a receiver nor, one link after the other, in the vectors.
use Rattle.std.proofs.Common.{◌≡◌, ℕ, ◌+◌, ◌-◌, ◌<◌, Bool, true, false, ltb, List, [], ◌∷◌, ◌++◌, map, length, take, sym, refl, ap, ◌∙◌, subst, ap₂, inl, inr, append_assoc, append-nil, arith, length-append, take-suc}
use lib.ListN.{length-map}
use lib.Seq.{get_or_at, take-append_seam, take-length}
use Rattle.std.proofs.lemmas.Bool.{cond-true, cond-false, cases_Bool, ltb-true, and_parts, and_from}
use Rattle.gf.specs.Field.{Field}
use Rattle.linear.specs.Dual.{Inverse, serves}
use Rattle.linear.specs.Vectors.{at, row, units, plus, scale, mix, mixed, Small}
use Rattle.linear.specs.Lowest.{lowest, Lowest}
use Rattle.linear.specs.Choice.{serves_all}
use Rattle.linear.proofs.Independence.{test-decides}
use Rattle.linear.proofs.Choice.{t-found}
use Rattle.linear.proofs.Dual.{of-serves, inverse-same}
use Rattle.linear.proofs.Lists.{mix-small, length-table}
use Rattle.network.specs.Network.{Link, Network, Sound}
use Rattle.network_cuts.specs.Scheme.{Packet, hand}
use Rattle.std.specs.List.{All}
use Rattle.std.proofs.lemmas.List.Elements.{All-nil, All-cons, All-head, All-tail, All-weaker}
use Rattle.coding_theory.specs.Paths.{Aim, Given}
use Rattle.coding_theory.specs.Coding.{next, choose, place, Carrier, on_carrier, at_hand, trial, Receiver, Want, wants, Coded, chosen, one_more, along, code}
use Rattle.coding_theory.specs.Rule.{now, Claim, claims, Serves, Leads, over, serves as fits, adds, Prescribed}
use Rattle.coding_theory.specs.Promise.{AsPrescribed}
use Rattle.coding_theory.proofs.Choose.{Wanted}
use Rattle.coding_theory.proofs.Pass.{Rows, Vectors, Kept, can-be}
use Rattle.coding_theory.proofs.Track.{Tracks}
use Rattle.coding_theory.proofs.Steps.{chosen-long, along-append, along-coefficients, along-vectors}
use Rattle.coding_theory.proofs.Loop.{On, Fine, fine-at, begin, wants-each, wants-few, wants-on, wants-off, want, far_from, length_push}

module _ (F : Field) (h : ℕ) where
  open F use {size, times, laws}
  open laws use {more}

  -- the test of a want decides its claim
  pub record Match (w : Want) (q : Claim) : Type 0 where
    pub alike : w.trial ≡ q.trial
    pub yes : (v : List ℕ) → Small F h (at v) → serves F h v w.test ≡ true → Serves F h v q
    pub no : (v : List ℕ) → Small F h (at v) → serves F h v w.test ≡ false → Serves F h v q → ⊥

  pub data Matched : List Want → List Claim → Type 0 where
    nil : Matched [] []
    cons : {w : Want} {q : Claim} {ws : List Want} {qs : List Claim} → Match w q → Matched ws qs → Matched (w ∷ ws) (q ∷ qs)

  pub record Dones (done : List (List ℕ)) (qs : List Claim) : Type 0 where
    pub there : (v : List ℕ) → Small F h (at v) → serves_all F h v done ≡ true → All (Serves F h v) qs
    pub back : (v : List ℕ) → Small F h (at v) → All (Serves F h v) qs → serves_all F h v done ≡ true

  dones-none : Dones [] []
  unfolding serves_all
  dones-none = record { there = λ v s t. All-nil (Serves F h v); back = λ v s e. refl }

  dones-more : (done : List (List ℕ)) (qs : List Claim) (w : Want) (q : Claim) → Match w q → Dones done qs → Dones (w.test ∷ done) (q ∷ qs)
  unfolding serves_all
  dones-more done qs w q m d = record {
    there = λ v s t. let p = and_parts _ _ t in All-cons (Serves F h v) q qs (m.yes v s p.0) (d.there v s p.1);
    back = λ v s e. and_from _ _
        (elim (cases_Bool (serves F h v w.test)) [
          | inl t ↦ t
          | inr f ↦ absurd (m.no v s f (All-head (Serves F h v) q qs e))
        ])
        (d.back v s (All-tail (Serves F h v) q qs e));
  }

  module _ (hands : List Packet) where
    small-mix : (cs : List ℕ) → Small F h (at (mix F cs hands))
    small-mix cs k _ = mix-small F cs hands k

    abbrev test : List ℕ → Want → List (List ℕ) → ℕ → Bool
    test cs w done t = serves_all F h (mix F (plus cs (scale F t w.trial)) hands) (w.test ∷ done)

    next-same : (done : List (List ℕ)) (cs : List ℕ) (w : Want) → serves F h (mix F cs hands) w.test ≡ true → next F h hands done cs w ≡ cs
    unfolding next
    next-same done cs w t = cond-true _ _ _ t

    next-adds : (done : List (List ℕ)) (cs : List ℕ) (w : Want) → serves F h (mix F cs hands) w.test ≡ false
        → next F h hands done cs w ≡ plus cs (scale F (lowest (test cs w done) (size - 1) 1) w.trial)
    unfolding next
    next-adds done cs w t = cond-false _ _ _ t

    leads-of : (ws : List Want) (qs : List Claim) → Matched ws qs → (done : List (List ℕ)) (qdone : List Claim) → Dones done qdone → (cs : List ℕ)
        → serves_all F h (mix F cs hands) done ≡ true → All (Wanted F h hands) ws → length done + length ws < size
        → Leads F h hands qdone cs qs (choose F h hands done cs ws)
    unfolding choose serves_all
    leads-of [] [] nil done qdone d cs t u room = over
    leads-of [] (q ∷ qs) m done qdone d cs t u room = elim m [ ]
    leads-of (w ∷ ws) [] m done qdone d cs t u room = elim m [ ]
    leads-of (w ∷ ws) (q ∷ qs) (cons m ms) done qdone d cs t a room =
        let u : Wanted F h hands w = All-head (Wanted F h hands) w ws a in
        let us = All-tail (Wanted F h hands) w ws a in
        elim (cases_Bool (serves F h (mix F cs hands) w.test)) [
          | inl sv ↦
              subst (λ x. Leads F h hands qdone cs (q ∷ qs) (choose F h hands (w.test ∷ done) x ws)) (sym (next-same done cs w sv))
              (fits (m.yes _ (small-mix cs) sv)
              (leads-of ws qs ms (w.test ∷ done) (q ∷ qdone) (dones-more done qdone w q m d) cs (and_from _ _ sv t) us (omega arith)))
          | inr un ↦
              let low = t-found F h hands done cs w.trial w.test t un (of-serves F h _ w.test (λ z. let n : ◌≡◌ {A = ℕ} 1 0 = sym u ∙ z in omega arith)) (omega arith) in
              let d' = dones-more done qdone w q m d in
              let t₀ : ℕ = lowest (test cs w done) (size - 1) 1 in
              subst (λ x. Leads F h hands qdone cs (q ∷ qs) (choose F h hands (w.test ∷ done) x ws)) (sym (next-adds done cs w un))
              (adds (m.no _ (small-mix cs) un) t₀
              (subst (λ ds. Lowest size (λ k. All (Serves F h (mix F (plus cs (scale F k ds)) hands)) (q ∷ qdone)) t₀) m.alike
              (record {
                some = low.some;
                below = low.below;
                holds = d'.there _ (small-mix (plus cs (scale F t₀ w.trial))) low.holds;
                least = λ k pos e. low.least k pos (d'.back _ (small-mix (plus cs (scale F k w.trial))) e);
              }))
              (subst (λ ds. Leads F h hands (q ∷ qdone) (plus cs (scale F t₀ ds)) qs (choose F h hands (w.test ∷ done) (plus cs (scale F t₀ w.trial)) ws)) m.alike
              (leads-of ws qs ms (w.test ∷ done) (q ∷ qdone) d' (plus cs (scale F t₀ w.trial)) low.holds us (omega arith))))
        ]

    -- the rule leaves no choice
    leads-same : (qs done : List Claim) (cs out out' : List ℕ) → Leads F h hands done cs qs out → Leads F h hands done cs qs out' → out ≡ out'
    leads-same [] done cs out out' over over = refl
    leads-same (q ∷ qs) done cs out out' (fits s a) (fits s' b) = leads-same qs (q ∷ done) cs out out' a b
    leads-same (q ∷ qs) done cs out out' (fits s a) (adds ns t low b) = absurd (ns s)
    leads-same (q ∷ qs) done cs out out' (adds ns t low a) (fits s b) = absurd (ns s)
    leads-same (q ∷ qs) done cs out out' (adds ns t low a) (adds ns' t' low' b) =
        let e : t' ≡ t = omega (arith, low.least t' low'.some low'.holds, low'.least t low.some low.holds) in
        leads-same qs (q ∷ done) (plus cs (scale F t q.trial)) out out' a
        (subst (λ k. Leads F h hands (q ∷ done) (plus cs (scale F k q.trial)) qs out') e b)

  -- THE CLAIMS ON A LINK, AND WHAT ITS RECEIVERS WANT
  module _ (ls : List Link) (e : ℕ) (names : List Carrier) (vs : List (List ℕ)) where
    abbrev claim : Aim → Claim
    claim a = record { vectors = λ i. on_carrier (units h) vs (now e a i); place = place e a.paths; trial = trial (now e a (place e a.paths)) names }

    claims-on : (a : Aim) (as' : List Aim) → ltb (place e a.paths) h ≡ true → claims h e names vs (a ∷ as') ≡ claim a ∷ claims h e names vs as'
    unfolding claims
    claims-on a as' t = cond-true _ _ _ t

    claims-off : (a : Aim) (as' : List Aim) → ltb (place e a.paths) h ≡ false → claims h e names vs (a ∷ as') ≡ claims h e names vs as'
    unfolding claims
    claims-off a as' t = cond-false _ _ _ t

    match : (r : Receiver) → Kept F ls h e vs r → Tracks h e r → ltb (place e r.aim.paths) h ≡ true → Match (want h e names r) (claim r.aim)
    match r s t on = record {
      alike = ap (λ c. trial c names) (t p lp);
      yes = λ v sv. (test-decides F h p v (Rows F r) b lp sv inv).yes;
      no = λ v sv. (test-decides F h p v (Rows F r) b lp sv inv).no;
    }
      where
        p : ℕ
        p = place e r.aim.paths

        lp : p < h
        lp = ltb-true _ _ on

        b : ℕ → List ℕ
        b i = on_carrier (units h) vs (now e r.aim i)

        inv : Inverse F h (Rows F r) b
        inv = inverse-same F h (Rows F r) (Rows F r) (Vectors F h vs r) b (λ i k li lk. refl) (λ i k li lk. ap (λ c. at (on_carrier (units h) vs c) k) (sym (t i li))) s.dual

    matched : (rs : List Receiver) → All (Kept F ls h e vs) rs → All (Tracks h e) rs → Matched (wants h e names rs) (claims h e names vs (map (λ r. r.aim) rs))
    unfolding wants claims
    matched [] a b = nil
    matched (r ∷ rs) a b =
        let s = All-head (Kept F ls h e vs) r rs a in
        let ss = All-tail (Kept F ls h e vs) r rs a in
        let t = All-head (Tracks h e) r rs b in
        let ts = All-tail (Tracks h e) r rs b in
        elim (cases_Bool (ltb (place e r.aim.paths) h)) [
          | inl on ↦
              subst (λ ws. Matched ws (claims h e names vs (r.aim ∷ map (λ r. r.aim) rs))) (sym (wants-on h e names r rs on))
              (subst (Matched (want h e names r ∷ wants h e names rs)) (sym (claims-on r.aim (map (λ r. r.aim) rs) on)) (cons (match r s t on) (matched rs ss ts)))
          | inr off ↦
              subst (λ ws. Matched ws (claims h e names vs (r.aim ∷ map (λ r. r.aim) rs))) (sym (wants-off h e names r rs off))
              (subst (Matched (wants h e names rs)) (sym (claims-off r.aim (map (λ r. r.aim) rs) off)) (matched rs ss ts))
        ]

  -- THE RUN
  module _ (as' : List Aim) (few : length as' < size) (z : Network) (g : Sound z) (given : All (Given z.links h) as') where
    module _ (before : List Link) (l : Link) (after : List Link) (whole : z.links ≡ before ++ l ∷ after) where
      c : Coded
      c = along F h [] before (begin F h as' few z g)

      f : Fine F h as' z.links before c
      unfolding c
      f = fine-at F h as' few z g given before (l ∷ after) whole

      final : code F z h as' ≡ along F h (before ++ l ∷ []) after (one_more F h before l c)
      unfolding c along
      final = ap (λ ls. along F h [] ls (begin F h as' few z g)) whole ∙ along-append F h before [] (l ∷ after) (begin F h as' few z g)

      abbrev hands : List Packet
      hands = hand l.from (units h) before c.vectors

      row-coefficients : row (code F z h as').coefficients (length before) ≡ chosen F h before l c
      unfolding one_more
      row-coefficients =
          let r = along-coefficients F h after (before ++ l ∷ []) (one_more F h before l c) in
          ap (λ x. row x.coefficients (length before)) final
          ∙ ap (λ q. row q (length before)) (r.1 ∙ append_assoc c.coefficients (chosen F h before l c ∷ []) r.0)
          ∙ get_or_at c.coefficients (chosen F h before l c) r.0 [] (length before) f.coefficients

      split : (rest : List (List ℕ)) × ((code F z h as').vectors ≡ c.vectors ++ mixed F h (chosen F h before l c) hands ∷ rest)
      unfolding one_more
      split =
          let r = along-vectors F h after (before ++ l ∷ []) (one_more F h before l c) in
          (r.0, ap (λ x. x.vectors) final ∙ r.1 ∙ append_assoc c.vectors (mixed F h (chosen F h before l c) hands ∷ []) r.0)

      row-vectors : row (code F z h as').vectors (length before) ≡ mixed F h (chosen F h before l c) hands
      row-vectors = ap (λ q. row q (length before)) split.1 ∙ get_or_at c.vectors (mixed F h (chosen F h before l c) hands) split.0 [] (length before) f.vectors

      front-vectors : take (length before) (code F z h as').vectors ≡ c.vectors
      front-vectors =
          ap (take (length before)) split.1
          ∙ ap (λ n. take n (c.vectors ++ mixed F h (chosen F h before l c) hands ∷ split.0)) (sym f.vectors)
          ∙ take-append_seam c.vectors (mixed F h (chosen F h before l c) hands ∷ split.0)

      leads-here : Leads F h hands [] (map (λ n. 0) (at_hand h l.from before)) (claims h (length before) (at_hand h l.from before) c.vectors as') (chosen F h before l c)
      unfolding chosen serves_all
      leads-here =
          leads-of hands (wants h (length before) names c.receivers) (claims h (length before) names c.vectors as')
          (subst (λ q. Matched (wants h (length before) names c.receivers) (claims h (length before) names c.vectors q)) f.aims
          (matched z.links (length before) names c.vectors c.receivers f.kept f.tracks))
          [] [] dones-none (map (λ n. 0) names) refl
          (wants-each h (length before) names (Wanted F h hands) c.receivers
          (All-weaker (Kept F z.links h (length before) c.vectors) (λ r. On h (length before) names r → Wanted F h hands (want h (length before) names r))
          (λ r s t. can-be F h z.links before l after whole c.vectors f.vectors r s t (far_from z g before l after whole) f.small) c.receivers f.kept))
          (omega (arith, wants-few h (length before) names c.receivers, ap length f.aims, length-map c.receivers (λ r. r.aim)))
        where
          names : List Carrier
          names = at_hand h l.from before

      mixes-here : row (code F z h as').vectors (length before)
          ≡ mixed F h (row (code F z h as').coefficients (length before)) (hand l.from (units h) before (take (length before) (code F z h as').vectors))
      mixes-here =
          row-vectors ∙ sym (ap₂ (λ a b. mixed F h a (hand l.from (units h) before b)) row-coefficients front-vectors)

      rule-here : Leads F h (hand l.from (units h) before (take (length before) (code F z h as').vectors)) [] (map (λ n. 0) (at_hand h l.from before))
          (claims h (length before) (at_hand h l.from before) (take (length before) (code F z h as').vectors) as') (row (code F z h as').coefficients (length before))
      rule-here =
          subst (λ q. Leads F h (hand l.from (units h) before (take (length before) (code F z h as').vectors)) [] (map (λ n. 0) (at_hand h l.from before))
          (claims h (length before) (at_hand h l.from before) (take (length before) (code F z h as').vectors) as') q) (sym row-coefficients)
          (subst (λ vs. Leads F h (hand l.from (units h) before vs) [] (map (λ n. 0) (at_hand h l.from before))
          (claims h (length before) (at_hand h l.from before) vs as') (chosen F h before l c)) (sym front-vectors) leads-here)

      long-here : (length (row (code F z h as').coefficients (length before)) ≡ length (at_hand h l.from before)) × (length (row (code F z h as').vectors (length before)) ≡ h)
      long-here = (ap length row-coefficients ∙ chosen-long F h before l c, ap length row-vectors ∙ length-table h _)

    whole-fine : Fine F h as' z.links z.links (code F z h as')
    whole-fine = fine-at F h as' few z g given z.links [] (sym (append-nil z.links))

    prescribed : Prescribed F z h as' (code F z h as').coefficients (code F z h as').vectors
    prescribed = record { coefficients = whole-fine.coefficients; vectors = whole-fine.vectors; mixes = mixes-here; rule = rule-here }

  -- two that are prescribed are the same
  module _ (as' : List Aim) (z : Network) (cs vs cs' vs' : List (List ℕ)) (p : Prescribed F z h as' cs vs) (p' : Prescribed F z h as' cs' vs') where
    same-along : (after before : List Link) → z.links ≡ before ++ after → take (length before) cs ≡ take (length before) cs' → take (length before) vs ≡ take (length before) vs'
        → (cs ≡ cs') × (vs ≡ vs')
    same-along [] before whole e f = (
      all cs p.coefficients ∙ e ∙ sym (all cs' p'.coefficients),
      all vs p.vectors ∙ f ∙ sym (all vs' p'.vectors),
    )
      where
        all : (xs : List (List ℕ)) → length xs ≡ length z.links → xs ≡ take (length before) xs
        all xs lx = sym (take-length xs) ∙ ap (λ n. take n xs) (lx ∙ ap length (whole ∙ append-nil before))
    same-along (l ∷ after) before whole e f =
        same-along after (before ++ l ∷ []) (whole ∙ sym (append_assoc before (l ∷ []) after)) (longer cs cs' p.coefficients p'.coefficients e same_row)
        (longer vs vs' p.vectors p'.vectors f same-vector)
      where
        room : length before < length z.links
        room = omega (arith, ap length whole, length-append before (l ∷ after))

        same_row : row cs (length before) ≡ row cs' (length before)
        same_row =
            leads-same (hand l.from (units h) before (take (length before) vs')) _ [] _ _ _
            (subst (λ q. Leads F h (hand l.from (units h) before q) [] (map (λ n. 0) (at_hand h l.from before))
            (claims h (length before) (at_hand h l.from before) q as') (row cs (length before))) f (p.rule before l after whole))
            (p'.rule before l after whole)

        same-vector : row vs (length before) ≡ row vs' (length before)
        same-vector =
            p.mixes before l after whole
            ∙ ap₂ (λ a b. mixed F h a (hand l.from (units h) before b)) same_row f
            ∙ sym (p'.mixes before l after whole)

        longer : (xs ys : List (List ℕ)) → length xs ≡ length z.links → length ys ≡ length z.links → take (length before) xs ≡ take (length before) ys
            → row xs (length before) ≡ row ys (length before) → take (length (before ++ l ∷ [])) xs ≡ take (length (before ++ l ∷ [])) ys
        longer xs ys lx ly a b =
            ap (λ n. take n xs) (length_push before l)
            ∙ take-suc xs (length before) [] (omega (arith, room))
            ∙ ap₂ (λ s t. s ++ t ∷ []) a b
            ∙ sym (take-suc ys (length before) [] (omega (arith, room)))
            ∙ sym (ap (λ n. take n ys) (length_push before l))

pub as-prescribed : AsPrescribed
as-prescribed F z g h as' few given = record {
  prescribed = prescribed F h as' few z g given;
  only = λ cs vs p. same-along F h as' z cs vs _ _ p (prescribed F h as' few z g given) z.links [] refl refl refl;
  long = long-here F h as' few z g given;
}
