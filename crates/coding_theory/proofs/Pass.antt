-- What holds of one receiver when a link is passed: its paths lead on, and its dual rows are those of its current vectors (`Kept`).
-- Off the link's path nothing changes. On it the link's carrier is at hand, so the trial set alone has the product 1 with the receiver's
-- dual row, and the rows are renewed by the one step of linear algebra that puts a vector in another's place.
use Rattle.std.proofs.Common.{◌≡◌, ℕ, suc, ◌<◌, ◌≤◌, true, false, cond, eqb, ltb, List, [], ◌∷◌, ◌++◌, length, sym, refl, ap, ◌∙◌, subst, inl, inr, arith}
use lib.ListN.{get_or-append}
use lib.Seq.{get_or-append_seam, get_or_at}
use Rattle.std.proofs.lemmas.Bool.{cond-true, cond-false, cases_eq, cases_Bool, eq-eqb, ne_eqb, ltb-true, ltb-false}
use Rattle.gf.specs.Field.{Field}
use Rattle.linear.specs.Vectors.{at, row, table, units, mix, Small}
use Rattle.linear.specs.Dual.{serves, renew, Inverse, put}
use Rattle.linear.proofs.Dual.{put-here, put-there, inverse-same, units-dual, renew-keeps}
use Rattle.linear.proofs.Sums.{delta-same, delta-below, by-same}
use Rattle.linear.proofs.Lists.{units-at, get_d-table, length-table}
use Rattle.network.specs.Network.{Link, Network, Sound, link_at}
use Rattle.network_cuts.specs.Scheme.{hand}
use Rattle.coding_theory.specs.Paths.{is_on, Aim, Given}
use Rattle.coding_theory.specs.Coding.{place, Carrier, message, link, on_carrier, at_hand, trial, Receiver, current_at, start, passed}
use Rattle.coding_theory.specs.Promise.{Ends}
use Rattle.coding_theory.proofs.Choose.{Wanted}
use Rattle.coding_theory.proofs.Paths.{Under, under-start, under-on, under-off, place-on, place-off}
use Rattle.coding_theory.proofs.Hand.{hand-one}

pub start-current : (h : ℕ) (a : Aim) (j : ℕ) → j < h → current_at (start h a) j ≡ message j
start-current h a j lj = get_d-table h j message (message 0) lj

module _ (F : Field) where
  open F use {size, times, laws}
  open laws use {more}

  abbrev pub Rows : Receiver → ℕ → List ℕ
  Rows r = row r.dual

  abbrev pub Vectors : ℕ → List (List ℕ) → Receiver → ℕ → List ℕ
  Vectors h vs r i = on_carrier (units h) vs (current_at r i)

  -- a receiver when the links below e are passed
  pub record Kept (ls : List Link) (h e : ℕ) (vs : List (List ℕ)) (r : Receiver) : Type 0 where
    pub given : Given ls h r.aim
    pub under : (j : ℕ) → j < h → Under ls h e r.aim.node (row r.aim.paths j) (current_at r j)
    pub dual : Inverse F h (Rows r) (Vectors h vs r)

  pub kept-start : (z : Network) → Sound z → (h : ℕ) (a : Aim) → Given z.links h a → Kept z.links h 0 [] (start h a)
  kept-start z g h a given = record {
    given = given;
    under = λ j lj. rw (start-current h a j lj) (under-start z g h a.node (row a.paths j) j lj (given.lead j lj));
    dual = inverse-same F h (row (units h)) (row (units h)) (row (units h)) (Vectors h [] (start h a)) (λ i k li lk. refl)
        (λ i k li lk. ap (λ c. at (on_carrier (units h) [] c) k) (start-current h a i li)) (units-dual F h);
  }

  -- the receiver when link e with vector v takes the place j
  abbrev pub moved : ℕ → ℕ → ℕ → List ℕ → Receiver → Receiver
  moved h j e v r = record { aim = r.aim; current = table h (λ i. cond (eqb i j) (link e) (current_at r i)); dual = renew F h j v r.dual }

  pub passed_on : (h e : ℕ) (v : List ℕ) (r : Receiver) → ltb (place e r.aim.paths) h ≡ true → passed F h e v r ≡ moved h (place e r.aim.paths) e v r
  unfolding passed
  passed_on h e v r t = cond-true _ _ _ t

  pub passed-off : (h e : ℕ) (v : List ℕ) (r : Receiver) → ltb (place e r.aim.paths) h ≡ false → passed F h e v r ≡ r
  unfolding passed
  passed-off h e v r t = cond-false _ _ _ t

  module _ (h : ℕ) (ls before : List Link) (l : Link) (after : List Link) (whole : ls ≡ before ++ l ∷ after) (vs : List (List ℕ)) (lv : length vs ≡ length before) where
    here : link_at ls (length before) ≡ l
    here = ap (λ q. link_at q (length before)) whole ∙ get_or-append_seam before l after _

    earlier : (k : ℕ) → k < length before → link_at ls k ≡ link_at before k
    earlier k lk = ap (λ q. link_at q k) whole ∙ get_or-append before (l ∷ after) _ k lk

    ends-before : (c : Carrier) (p : ℕ) → Ends ls h (length before) c p → Ends before h (length before) c p
    ends-before (message i) p x = x
    ends-before (link k) p x = (x.0, ap (λ q. q.to) (sym (earlier k x.0)) ∙ x.1)

    -- what was carried before the link is as it was
    vector-kept : (v : List ℕ) (c : Carrier) (p k : ℕ) → Ends ls h (length before) c p → at (on_carrier (units h) (vs ++ v ∷ []) c) k ≡ at (on_carrier (units h) vs c) k
    vector-kept v (message i) p k x = refl
    vector-kept v (link q) p k x = ap (λ y. at y k) (get_or-append vs (v ∷ []) [] q (omega (arith, x.0)))

    module _ (r : Receiver) (s : Kept ls h (length before) vs r) where
      small-on : ((k x : ℕ) → at (row vs k) x < size) → (c : Carrier) (p x : ℕ) → x < h → Ends ls h (length before) c p → at (on_carrier (units h) vs c) x < size
      small-on small (message i) p x lx y = rw (units-at h i x y.0 lx) (delta-below F i x)
      small-on small (link k) p x lx y = small k x

      module _ (t : ltb (place (length before) r.aim.paths) h ≡ true) where
        -- the path's current carrier leads to the beginning of the link
        pub ends_on : Ends ls h (length before) (current_at r (place (length before) r.aim.paths)) l.from
        ends_on =
            let j : ℕ = place (length before) r.aim.paths in
            let lj : j < h = ltb-true _ _ t in
            subst (λ q. Ends ls h (length before) (current_at r j) q.from) here
            (under-on ls h (length before) r.aim.node (row r.aim.paths j) (current_at r j) (s.under j lj)
            (place-on (length before) r.aim.paths (omega (arith, s.given.many, lj)))).0

        module _ (far : (k : ℕ) → k < length before → (link_at before k).to ≡ 0 → ⊥) (small : (k x : ℕ) → at (row vs k) x < size) where
          -- the trial set gives the current vector
          pub trial-vector : (x : ℕ) → x < h
              → at (mix F (trial (current_at r (place (length before) r.aim.paths)) (at_hand h l.from before)) (hand l.from (units h) before vs)) x
              ≡ at (Vectors h vs r (place (length before) r.aim.paths)) x
          trial-vector x lx =
              let c : Carrier = current_at r (place (length before) r.aim.paths) in
              hand-one F x h (units h) before vs c l.from (length-table h _) lv far (ends-before c l.from ends_on) (small-on small c l.from x lx ends_on)

          -- so what the receiver wants can be had
          pub can-be : Wanted F h (hand l.from (units h) before vs)
              (record { test = row r.dual (place (length before) r.aim.paths); trial = trial (current_at r (place (length before) r.aim.paths)) (at_hand h l.from before) })
          can-be =
              let j : ℕ = place (length before) r.aim.paths in
              let lj : j < h = ltb-true _ _ t in
              by-same F h (at (Rows r j)) (at (Rows r j)) (at (mix F (trial (current_at r j) (at_hand h l.from before)) (hand l.from (units h) before vs))) (at (Vectors h vs r j))
              (λ k _. refl) trial-vector
              ∙ s.dual.one j j lj lj ∙ delta-same j j refl

      module _ (v : List ℕ) (sv : Small F h (at v)) where
        off : ltb (place (length before) r.aim.paths) h ≡ false → Kept ls h (suc (length before)) (vs ++ v ∷ []) r
        off t = record {
          given = s.given;
          under = λ j lj. under-off ls h (length before) r.aim.node (row r.aim.paths j) (current_at r j) (s.under j lj)
              (place-off (length before) r.aim.paths (let q : h ≤ place (length before) r.aim.paths = ltb-false _ _ t in omega (arith, s.given.many)) j);
          dual = inverse-same F h (Rows r) (Rows r) (Vectors h vs r) (Vectors h (vs ++ v ∷ []) r) (λ i k li lk. refl)
              (λ i k li lk. vector-kept v (current_at r i) _ k (s.under i li).ends) s.dual;
        }

        module _ (lj : place (length before) r.aim.paths < h) (served : serves F h v (row r.dual (place (length before) r.aim.paths)) ≡ true) where
          abbrev j : ℕ
          j = place (length before) r.aim.paths

          abbrev r' : Receiver
          r' = moved h j (length before) v r

          current-at : (i : ℕ) → i < h → current_at r' i ≡ cond (eqb i j) (link (length before)) (current_at r i)
          current-at i li = get_d-table h i (λ i. cond (eqb i j) (link (length before)) (current_at r i)) (message 0) li

          current-here : (i : ℕ) → i < h → i ≡ j → current_at r' i ≡ link (length before)
          current-here i li e = current-at i li ∙ cond-true _ _ _ (eq-eqb i j e)

          current-there : (i : ℕ) → i < h → (i ≡ j → ⊥) → current_at r' i ≡ current_at r i
          current-there i li ne = current-at i li ∙ cond-false _ _ _ (ne_eqb i j ne)

          on-j : is_on (length before) (row r.aim.paths j) ≡ true
          on-j = place-on (length before) r.aim.paths (omega (arith, s.given.many, lj))

          under' : (i : ℕ) → i < h → Under ls h (suc (length before)) r.aim.node (row r.aim.paths i) (current_at r' i)
          under' i li =
              elim (cases_eq i j) [
                | inl e ↦
                    subst (Under ls h (suc (length before)) r.aim.node (row r.aim.paths i)) (sym (current-here i li e))
                    (under-on ls h (length before) r.aim.node (row r.aim.paths i) (current_at r i) (s.under i li)
                    (ap (λ n. is_on (length before) (row r.aim.paths n)) e ∙ on-j)).1
                | inr ne ↦
                    subst (Under ls h (suc (length before)) r.aim.node (row r.aim.paths i)) (sym (current-there i li ne))
                    (under-off ls h (length before) r.aim.node (row r.aim.paths i) (current_at r i) (s.under i li)
                    (elim (cases_Bool (is_on (length before) (row r.aim.paths i))) [
                      | inl t ↦ absurd (ne (s.given.apart i j (length before) li lj t on-j))
                      | inr f ↦ f
                    ]))
              ]

          abbrev vs' : List (List ℕ)
          vs' = vs ++ v ∷ []

          on : Kept ls h (suc (length before)) vs' r'
          on = record {
            given = s.given;
            under = under';
            dual =
                inverse-same F h (row (renew F h j v r.dual)) (Rows r') (put (Vectors h vs r) j v) (Vectors h vs' r') (λ i k li lk. refl)
                (λ i k li lk.
                elim (cases_eq i j) [
                  | inl e ↦
                      ap (λ c. at (on_carrier (units h) vs' c) k) (current-here i li e) ∙ ap (λ y. at y k) (get_or_at vs v [] [] (length before) lv)
                      ∙ ap (λ y. at y k) (sym (put-here (Vectors h vs r) j v i e))
                  | inr ne ↦
                      ap (λ c. at (on_carrier (units h) vs' c) k) (current-there i li ne) ∙ vector-kept v (current_at r i) _ k (s.under i li).ends
                      ∙ ap (λ y. at y k) (sym (put-there (Vectors h vs r) j v i ne))
                ])
                (renew-keeps F h j v r.dual (Vectors h vs r) lj sv s.dual served);
          }

        pub passes_kept : (ltb (place (length before) r.aim.paths) h ≡ true → serves F h v (row r.dual (place (length before) r.aim.paths)) ≡ true)
            → Kept ls h (suc (length before)) (vs ++ v ∷ []) (passed F h (length before) v r)
        passes_kept served =
            elim (cases_Bool (ltb (place (length before) r.aim.paths) h)) [
              | inl t ↦ subst (Kept ls h (suc (length before)) (vs ++ v ∷ [])) (sym (passed_on h (length before) v r t)) (on (ltb-true _ _ t) (served t))
              | inr f ↦ subst (Kept ls h (suc (length before)) (vs ++ v ∷ [])) (sym (passed-off h (length before) v r f)) (off f)
            ]
