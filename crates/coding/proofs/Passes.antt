-- A receiver when a link is passed: where the link lies on none of its paths it stays, and else the definition's step is made.
use Rattle.std.proofs.Common.{◌≡◌, ℕ, ◌<◌, ◌≤◌, cond, eqb, ltb, List, map, length, get_or, set, vec_items, sym, refl, ap, ◌∙◌, subst, inl, inr, arith, length-set, get_or-set_other, get_or-set_same, ext_get_or}
use lib.ListN.{length-map}
use Rattle.std.proofs.lemmas.List.{map-set}
use Rattle.std.proofs.lemmas.Bool.{cases_eq, cases_Bool, lt-ltb, le-ltb, ltb-true, cond-true, cond-false, eq-eqb, ne_eqb}
use Rattle.gf.proofs.Fields.{byte_field}
use Rattle.linear.specs.Vectors.{at, table}
use Rattle.linear.specs.Dual.{renew}
use Rattle.linear.proofs.Lists.{get_d-table, length-table}
use Rattle.coding_theory.specs.Coding.{place, Carrier, message, link, Receiver, current_at, passed}
use Rattle.coding_theory.proofs.Pass.{moved, passed_on, passed-off}
use Rattle.coding_steps.specs.Rows.{bytes_of, SameRows}
use Rattle.coding_steps.specs.Carriers.{carrier}
use Rattle.coding_steps.specs.declared.carrier.Carrier.{Carrier as Named}
use Rattle.coding_steps.specs.declared.carrier.Carrier.TheVariants.{Link}
use Rattle.coding_steps.proofs.Renewal.{renew-same}
use Rattle.coding.specs.Aims.{aim_of}
use Rattle.coding.specs.Passing.{place_on}
use Rattle.coding.specs.State.{Stands}
use Rattle.coding.specs.declared.receiver.Receiver.{Receiver as Pending}

-- what carries the packets, when link e takes the place of path j's
current-set : (h j e : ℕ) (cs : List Named) (r : Receiver) → length cs ≡ h → map carrier cs ≡ r.current
    → map carrier (set cs j (Link e)) ≡ table h (λ i. cond (eqb i j) (link e) (current_at r i))
current-set h j e cs r long is =
    ext_get_or (message 0) (map carrier (set cs j (Link e))) (table h to) (length-map (set cs j (Link e)) carrier ∙ length-set cs j (Link e) ∙ long ∙ sym (length-table h to))
    (λ i l.
    let li : i < h = omega (arith, length-map (set cs j (Link e)) carrier, length-set cs j (Link e)) in
    ap (λ q. get_or q i (message 0)) (map-set carrier cs j (Link e) ∙ ap (λ q. set q j (link e)) is)
    ∙ elim (cases_eq i j) [
      | inl q ↦
          ap (λ n. get_or (set r.current j (link e)) n (message 0)) q
          ∙ get_or-set_same r.current j (link e) (message 0) (omega (arith, ap length is, length-map cs carrier))
          ∙ sym (get_d-table h i to (message 0) li ∙ cond-true _ _ _ (eq-eqb i j q))
      | inr ne ↦ get_or-set_other r.current j i (link e) (message 0) ne ∙ sym (get_d-table h i to (message 0) li ∙ cond-false _ _ _ (ne_eqb i j ne))
    ])
  where
    to : ℕ → Carrier
    to i = cond (eqb i j) (link e) (current_at r i)

module _ (h e : ℕ) (v : List ℕ) (p p' : Pending) (same-aim : p'.aim.now ≡ p.aim.now) (r : Receiver) (st : Stands h p r) where
  aim' : aim_of p'.aim.now ≡ r.aim
  aim' = ap aim_of same-aim ∙ st.aim

  pub stands-off : h ≤ place_on e p → vec_items p'.current ≡ vec_items p.current → vec_items p'.rows ≡ vec_items p.rows → Stands h p' (passed byte_field h e v r)
  stands-off off current rows =
      subst (Stands h p') (sym (passed-off byte_field h e v r (le-ltb (place e r.aim.paths) h (subst (λ a. h ≤ place e a.paths) st.aim off))))
      (record {
        aim = aim';
        many = ap length rows ∙ st.many;
        current = ap (map carrier) current ∙ st.current;
        rows = subst (λ q. SameRows h (bytes_of q) r.dual) (sym rows) st.rows;
      })

  pub stands_on : (j : ℕ) → j < h → j ≡ place_on e p → vec_items p'.current ≡ set (vec_items p.current) j (Link e) → length (vec_items p'.rows) ≡ h
      → SameRows h (bytes_of (vec_items p'.rows)) (renew byte_field h j v (bytes_of (vec_items p.rows))) → Stands h p' (passed byte_field h e v r)
  stands_on j lj is-j current many rows =
      let here : j ≡ place e r.aim.paths = is-j ∙ ap (λ a. place e a.paths) st.aim in
      subst (Stands h p') (sym (passed_on byte_field h e v r (lt-ltb (place e r.aim.paths) h (subst (λ n. n < h) here lj))))
      (subst (λ n. Stands h p' (moved byte_field h n e v r)) here
      (record {
        aim = aim';
        many = many;
        current = ap (map carrier) current ∙ current-set h j e (vec_items p.current) r (p.level ∙ st.many) st.current;
        rows = λ n k ln lk. rows n k ln lk ∙ renew-same h j v v (bytes_of (vec_items p.rows)) r.dual lj (λ _ _. refl) st.rows n k ln lk;
      }))

-- a receiver depends on the first h places of the vector alone
pub passed-same : (h e : ℕ) (v v' : List ℕ) (p : Pending) (r : Receiver) → ((k : ℕ) → k < h → at v k ≡ at v' k) → Stands h p (passed byte_field h e v r) → Stands h p (passed byte_field h e v' r)
passed-same h e v v' p r same st =
    elim (cases_Bool (ltb (place e r.aim.paths) h)) [
      | inl on ↦
          let now = subst (Stands h p) (passed_on byte_field h e v r on) st in
          subst (Stands h p) (sym (passed_on byte_field h e v' r on))
          (record {
            aim = now.aim;
            many = now.many;
            current = now.current;
            rows = λ n k ln lk. now.rows n k ln lk ∙ renew-same h (place e r.aim.paths) v v' r.dual r.dual (ltb-true (place e r.aim.paths) h on) same (λ _ _ _ _. refl) n k ln lk;
          })
      | inr off ↦ subst (Stands h p) (sym (passed-off byte_field h e v' r off)) (subst (Stands h p) (passed-off byte_field h e v r off) st)
    ]
