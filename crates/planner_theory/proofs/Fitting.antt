-- The plan fits its net: as many coefficients as packets are at hand, readers of the right size whose links come in, a cut of nodes.
use Rattle.std.proofs.Common.{◌≡◌, ℕ, suc, ◌+◌, ◌-◌, ◌<◌, Bool, true, false, cond, eqb, List, [], ◌∷◌, ◌++◌, map, length, get_or, take, drop, sym, refl, ap, ◌∙◌, subst, inl, inr, arith}
use Rattle.std.proofs.ByRecursion.{All-from_get_or}
use Rattle.std.proofs.lemmas.List.{ext_get_or, get_or-map, get_or_past, length-map, length-take-le, length-drop, get_or-drop, take-append-drop, drop_more}
use Rattle.std.proofs.lemmas.Bool.{cases_lt, ne_eqb, both_ways}
use Rattle.gf.proofs.Fields.{byte_field}
use Rattle.linear.specs.Vectors.{row, table}
use Rattle.linear.proofs.Lists.{get_d-table, length-table}
use Rattle.network.specs.Network.{Link, Network, Multicast, link_at, Sound, Accepted}
use Rattle.wire.specs.Plan.{Reader, served, feeding, hand_at, hands, Comes, Matched, Suits, Fits}
use Rattle.std.specs.List.{All}
use Rattle.std.proofs.lemmas.List.Elements.{All-head, All-tail}
use Rattle.coding_theory.specs.Paths.{Aim}
use Rattle.coding_theory.specs.Coding.{Carrier, incoming, at_hand, message, Receiver, Coded, code}
use Rattle.coding_theory.specs.Promise.{Reader as Reading, Served, OnlyOnes}
use Rattle.coding_theory.proofs.Served.{all-at-once}
use Rattle.coding_theory.proofs.Prescribed.{as-prescribed}
use Rattle.planner_theory.specs.Plan.{Routed, routed, stopped, route, reader_of, planned}
use Rattle.planner_theory.specs.Promise.{PlanFits}
use Rattle.planner_theory.proofs.Routes.{Route, routes}
use Rattle.planner_theory.proofs.Readers.{links-lead}
use Rattle.planner_theory.proofs.Inside.{Route-inside, route-inside}

-- WHAT IS AT HAND

feeding-incoming : (p k : ℕ) (ls : List Link) → length (incoming p k ls) ≡ feeding p ls
unfolding incoming feeding
feeding-incoming p k [] = refl
feeding-incoming p k (l ∷ ls) = by (eqb p l.to) (feeding-incoming p (suc k) ls)
  where
    by : (t : Bool) → length (incoming p (suc k) ls) ≡ feeding p ls → length (cond t (Carrier.link k ∷ incoming p (suc k) ls) (incoming p (suc k) ls)) ≡ cond t 1 0 + feeding p ls
    by true e = omega arith
    by false e = omega arith

feeding-append : (p : ℕ) (xs ys : List Link) → feeding p (xs ++ ys) ≡ feeding p xs + feeding p ys
unfolding feeding
feeding-append p [] ys = omega arith
feeding-append p (x ∷ xs) ys = let e = feeding-append p xs ys in omega arith

feeding-none : (p : ℕ) (ls : List Link) → ((k : ℕ) → k < length ls → (link_at ls k).to ≡ p → ⊥) → feeding p ls ≡ 0
unfolding feeding
feeding-none p [] h = refl
feeding-none p (l ∷ ls) h = rw (ne_eqb p l.to (λ e. h 0 (omega arith) (sym e)), feeding-none p ls (λ k u e. h (suc k) (omega arith) e))

-- all links into the beginning of link k stand before it
feeding-before : (z : Network) → Sound z → (k : ℕ) → k < length z.links → feeding (link_at z.links k).from z.links ≡ feeding (link_at z.links k).from (take k z.links)
feeding-before z ok k h =
    let ls : List Link = z.links in
    let p : ℕ = (link_at ls k).from in
    let after : feeding p (drop k ls) ≡ 0 =
    feeding-none p (drop k ls) (λ j u e. let at : link_at (drop k ls) j ≡ link_at ls (k + j) = get_or-drop k ls j _ in
    let long : length (drop k ls) ≡ length ls - k = length-drop k ls in
    let l = ok.order (k + j) k (omega arith, h) (ap (λ x. x.to) (sym at) ∙ e) in absurd (omega arith)) in
    ap (feeding p) (sym (take-append-drop k ls)) ∙ feeding-append p (take k ls) (drop k ls) ∙ omega arith

hand-count : (h p : ℕ) (before : List Link) → length (at_hand h p before) ≡ cond (eqb p 0) h (feeding p before)
hand-count h p before = by (eqb p 0)
  where
    by : (t : Bool) → length (cond t (table h message) (incoming p 0 before)) ≡ cond t h (feeding p before)
    by true = length-table h message
    by false = feeding-incoming p 0 before

-- A PLAN THAT SERVES

module _ (m : Multicast) (ok : Accepted m) (aims : List Aim) (nodes : map (λ a. a.node) aims ≡ m.receivers) (c : Coded) (s : Served byte_field m.network m.rate aims c) (o : OnlyOnes byte_field m.network m.rate aims c) where
  abbrev links : List Link
  links = m.network.links

  count_at : (k : ℕ) → k < length links → length (row c.coefficients k) ≡ hand_at m (link_at links k).from
  count_at k h =
      let before : List Link = take k links in
      let k-long : length before ≡ k = length-take-le k links (omega arith) in
      let split : links ≡ before ++ link_at links k ∷ drop (k + 1) links = sym (take-append-drop k links) ∙ ap (λ l. before ++ l) (drop_more links k (record { from = 0; to = 0 }) h) in
      ap (λ n. length (row c.coefficients n)) (sym k-long)
      ∙ (o.long before (link_at links k) (drop (k + 1) links) split).0
      ∙ hand-count m.rate (link_at links k).from before
      ∙ ap (λ n. cond (eqb (link_at links k).from 0) m.rate n) (sym (feeding-before m.network ok.sound k h))

  counts : map length c.coefficients ≡ hands m
  counts =
      let many : length c.coefficients ≡ length links = s.each-link.0 in
      let one : length (map length c.coefficients) ≡ length c.coefficients = length-map c.coefficients length in
      let two : length (hands m) ≡ length links = length-map links (λ l. hand_at m l.from) in
      ext_get_or 0 (map length c.coefficients) (hands m) (omega arith)
      (λ k h. get_or-map length c.coefficients k [] 0 (omega arith) ∙ count_at k (omega arith) ∙ sym (get_or-map (λ l. hand_at m l.from) links k (record { from = 0; to = 0 }) 0 (omega arith)))

  suits : (r : Receiver) → 0 < r.aim.node → Reading byte_field m.network m.rate c r → Suits links m.rate r.aim.node (reader_of m.rate r)
  suits r away t =
      let h : ℕ = m.rate in
      let rd : Reader = reader_of h r in
      let many : length rd.links ≡ h = length-table h _ in
      record {
        many = many;
        lead = All-from_get_or (Comes links r.aim.node) rd.links 0 (λ j l. links-lead links h (length links) r r.aim.node away t.lead j (omega arith));
        square = t.square.many;
        long = All-from_get_or (λ q. length q ≡ h) rd.rows [] (λ k l. t.square.long k (omega (arith, t.square.many)));
      }

  all-suit : (rs : List Receiver) → All (Reading byte_field m.network m.rate c) rs → ((i : ℕ) → i < length (map (λ r. r.aim.node) rs) → 0 < get_or (map (λ r. r.aim.node) rs) i 0)
      → Matched (Suits links m.rate) (map (λ r. r.aim.node) rs) (map (reader_of m.rate) rs)
  all-suit [] a away = tt
  all-suit (r ∷ rs) a away = (
    suits r (away 0 (omega arith)) (All-head (Reading byte_field m.network m.rate c) r rs a),
    all-suit rs (All-tail (Reading byte_field m.network m.rate c) r rs a) (λ i l. away (suc i) (omega arith)),
  )

  map-map : {A B C : Type 0} (f : A → B) (g : B → C) (xs : List A) → map g (map f xs) ≡ map (λ x. g (f x)) xs
  map-map f g [] = refl
  map-map f g (x ∷ xs) = ap (λ l. g (f x) ∷ l) (map-map f g xs)

  at-nodes : map (λ r. r.aim.node) c.receivers ≡ m.receivers
  at-nodes = sym (map-map (λ r. r.aim) (λ a. a.node) c.receivers) ∙ ap (map (λ a. a.node)) s.all ∙ nodes

  pub served-fits : Fits m (served c.coefficients (map (reader_of m.rate) c.receivers))
  served-fits = (
    counts,
    subst (λ ps. Matched (Suits links m.rate) ps (map (reader_of m.rate) c.receivers)) at-nodes
        (all-suit c.receivers s.readers (subst (λ ps. (i : ℕ) → i < length ps → 0 < get_or ps i 0) (sym at-nodes) (λ i l. (ok.placed i l).0))),
  )

-- A PLAN WITH A CUT

flagged : (side : ℕ → Bool) (q : ℕ) → get_or (table 256 side) q false ≡ true → side q ≡ true
flagged side q e =
    elim (cases_lt q 256) [
      | inl l ↦ sym (get_d-table 256 q side false l) ∙ e
      | inr l ↦ absurd (both_ways false refl (sym (get_or_past (table 256 side) q false (omega (arith, length-table 256 side))) ∙ e))
    ]

fitted : (m : Multicast) (ok : Accepted m) (r : Routed) → Route m.network m.rate m.receivers r → Route-inside m.network ok.sound r → Fits m (planned m.network m.rate r)
fitted m ok (routed aims) t i =
    let few : length aims < 256 = omega (arith, ap length t.0, length-map aims (λ a. a.node), ok.rates.3) in
    let c : Coded = code byte_field m.network m.rate aims in
    served-fits m ok aims t.0 c (all-at-once byte_field m.network ok.sound m.rate aims few t.1) (as-prescribed byte_field m.network ok.sound m.rate aims few t.1)
fitted m ok (stopped p side) t i = ((t.place, t.within, t.named), length-table 256 side, λ q e. i q (flagged side q e))

pub plan-fits : PlanFits
plan-fits m ok =
    fitted m ok (route m.network m.rate m.receivers) (routes m.network ok.sound m.rate m.receivers ok.placed) (route-inside m.network ok.sound m.rate m.receivers)
