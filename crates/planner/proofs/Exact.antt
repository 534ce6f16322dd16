-- What the program makes is what the definition has: the receivers with their paths, the readers, the flags of a cut.
use Rattle.std.proofs.Common.{◌≡◌, ℕ, suc, ◌<◌, ◌≢◌, Bool, false, List, [], ◌∷◌, map, length, get_or, vec_items, sym, refl, ap, ◌∙◌, subst, ap₂, arith}
use Rattle.std.proofs.lemmas.List.{ext_get_or}
use Rattle.linear.specs.Vectors.{table}
use Rattle.linear.proofs.Lists.{get_d-table, length-table}
use Rattle.std.proofs.lemmas.List.Elements.{All-nil, All-cons}
use Rattle.coding_theory.specs.Paths.{Aim}
use Rattle.coding_theory.specs.Coding.{Receiver, current_at}
use Rattle.coding.specs.Meaning.{Away, Decodes}
use Rattle.wire.specs.declared.plan.Decoder.{Decoder}
use Rattle.network.specs.Values.{graph, value}
use Rattle.network.specs.declared.net.Multicast.{Multicast as Net}
use Rattle.network.proofs.Sound.{accepted}
use Rattle.wire.specs.Plan.{unserved}
use Rattle.wire.specs.Values.{reader}
use Rattle.planner_theory.specs.Plan.{routed, stopped, route, link_of, reader_of, planned, plan_of}
use Rattle.planner_theory.specs.Promise.{Main, Unserved}
use Rattle.planner_theory.proofs.Routes.{Route, routes}
use Rattle.planner_theory.proofs.Main.{main-promise}

pub away : (aims : List Aim) → ((i : ℕ) → i < length (map (λ a. a.node) aims) → 0 < get_or (map (λ a. a.node) aims) i 0) → Away aims
away [] h = All-nil (λ a. a.node ≢ 0)
away (a ∷ aims) h = All-cons (λ a. a.node ≢ 0) a aims (λ (e : a.node ≡ 0). let z = h 0 (omega arith) in omega arith) (away aims (λ i l. h (suc i) (omega arith)))

same-reader : (h : ℕ) (d : Decoder) (r : Receiver) → Decodes h d r → reader d ≡ reader_of h r
same-reader h d r s =
    let ls : List ℕ = vec_items d.links in
    let links : ls ≡ table h (λ j. link_of (current_at r j)) =
    ext_get_or 0 ls (table h (λ j. link_of (current_at r j))) (s.many ∙ sym (length-table h (λ j. link_of (current_at r j))))
    (λ j l.
    let m : j < h = omega (arith, s.many) in
    sym (get_d-table h j (λ i. link_of (current_at r i)) 0 m ∙ ap link_of (s.links j m))) in
    ap₂ (λ x y. record { links = x; rows = y }) links s.decoding

pub same-readers : (h : ℕ) (ds : List Decoder) (rs : List Receiver) → length ds ≡ length rs
    → ((i : ℕ) (d : Decoder) (r : Receiver) → i < length rs → Decodes h (get_or ds i d) (get_or rs i r)) → map reader ds ≡ map (reader_of h) rs
same-readers h [] [] long each = refl
same-readers h [] (r ∷ rs) long each = absurd (omega arith)
same-readers h (d ∷ ds) [] long each = absurd (omega arith)
same-readers h (d ∷ ds) (r ∷ rs) long each =
    ap₂ (λ x l. x ∷ l) (same-reader h d r (each 0 d r (omega arith))) (same-readers h ds rs (omega arith) (λ i e q l. each (suc i) e q (omega arith)))

pub same_flags : (flags : List Bool) (side : ℕ → Bool) → length flags ≡ 256 → ((q : ℕ) → side q ≡ get_or flags q false) → flags ≡ table 256 side
same_flags flags side long marks =
    ext_get_or false flags (table 256 side) (long ∙ sym (length-table 256 side))
    (λ q l. let m : q < 256 = omega arith in sym (get_d-table 256 q side false m ∙ marks q))

-- what is found is what is promised
pub paths-serve : (m : Net) (aims : List Aim) → route (graph m.network) m.rate (vec_items m.receivers) ≡ routed aims
    → Route (graph m.network) m.rate (vec_items m.receivers) (routed aims)
paths-serve m aims e =
    let ok = accepted m in
    subst (Route (graph m.network) m.rate (vec_items m.receivers)) e (routes (graph m.network) ok.sound m.rate (vec_items m.receivers) ok.placed)

pub cut-serves : (m : Net) (p : ℕ) (flags : List Bool) (side : ℕ → Bool) → length flags ≡ 256 → route (graph m.network) m.rate (vec_items m.receivers) ≡ stopped p side
    → ((q : ℕ) → side q ≡ get_or flags q false) → Unserved (value m) p flags
cut-serves m p flags side long e marks =
    let exact : unserved p flags ≡ plan_of (value m) = ap (unserved p) (same_flags flags side long marks) ∙ ap (planned (graph m.network) m.rate) (sym e) in
    subst (Main (value m)) (sym exact) (main-promise (value m) (accepted m))
