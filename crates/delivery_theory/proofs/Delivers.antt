-- A receiver reads the message from what came in, since the links it names lead to it; so what whole runs promise is promised of messages.
use Rattle.std.proofs.Common.{◌≡◌, ℕ, zero, suc, ◌<◌, ◌≤◌, Bool, List, [], ◌∷◌, map, length, get_or, take, sym, refl, ap, ◌∙◌, ap₂, arith}
use mathlib.Core.List.{Memᴰ}
use Rattle.std.proofs.lemmas.Bool.{ne_eqb}
use Rattle.gf.proofs.Fields.{byte_field}
use Rattle.linear.specs.Vectors.{row}
use Rattle.linear.specs.Reading.{read_by}
use Rattle.network.specs.Network.{Multicast, Accepted}
use Rattle.network_cuts.specs.Scheme.{Packet, carried, got}
use Rattle.wire.specs.Plan.{Reader, Matched}
use Rattle.linear.proofs.Lists.{length-table}
use Rattle.coding_theory.specs.Coding.{Receiver, current_at, code}
use Rattle.planner_theory.specs.Plan.{Routed, routed, stopped, route, link_of, reader_of, planned}
use Rattle.planner_theory.specs.Promise.{reader_at, Serves, Main}
use Rattle.planner_theory.proofs.Main.{main-promise}
use Rattle.run_theory.specs.Run.{Config, ins, third_before}
use Rattle.run_theory.specs.Promise.{Led}
use Rattle.run_theory.proofs.Carries.{carried-length}
use Rattle.run_theory.proofs.Runs.{whereabouts, under-way, put-out, all-out, can-arrive, none-refused}
use Rattle.run_theory.proofs.Rest.{may-begin, few-arrivals}
use Rattle.delivery_theory.specs.Work.{working, place, reader_for, reading}
use Rattle.delivery_theory.specs.Promise.{Named, FitNames, ReadsWhatCame, Messages, Delivered, AtWork, PlanDelivers}
use Rattle.delivery_theory.proofs.Came.{at_its_place, reader-for, map-like}

names : (h : ℕ) (qs : List ℕ) (rs : List Reader) (P : ℕ → Reader → Type 0) → ((q : ℕ) (r : Reader) → P q r → length r.links ≡ h)
    → Matched P qs rs → (i : ℕ) → i < length qs → length (reader_at rs i).links ≡ h
names h [] rs P e a i l = absurd (omega arith)
names h (q ∷ qs) [] P e a i l = absurd a
names h (q ∷ qs) (r ∷ rs) P e a zero l = e q r a.0
names h (q ∷ qs) (r ∷ rs) P e a (suc i) l = names h qs rs P e a.1 i (omega arith)

pub fit-names : FitNames
fit-names m cs rs fits = names m.rate m.receivers rs _ (λ q r s. s.many) fits.1

pub reads-what-came : ReadsWhatCame
reads-what-came m ok cs rs s named i l msg is =
    ap (λ (r : Reader). read_by byte_field 1024 r.rows (map (λ k. row came (place k (ins m.network p))) r.links)) the-reader
    ∙ ap (read_by byte_field 1024 (reader_at rs i).rows) (map-like (λ k. row came (place k (ins m.network p))) (row on) (reader_at rs i).links each)
    ∙ s.reads i 1024 l msg is
  where
    p : ℕ
    p = get_or m.receivers i 0

    on : List Packet
    on = carried m.network (working cs) msg

    came : List Packet
    came = got m.network (working cs) p msg

    the-reader : reader_for p m.receivers rs ≡ reader_at rs i
    the-reader = reader-for m.receivers rs i l s.every-receiver ok.rising

    each : (j : ℕ) → j < length (reader_at rs i).links → row came (place (get_or (reader_at rs i).links j 0) (ins m.network p)) ≡ row on (get_or (reader_at rs i).links j 0)
    each j h =
        let away : get_or m.receivers i 0 ≡ 0 → ⊥ = λ e. omega (arith, (ok.placed i l).0) in
        let k : ℕ = get_or (reader_at rs i).links j 0 in
        let leads = s.lead i j l (omega (arith, named i l)) in
        rw (ne_eqb (get_or m.receivers i 0) 0 away)
        (at_its_place p 0 m.network.links on (sym (carried-length m.network (working cs) msg)) k k (omega arith) leads.0 leads.1)

-- readers that give back each message give back all of them
map_back : (g : List Packet → List Packet) (ms : List (List Packet)) → ((x : List Packet) → Memᴰ x ms → g x ≡ x) → map g ms ≡ ms
map_back g [] h = refl
map_back g (x ∷ ms) h = ap₂ (λ y l. y ∷ l) (h x (Memᴰ.head refl)) (map_back g ms (λ y i. h y (Memᴰ.tail i)))

in-front : (n : ℕ) (ms : List (List Packet)) (x : List Packet) → Memᴰ x (take n ms) → Memᴰ x ms
in-front zero ms x i = elim i [ ]
in-front (suc n) [] x i = elim i [ ]
in-front (suc n) (y ∷ ms) x (Memᴰ.head e) = Memᴰ.head e
in-front (suc n) (y ∷ ms) x (Memᴰ.tail i) = Memᴰ.tail (in-front n ms x i)

module _ (m : Multicast) (ok : Accepted m) (cs : List (List ℕ)) (rs : List Reader) (s : Serves m cs rs) (named : Named m rs) where
  abbrev LedHere : (may : Config → Bool) → Config → Type 0
  LedHere may c = Led m.network (working cs) (reading m rs) may c

  reads : (i : ℕ) → i < length m.receivers → (msgs : List (List Packet)) → Messages m msgs
      → map (λ msg. reading m rs (get_or m.receivers i 0) (got m.network (working cs) (get_or m.receivers i 0) msg)) msgs ≡ msgs
  reads i l msgs are = map_back _ msgs (λ msg h. reads-what-came m ok cs rs s named i l msg (are msg h))

  in_order : (may : Config → Bool) (c : Config) → LedHere may c → Messages m c.begun → (i : ℕ) → i < length m.receivers
      → (n : ℕ) × (n ≤ length c.begun) × (c.out (get_or m.receivers i 0) ≡ take n c.begun)
  in_order may c led are i l =
      let o = put-out m.network ok.sound (working cs) (reading m rs) may c led (get_or m.receivers i 0) in
      (o.0, o.1, o.2 ∙ reads i l (take o.0 c.begun) (λ msg h. are msg (in-front o.0 c.begun msg h)))

  all-of-them : (may : Config → Bool) (c : Config) → LedHere may c → Messages m c.begun → c.way ≡ [] → (i : ℕ) → i < length m.receivers
      → c.out (get_or m.receivers i 0) ≡ c.begun
  all-of-them may c led are rest i l =
      let some = s.lead i 0 l (omega (arith, ok.rates.0)) in
      let o = all-out m.network ok.sound ok.fed (working cs) (reading m rs) may c led rest (get_or (reader_at rs i).links 0 0) some.0 in
      (rw some.1 at o) ∙ reads i l c.begun are

pub delivered : Delivered
delivered m ok cs rs s named =
    record {
      whereabouts = whereabouts m.network ok.sound (working cs) (reading m rs);
      under-way = under-way m.network ok.sound (working cs) (reading m rs);
      in_order = in_order m ok cs rs s named;
      all = all-of-them m ok cs rs s named;
      few = few-arrivals m.network ok.sound (working cs) (reading m rs);
      none-refused = none-refused m.network ok.sound (working cs) (reading m rs);
      can-arrive = can-arrive m.network ok.sound (working cs) (reading m rs);
      may-begin = may-begin m.network ok.sound ok.fed (working cs) (reading m rs) (third_before m.network);
    }

-- readers made for h packets name h links
made-for : (h : ℕ) (rs : List Receiver) (i : ℕ) → i < length (map (reader_of h) rs) → length (reader_at (map (reader_of h) rs) i).links ≡ h
made-for h [] i l = absurd (omega arith)
made-for h (r ∷ rs) zero l = length-table h (λ j. link_of (current_at r j))
made-for h (r ∷ rs) (suc i) l = made-for h rs i (omega arith)

at-work : (m : Multicast) → Accepted m → (r : Routed) → Main m (planned m.network m.rate r) → AtWork m (planned m.network m.rate r)
at-work m ok (routed aims) s = delivered m ok _ _ s (λ i l. made-for m.rate (code byte_field m.network m.rate aims).receivers i (omega (arith, s.every-receiver)))
at-work m ok (stopped p side) s = s

pub plan-delivers : PlanDelivers
plan-delivers m ok = at-work m ok (route m.network m.rate m.receivers) (main-promise m ok)
