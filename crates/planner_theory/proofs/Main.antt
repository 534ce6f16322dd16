-- The main promise. Where all receivers have paths, these are given to the coefficients, which then serve all;
-- where one has none, its cut is one that nothing gets across.
use Rattle.std.proofs.Common.{◌≡◌, ℕ, ◌<◌, List, [], map, length, get_or, sym, ap, ◌∙◌, arith}
use Rattle.std.proofs.lemmas.List.{get_or-map, length-map}
use Rattle.gf.proofs.Fields.{byte_field}
use Rattle.linear.specs.Vectors.{table}
use Rattle.linear.specs.Reading.{read_by}
use Rattle.network.specs.Network.{Multicast, Accepted}
use Rattle.network_cuts.specs.Scheme.{Packet, carried}
use Rattle.network_cuts.proofs.Across.{alike}
use Rattle.coding_theory.specs.Paths.{Aim}
use Rattle.coding_theory.specs.Coding.{Receiver, start, Coded, code, linear, packets, rows}
use Rattle.coding_theory.specs.Promise.{Served, Reader as Reading}
use Rattle.coding_theory.proofs.Served.{all-at-once}
use Rattle.planner_theory.specs.Plan.{Routed, routed, stopped, route, reader_of, planned}
use Rattle.planner_theory.specs.Promise.{on_links, reader_at, Serves, Main, MainPromise}
use Rattle.planner_theory.proofs.Routes.{Route, routes}
use Rattle.planner_theory.proofs.Readers.{packets-on-links, links-lead}

-- receivers that are served, by their places
module _ (m : Multicast) (ok : Accepted m) (aims : List Aim) (nodes : map (λ a. a.node) aims ≡ m.receivers) (c : Coded) (s : Served byte_field m.network m.rate aims c) where
  abbrev nobody : Receiver
  nobody = start m.rate (record { node = 0; paths = [] })

  abbrev receiver_at : ℕ → Receiver
  receiver_at i = get_or c.receivers i nobody

  many : length c.receivers ≡ length m.receivers
  many =
      let a : length (map (λ r. r.aim) c.receivers) ≡ length aims = ap length s.all in
      let b : length (map (λ a. a.node) aims) ≡ length m.receivers = ap length nodes in
      omega (arith, length-map c.receivers (λ r. r.aim), length-map aims (λ a. a.node))

  node-is : (i : ℕ) → i < length m.receivers → (receiver_at i).aim.node ≡ get_or m.receivers i 0
  node-is i h =
      let l : i < length c.receivers = omega (arith, many) in
      let a : get_or (map (λ r. r.aim) c.receivers) i nobody.aim ≡ (receiver_at i).aim = get_or-map (λ r. r.aim) c.receivers i nobody nobody.aim l in
      let n : get_or (map (λ b. b.node) aims) i 0 ≡ (get_or aims i nobody.aim).node =
      get_or-map (λ b. b.node) aims i nobody.aim 0 (omega (arith, ap length nodes, length-map aims (λ b. b.node))) in
      ap (λ b. b.node) (sym a ∙ ap (λ as'. get_or as' i nobody.aim) s.all) ∙ sym n ∙ ap (λ ps. get_or ps i 0) nodes

  read_at : (i : ℕ) → i < length m.receivers → Reading byte_field m.network m.rate c (receiver_at i)
  read_at i h = s.readers i nobody (omega (arith, many))

  reader-is : (i : ℕ) → i < length m.receivers → reader_at (map (reader_of m.rate) c.receivers) i ≡ reader_of m.rate (receiver_at i)
  reader-is i h = get_or-map (reader_of m.rate) c.receivers i nobody _ (omega (arith, many))

  away : (i : ℕ) → i < length m.receivers → 0 < (receiver_at i).aim.node
  away i h = rw (node-is i h) (ok.placed i h).0

  serves : Serves m c.coefficients (map (reader_of m.rate) c.receivers)
  serves =
      record {
        every-link = s.each-link.0;
        every-receiver = length-map c.receivers (reader_of m.rate) ∙ many;
        lead = λ i j h l.
            rw (reader-is i h, sym (node-is i h))
            (links-lead m.network.links m.rate (length m.network.links) (receiver_at i) (receiver_at i).aim.node (away i h) (read_at i h).lead j l);
        reads = λ i n h msg is.
            rw (reader-is i h) (ap (read_by byte_field n (rows m.rate (receiver_at i))) (sym (on-links i h n msg)) ∙ (read_at i h).reads n msg is);
        only = λ i n qs h some square reads.
            rw (reader-is i h)
            ((read_at i h).only n qs some square
            (λ msg is. ap (read_by byte_field n qs) (on-links i h n msg) ∙ (rw (reader-is i h) at (reads msg is))));
      }
    where
      on-links : (i : ℕ) (h : i < length m.receivers) (n : ℕ) (msg : List Packet)
          → packets m.rate (receiver_at i) msg (carried m.network (linear byte_field n c.coefficients) msg)
          ≡ on_links (carried m.network (linear byte_field n c.coefficients) msg) (reader_of m.rate (receiver_at i)).links
      on-links i h n msg =
          packets-on-links m.network.links m.rate (length m.network.links) (receiver_at i) (receiver_at i).aim.node (away i h) (read_at i h).lead msg _

-- the answer for the receivers, turned into the promise
promised : (m : Multicast) → Accepted m → (r : Routed) → Route m.network m.rate m.receivers r → Main m (planned m.network m.rate r)
promised m ok (routed aims) t =
    let few : length aims < 256 = omega (arith, ap length t.0, length-map aims (λ a. a.node), ok.rates.3) in
    serves m ok aims t.0 (code byte_field m.network m.rate aims) (all-at-once byte_field m.network ok.sound m.rate aims few t.1)
promised m ok (stopped p side) t =
    record {
      place = t.place;
      within = t.within;
      named = t.named;
      first = t.first;
      behind = t.behind;
      same-side = ap (table 256) t.same-side;
      alike = alike m.network m.rate p t.behind;
    }

pub main-promise : MainPromise
main-promise m ok = promised m ok (route m.network m.rate m.receivers) (routes m.network ok.sound m.rate m.receivers ok.placed)
