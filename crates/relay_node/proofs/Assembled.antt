-- A node that is put together out of a net and a plan that fits it works by the plan.
use Rattle.std.proofs.Common.{◌≡◌, ℕ, ◌*◌, ◌<◌, ◌≤◌, Bool, true, false, cond, not, ◌&&◌, eqb, ltb, List, map, length, get_or, vec_items, vec_len, Result, Vec, sym, refl, ap, ◌∙◌, subst, ap₂, arith}
use Rattle.std.specs.List.{All, IsAnyAnswer}
use Rattle.std.specs.declared.alloc.Global.{Global}
use Rattle.std.proofs.lemmas.List.{get_or-map, length-map}
use Rattle.std.proofs.lemmas.Bool.{cond-false, and_left, and_right, not_from_true, le-ltb, lt-ltb, eqb-true, eq-eqb, and_from, cond-true, both_ways}
use Rattle.gf.proofs.Fields.{byte_field}
use Rattle.linear.specs.Vectors.{row as row_at, mixed}
use Rattle.linear.specs.Reading.{read_by}
use Rattle.network.specs.Network.{Multicast, Rising}
use Rattle.network.specs.Values.{value}
use Rattle.network.specs.declared.net.Multicast.{Multicast as Net}
use Rattle.network.specs.declared.net.Link.{Link as Joined}
use Rattle.network.proofs.Sound.{links-long, accepted}
use Rattle.wire.specs.Plan.{Reader, Plan, served, Fits}
use Rattle.wire.specs.Values.{reader as reader_of}
use Rattle.wire.specs.declared.plan.Coded.{Coded}
use Rattle.wire.specs.declared.plan.Decoder.{Decoder}
use Rattle.relay_theory.specs.Relay.{is_in}
use Rattle.run_theory.specs.Run.{ins, outs}
use Rattle.delivery_theory.specs.Work.{place, reader_for}
use Rattle.relay_node.specs.Assembly.{passing, picked, current}
use Rattle.relay_node.specs.Nodes.{width, entries, Works, refusal, receiver_refusal, Begun}
use Rattle.relay_node.specs.Values.{Alike, goes, coefficients_of}
use Rattle.relay_node.specs.declared.node.Node.{Node}
use Rattle.relay_node.specs.declared.node.Out.{Out}
use Rattle.relay_node.specs.declared.node_error.NodeError.{NodeError}
use Rattle.relay_memory.specs.declared.slots.Slots.{Slots}
use Rattle.relay_memory.proofs.Memory.{in-at, not_in}
use Rattle.relay_node.proofs.Assembly.{passing-numbers, numbers-few, numbers-rising, out_below, coded, sends, standing, level-readers, within, square, long, reads, reader-none, reader_at, none}

module _ (net : Net) (p : ℕ) where
  -- as the code finds them among the links of the net
  pub links-in : (found : List ℕ) (ls : List Joined) → found ≡ passing (λ l. eqb p l.to) 0 ls → ls ≡ vec_items net.network.links → found ≡ ins (value net).network p
  links-in found ls e f = e ∙ ap (passing (λ l. eqb p l.to) 0) f ∙ passing-numbers (λ l. l.to) p 0 (vec_items net.network.links)

  pub links-out : (found : List ℕ) (ls : List Joined) → found ≡ passing (λ l. eqb p l.from) 0 ls → ls ≡ vec_items net.network.links → found ≡ outs (value net).network p
  links-out found ls e f = e ∙ ap (passing (λ l. eqb p l.from) 0) f ∙ passing-numbers (λ l. l.from) p 0 (vec_items net.network.links)

  pub few-links : length (ins (value net).network p) ≤ 1024
  few-links = omega (arith, numbers-few (λ l. l.to) p (value net).network.links 0, links-long net.network, net.network.limits.2)

  pub ins-rise : (v : Vec ℕ Global) → vec_items v ≡ ins (value net).network p → Rising (vec_len v) (λ i. get_or (vec_items v) i 0)
  ins-rise v e i j a b = rw e (numbers-rising (λ l. l.to) p (value net).network.links 0 i j a (omega (arith, v.ok.0, ap length e)))

  pub ins-few : (v : Vec ℕ Global) → vec_items v ≡ ins (value net).network p → vec_len v ≤ 1024
  ins-few v e = omega (arith, v.ok.0, ap length e, few-links)

  pub outs-rise : (v : Vec Out Global) → map (λ o. o.link) (vec_items v) ≡ outs (value net).network p → Rising (vec_len v) (λ i. get_or (map (λ o. o.link) (vec_items v)) i 0)
  outs-rise v e i j a b = rw e (numbers-rising (λ l. l.from) p (value net).network.links 0 i j a (omega (arith, v.ok.0, length-map (vec_items v) (λ o. o.link), ap length e)))

-- what the code reads for a receiver
module _ (p : ℕ) (receivers : List ℕ) (decoders : List Decoder) where
  pub no-decoder : is_in p receivers ≡ false → reader_for p receivers (map reader_of decoders) ≡ none
  no-decoder h = reader-none p receivers (map reader_of decoders) h

  pub decoder-links : (js is links : List ℕ) (x : Decoder) → is ≡ current js links → links ≡ vec_items x.links → reader_for p receivers (map reader_of decoders) ≡ reader_of x → is ≡ current js (reader_for p receivers (map reader_of decoders)).links
  decoder-links js is links x e f r = e ∙ ap (current js) (f ∙ sym (ap (λ q. q.links) r))

  pub decoder-at : length receivers ≡ length decoders → (i : ℕ) → i < length receivers → i ≡ place p receivers → (x : Decoder) → x ≡ get_or decoders i x → reader_for p receivers (map reader_of decoders) ≡ reader_of x
  decoder-at e i l at x is =
      let n : length receivers ≡ length (map reader_of decoders) = omega (arith, length-map decoders reader_of) in
      reader_at p receivers (map reader_of decoders) none n (omega (arith, at))
      ∙ ap (λ j. get_or (map reader_of decoders) j none) (sym at)
      ∙ get_or-map reader_of decoders i x none (omega arith)
      ∙ ap reader_of (sym is)

module _ (net : Net) (code : Coded) (fits : Fits (value net) (served (map vec_items (vec_items code.coefficients)) (map reader_of (vec_items code.receivers)))) (p : ℕ) where
  abbrev cs : List (List ℕ)
  cs = map vec_items (vec_items code.coefficients)

  abbrev rs : List Reader
  rs = map reader_of (vec_items code.receivers)

  abbrev stands : List ℕ
  stands = standing (value net) cs rs fits (accepted net) p

  pub picks : (ks : List ℕ) → ks ≡ outs (value net).network p → (i : ℕ) → i < length ks → get_or ks i 0 < vec_len code.coefficients
  picks ks e i l =
      rw e (omega (arith, out_below (value net) cs rs fits (accepted net) p i (omega (arith, ap length e)), length-map (vec_items code.coefficients) (λ v. vec_items v), code.coefficients.ok.0))

  pub level : length (value net).receivers ≡ vec_len code.receivers
  level = omega (arith, level-readers (value net) cs rs fits (accepted net) p, length-map (vec_items code.receivers) reader_of, code.receivers.ok.0)

  module _ (slots : Slots) (comes : vec_items slots.ins ≡ entries (value net) p) (wide : slots.width ≡ width (value net) p) where
    at-hand : vec_len slots.ins * slots.width ≡ length (entries (value net) p) * width (value net) p
    at-hand = ap₂ (λ a b. a * b) (slots.ins.ok.0 ∙ ap length comes) wide

    pub coded_so : (os : Vec Out Global) → map (λ o. o.link) (vec_items os) ≡ outs (value net).network p → map (λ o. vec_items o.coefficients) (vec_items os) ≡ picked (map vec_items (vec_items code.coefficients)) (outs (value net).network p)
        → All (λ o. vec_len o.coefficients ≡ vec_len slots.ins * slots.width) (vec_items os)
    coded_so os e f i d l = coded (value net) cs rs fits (accepted net) p (vec_items os) e f i d l ∙ sym at-hand

    pub within-so : (cur : Vec ℕ Global) → vec_items cur ≡ stands → (i : ℕ) → i < vec_len cur → get_or (vec_items cur) i 0 < vec_len slots.ins * slots.width
    within-so cur e i l = rw (e, at-hand) (within (value net) cs rs fits (accepted net) p i (omega (arith, cur.ok.0, ap length e)))

    pub single-so : eqb p 0 ≡ false → slots.width ≡ 1
    single-so h = wide ∙ cond-false (eqb p 0) (value net).rate 1 h

  module _ (cur : Vec ℕ Global) (rows : Vec (Vec ℕ Global) Global) (e : vec_items cur ≡ stands) (f : map vec_items (vec_items rows) ≡ (reader_for p (value net).receivers rs).rows) where
    as-many : vec_len cur ≡ length stands
    as-many = cur.ok.0 ∙ ap length e

    pub square-so : vec_len rows ≡ vec_len cur
    square-so = rows.ok.0 ∙ square (value net) cs rs fits (accepted net) p (vec_items rows) f ∙ sym as-many

    pub long_so : All (λ row. vec_len row ≡ vec_len cur) (vec_items rows)
    long_so j d l = long (value net) cs rs fits (accepted net) p (vec_items rows) f j d l ∙ sym as-many

  pub works : (d : Node) → d.source ≡ eqb p 0 → vec_items d.slots.ins ≡ entries (value net) p → d.slots.width ≡ width (value net) p
      → goes d ≡ outs (value net).network p → map (λ o. vec_items o.coefficients) (vec_items d.outs) ≡ picked (map vec_items (vec_items code.coefficients)) (outs (value net).network p)
      → vec_items d.current ≡ stands → map vec_items (vec_items d.rows) ≡ (reader_for p (value net).receivers rs).rows
      → Works (value net) (map vec_items (vec_items code.coefficients)) (map reader_of (vec_items code.receivers)) p d
  works d source comes wide go coeffs cur rows =
      record {
        source = source;
        wide = wide;
        comes = comes;
        goes = go;
        sends = λ k h bs. ap (λ q. mixed byte_field 1024 q bs) (sends (value net) cs rs fits (accepted net) p (vec_items d.outs) go coeffs k h);
        reads = λ bs. ap₂ (λ ro cu. read_by byte_field 1024 ro (map (λ i. row_at bs i) cu)) rows cur ∙ reads (value net) cs rs fits (accepted net) p bs;
      }

-- a receiver is there, or the place isn't
module _ (net : Net) (q : Plan) (p : ℕ) (r : Result Node NodeError) where
  receiver-same : (b : Bool) → b ≡ false → Begun (value net) q p (refusal (value net) q p) r → Begun (value net) q p (cond b 9 (refusal (value net) q p)) r
  receiver-same b e h = subst (λ v. Begun (value net) q p (cond v 9 (refusal (value net) q p)) r) (sym e) h

  pub receiver-there : is_in p (value net).receivers ≡ true → Begun (value net) q p (refusal (value net) q p) r → Begun (value net) q p (receiver_refusal (value net) q p) r
  receiver-there h = receiver-same (ltb p (value net).network.nodes && not (is_in p (value net).receivers)) (and_right _ _ (not_from_true _ h))

  pub place-missing : (value net).network.nodes ≤ p → Begun (value net) q p (refusal (value net) q p) r → Begun (value net) q p (receiver_refusal (value net) q p) r
  place-missing h = receiver-same (ltb p (value net).network.nodes && not (is_in p (value net).receivers)) (and_left _ _ (le-ltb p (value net).network.nodes h))

pub listed : (p : ℕ) (ks qs : List ℕ) (r : Bool) → r ≡ true → IsAnyAnswer (λ k b. eqb k p ≡ b) ks r → ks ≡ qs → is_in p qs ≡ true
listed p ks qs false t h e = absurd (both_ways false refl t)
listed p ks qs true t h e = ap (is_in p) (sym e) ∙ in-at p ks h.0 h.1 (eqb-true (get_or ks h.0 0) p (h.2 0))

pub no-receiver : (net : Net) (q : Plan) (p : ℕ) (ks : List ℕ) (r : Bool) → p < net.network.nodes → r ≡ false → IsAnyAnswer (λ k b. eqb k p ≡ b) ks r → ks ≡ (value net).receivers → receiver_refusal (value net) q p ≡ 9
no-receiver net q p ks true l t h e = absurd (both_ways true t refl)
no-receiver net q p ks false l t h e =
    let none : is_in p (value net).receivers ≡ false = ap (is_in p) (sym e) ∙ not_in p ks (λ i m d. both_ways _ (h i 0 (omega arith) m) (eq-eqb (get_or ks i 0) p d)) in
    cond-true (ltb p net.network.nodes && not (is_in p (value net).receivers)) 9 _ (and_from _ _ (lt-ltb p net.network.nodes l) (ap not none))

-- what comes in doesn't change by what a node works
pub works-on : (n : Multicast) (coeffs : List (List ℕ)) (readers : List Reader) (p : ℕ) (d e : Node) → Alike d e → Works n coeffs readers p d → Works n coeffs readers p e
works-on n coeffs readers p d e h w =
    record {
      source = h.source ∙ w.source;
      wide = h.width ∙ w.wide;
      comes = ap vec_items h.ins ∙ w.comes;
      goes = ap (λ os. map (λ o. o.link) (vec_items os)) h.outs ∙ w.goes;
      sends = λ k t bs. ap (λ os. mixed byte_field 1024 (coefficients_of k (vec_items os)) bs) h.outs ∙ w.sends k t bs;
      reads = λ bs. ap₂ (λ cu ro. read_by byte_field 1024 (map vec_items (vec_items ro)) (map (λ i. row_at bs i) (vec_items cu))) h.current h.rows ∙ w.reads bs;
    }
