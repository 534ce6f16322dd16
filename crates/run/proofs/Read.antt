-- What a receiver reads is the message if each of its packets is; and that is what the plan's readers read from what came in.
use Rattle.std.proofs.Common.{◌≡◌, ℕ, ◌+◌, ◌-◌, ◌*◌, ◌<◌, Bool, true, false, not, nat_eq, List, [], length, get_or, drop, vec_items, vec_len, sym, refl, ap, ◌∙◌, ap₂, arith}
use Rattle.std.specs.Bool.{MatchBool}
use Rattle.std.specs.List.{flat_map}
use Rattle.std.specs.Simd.{first_chunks}
use Rattle.std.specs.Cmp.Lexicographic.{told_text}
use lib.Pointwise.{pointwise}
use Rattle.std.proofs.lemmas.List.FromFn.{length-map-range_with_len, get_or-map-range_with_len}
use Rattle.std.proofs.lemmas.List.{ext_get_or, length-map, length_push, length-take-le, length-drop, get_or-take, get_or-drop, get_or_read_under}
use Rattle.std.proofs.lemmas.Bool.{both_ways}
use Rattle.gf.proofs.Fields.{byte_field}
use Rattle.linear.specs.Transport.{Message}
use Rattle.network.specs.Network.{Multicast, Accepted}
use Rattle.network.specs.Values.{value}
use Rattle.network.specs.declared.net.Multicast.{Multicast as Net}
use Rattle.network.proofs.Sound.{accepted}
use Rattle.network_cuts.specs.Scheme.{Packet, got}
use Rattle.relay_theory.specs.Relay.{any}
use Rattle.relay_theory.proofs.Finds.{in-any, numbers-in}
use Rattle.run_theory.specs.Run.{ins}
use Rattle.planner_theory.specs.Promise.{reader_at}
use Rattle.delivery_theory.specs.Work.{working, reading}
use Rattle.delivery_theory.proofs.Delivers.{reads-what-came}
use Rattle.relay_memory.specs.Memory.{part, cut}
use Rattle.relay_memory.specs.Values.{over_in}
use Rattle.relay_memory.proofs.Parts.{cut-chunks}
use Rattle.relay_node.specs.Values.{reading as reading_of}
use Rattle.relay_node.specs.declared.node.Node.{Node}
use Rattle.run.specs.Hearing.{Tells, Hears, HasAll}
use Rattle.run.specs.declared.player.Player.{Player}

pub length-reading : (d : Node) (bs : List Packet) → length (reading_of d bs) ≡ length (vec_items d.current)
length-reading d bs = length-map _ _ ∙ length-map _ _ ∙ omega (arith, d.square, d.rows.ok.0, d.current.ok.0)

pub length_cut : (h : ℕ) (bytes : List ℕ) → length (cut h bytes) ≡ h
length_cut h bytes = length-map-range_with_len _ 0 h

cut_at : (h : ℕ) (bytes : List ℕ) (k : ℕ) → k < h → get_or (cut h bytes) k [] ≡ part 1024 k bytes
cut_at h bytes k l = get_or-map-range_with_len (λ j. part 1024 j bytes) 0 h k k [] l (omega arith)

pub same-message : (d : Node) (bs : List Packet) (h : ℕ) (bytes : List ℕ) → length (vec_items d.current) ≡ h
    → ((k : ℕ) → k < h → get_or (reading_of d bs) k [] ≡ part 1024 k bytes) → reading_of d bs ≡ cut h bytes
same-message d bs h bytes many each =
    ext_get_or [] (reading_of d bs) (cut h bytes) (length-reading d bs ∙ many ∙ sym (length_cut h bytes))
    (λ k l. let i : k < h = omega (arith, length-reading d bs) in each k i ∙ sym (cut_at h bytes k i))

pub same-packet : (d : Node) (bs : List Packet) (h : ℕ) (bytes : List ℕ) (k : ℕ) → k < h → reading_of d bs ≡ cut h bytes → get_or (reading_of d bs) k [] ≡ part 1024 k bytes
same-packet d bs h bytes k l e = ap (λ ms. get_or ms k []) e ∙ cut_at h bytes k l

message : (h : ℕ) (bytes : List ℕ) → length bytes ≡ h * 1024 → ((j : ℕ) → get_or bytes j 0 < 256) → Message byte_field 1024 h (cut h bytes)
message h bytes long small =
    record {
      many = length_cut h bytes;
      long = λ k l. ap length (cut_at h bytes k l) ∙ length-take-le 1024 (drop (k * 1024) bytes) (omega (arith, length-drop (k * 1024) bytes));
      small = λ k i l j. rw (cut_at h bytes k l) (rw (get_or-take 1024 (drop (k * 1024) bytes) i 0 j) (rw (get_or-drop (k * 1024) bytes i 0) (small (k * 1024 + i))));
    }

module _ (m : Multicast) (ok : Accepted m) (y : Player) (i : ℕ) (l : i < length m.receivers) (bytes : List ℕ) (played : 0 < y.round) (n : Node)
    (n-is : (d : Node) → n ≡ get_or (vec_items y.nodes) (get_or m.receivers i 0) d) (r : Bool)
    (t : Tells r (reading_of n (flat_map (λ b. b) (over_in n.slots (y.round - 1)).came) ≡ cut m.rate bytes)) where
  pub hears : Hears m y i bytes r
  hears cs rs c msgs w e long some =
      let place = ok.placed i l in
      let many : length msgs ≡ y.round - 1 = omega (arith, w.number, ap length e, length_push msgs (cut m.rate bytes)) in
      let hold : flat_map (λ b. b) (over_in n.slots (y.round - 1)).came ≡ got m.network (working cs) (get_or m.receivers i 0) (cut m.rate bytes) =
      ap₂ (λ (u : Node) k. flat_map (λ b. b) (over_in u.slots k).came) (n-is n) (sym many) ∙ w.last (get_or m.receivers i 0) n msgs (cut m.rate bytes) place.0 place.1 some e in
      let is : reading_of n (flat_map (λ b. b) (over_in n.slots (y.round - 1)).came) ≡ reading m rs (get_or m.receivers i 0) (got m.network (working cs) (get_or m.receivers i 0) (cut m.rate bytes)) =
      ap₂ (λ (u : Node) bs. reading_of u bs) (n-is n) hold ∙ (w.fitted.works (get_or m.receivers i 0) n place.1).reads _ in
      ((λ h. sym is ∙ t.0 h), (λ h. t.1 (is ∙ h)))

  pub has_all : ((j : ℕ) → get_or bytes j 0 < 256) → HasAll m y bytes r
  has_all small cs rs c msgs w e long serves named =
      let leads = serves.lead i 0 l (omega (arith, ok.rates.0)) in
      let k : ℕ = get_or (reader_at rs i).links 0 0 in
      let some : any (ins m.network (get_or m.receivers i 0)) ≡ true = in-any _ _ (numbers-in (λ l. l.to) (get_or m.receivers i 0) m.network.links 0 k k (omega arith) leads.0 leads.1) in
      (hears cs rs c msgs w e long some).1 (reads-what-came m ok cs rs serves named i l (cut m.rate bytes) (message m.rate bytes long small))

turned : (b r : Bool) → r ≡ not b → not r ≡ b
turned true r e = ap not e
turned false r e = ap not e

tells-not : {A : Type 0} → (A → ⊥) → Tells false A
tells-not o = ((λ e. absurd (both_ways false refl e)), (λ a. absurd (o a)))

pub receiver-at : (net : Net) (i x : ℕ) → i < vec_len net.receivers → x ≡ get_or (vec_items net.receivers) i x → get_or (vec_items net.receivers) i 0 ≡ x
receiver-at net i x l e = sym (get_or_read_under (vec_items net.receivers) i _ x 0 e l net.receivers.ok.0)

pub receiver-within : (net : Net) (i x : ℕ) → i < vec_len net.receivers → x ≡ get_or (vec_items net.receivers) i x → x < net.network.nodes
receiver-within net i x l e = omega (arith, (net.placed i l).1, receiver-at net i x l e)

-- of a node that was read at the place of a receiver
module _ (net : Net) (y : Player) (i x : ℕ) (bytes : List ℕ) (n : Node) (l : i < vec_len net.receivers) (x-is : x ≡ get_or (vec_items net.receivers) i x) (every : vec_len y.nodes ≡ net.network.nodes)
    (n-is : n ≡ get_or (vec_items y.nodes) x n) (played : 0 < y.round) (small : (j : ℕ) → get_or bytes j 0 < 256) where
  at_place : (d : Node) → n ≡ get_or (vec_items y.nodes) (get_or (vec_items net.receivers) i 0) d
  at_place d =
      get_or_read_under (vec_items y.nodes) x _ n d n-is (omega (arith, every, receiver-within net i x l x-is)) y.nodes.ok.0
      ∙ ap (λ p. get_or (vec_items y.nodes) p d) (sym (receiver-at net i x l x-is))

  pub heard : (r : Bool) → Tells r (reading_of n (flat_map (λ b. b) (over_in n.slots (y.round - 1)).came) ≡ cut net.rate bytes) → Hears (value net) y i bytes r × HasAll (value net) y bytes r
  heard r t =
      let h : i < length (vec_items net.receivers) = omega (arith, net.receivers.ok.0) in
      (hears (value net) (accepted net) y i h bytes played n at_place r t, has_all (value net) (accepted net) y i h bytes played n at_place r t small)

  -- each packet is the same
  pub heard_all : vec_len n.current ≡ net.rate → ((k : ℕ) → k < net.rate → get_or (reading_of n (flat_map (λ b. b) (over_in n.slots (y.round - 1)).came)) k [] ≡ part 1024 k bytes)
      → Hears (value net) y i bytes true × HasAll (value net) y bytes true
  heard_all many each = heard true ((λ _. same-message n _ net.rate bytes (omega (arith, n.current.ok.0)) each), (λ _. refl))

  -- there are more or fewer
  pub heard-other : (vec_len n.current ≡ net.rate → ⊥) → Hears (value net) y i bytes false × HasAll (value net) y bytes false
  heard-other o = heard false (tells-not (λ e. o (omega (arith, n.current.ok.0, ap length e, length-reading n (flat_map (λ b. b) (over_in n.slots (y.round - 1)).came), length_cut net.rate bytes))))

  -- one differs
  pub heard-not : (k : ℕ) → k < net.rate → (get_or (reading_of n (flat_map (λ b. b) (over_in n.slots (y.round - 1)).came)) k [] ≡ part 1024 k bytes → ⊥) → Hears (value net) y i bytes false × HasAll (value net) y bytes false
  heard-not k h o = heard false (tells-not (λ e. o (same-packet n _ net.rate bytes k h e)))

-- the bytes cut into packets, as the program takes them
pub chunk_at : (bytes : List ℕ) (m : ℕ) (packets : List Packet) → packets ≡ first_chunks 1024 m bytes → (j : ℕ) → j < length packets → get_or packets j [] ≡ part 1024 j bytes
chunk_at bytes m packets e j l =
    let is : packets ≡ cut m bytes = e ∙ cut-chunks m m bytes refl in
    ap (λ ps. get_or ps j []) is ∙ cut_at m bytes j (omega (arith, ap length is, length_cut m bytes))

-- what a test of two packets tells
pub differ : (xs ys : List ℕ) (r : Bool) → r ≡ not (pointwise nat_eq xs ys) → MatchBool r (xs ≡ ys → ⊥) (xs ≡ ys)
differ xs ys true e = told_text xs ys false (turned (pointwise nat_eq xs ys) true e)
differ xs ys false e = told_text xs ys true (turned (pointwise nat_eq xs ys) false e)
