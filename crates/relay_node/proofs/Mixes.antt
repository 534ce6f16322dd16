-- What a node sends or reads for a round is the sum of the packets of that round in memory, each times its coefficient.
use Rattle.std.proofs.Common.{◌≡◌, ℕ, ◌+◌, ◌-◌, ◌*◌, ◌%◌, ◌<◌, ◌≤◌, min, List, [], map, length, get_or, take, drop, vec_items, vec_len, Vec, sym, ap, ◌∙◌, ap₂, mod-lt, mul_assoc, arith}
use Rattle.std.specs.List.{flat_map}
use Rattle.std.specs.declared.alloc.Global.{Global}
use Rattle.std.proofs.lemmas.Nat.{mul-le}
use Rattle.std.proofs.lemmas.List.{get_or_read, get_or-map, length-map}
use Rattle.network_cuts.specs.Scheme.{Packet}
use Rattle.gf.specs.Sum.{sum}
use Rattle.gf_bytes.specs.Byte.{times}
use Rattle.gf_bytes.specs.Packet.{multiple_at, mix_at}
use Rattle.gf.proofs.Fields.{byte_field}
use Rattle.linear.specs.Vectors.{row as row_at, mixed}
use Rattle.relay_memory.specs.Values.{over_in}
use Rattle.relay_node.specs.Values.{goes, coefficients_of, scheme, reading}
use Rattle.relay_node.specs.declared.node.Node.{Node}
use Rattle.relay_node.specs.declared.node.Out.{Out}
use Rattle.relay_memory.proofs.Parts.{part_end, slice-part, joined-parts}
use Rattle.relay_memory.proofs.Steps.{links}
use Rattle.relay_node.proofs.Assembly.{coefficients-at}
use Rattle.relay_node.proofs.Sums.{mixed-all}

-- the packets that stand at given places
abbrev pub chosen : List ℕ → List Packet → List Packet
chosen places bs = map (λ i. row_at bs i) places

-- n is the number of links that come in, as the code has it
module _ (d : Node) (n : ℕ) (e : n ≡ vec_len d.slots.ins) where
  pub few-at-hand : n * d.slots.width ≤ 32768
  few-at-hand = mul-le n d.slots.width 1024 32 (omega (arith, d.slots.few)) d.slots.narrow

  pub slots_end : (round : ℕ) → round % 3 * (n * d.slots.width) + n * d.slots.width ≤ vec_len d.slots.packets
  slots_end round = rw (d.slots.level, mul_assoc) (rw (sym e) (part_end (round % 3) 3 (n * d.slots.width) (mod-lt round (omega arith))))

  -- all packets that came in for a round lie side by side
  pub all-came : (round : ℕ) (ps : List Packet) → ps ≡ vec_items d.slots.packets
      → take (round % 3 * (n * d.slots.width) + n * d.slots.width - round % 3 * (n * d.slots.width)) (drop (round % 3 * (n * d.slots.width)) ps) ≡ flat_map (λ m. m) (over_in d.slots round).came
  all-came round ps f =
      let h : ℕ = length (vec_items d.slots.ins) * d.slots.width in
      slice-part (round % 3) h (n * d.slots.width) (vec_items d.slots.packets) ps (ap (λ k. k * d.slots.width) (e ∙ links d.slots)) f
      ∙ sym (joined-parts (length (vec_items d.slots.ins)) d.slots.width (round % 3 * length (vec_items d.slots.ins)) (vec_items d.slots.packets)
      ∙ ap (λ k. take h (drop k (vec_items d.slots.packets))) (mul_assoc (round % 3) (length (vec_items d.slots.ins)) d.slots.width))

module _ (d : Node) where
  -- o: link out[out], and cs its coefficients, as the code reads them; came: what is at hand
  pub mix-is : (out : ℕ) (o : Out) (cs : List ℕ) (came : List Packet) → out < vec_len d.outs → o ≡ get_or (vec_items d.outs) out o → cs ≡ vec_items o.coefficients
      → (r : Packet) → length r ≡ 1024 → ((k : ℕ) → k < 1024 → get_or r k 0 ≡ mix_at cs came k)
      → r ≡ scheme d (get_or (goes d) out 0) came
  mix-is out o cs came l e f r long h =
      let k : o.link ≡ get_or (goes d) out 0 = ap (λ o. o.link) e ∙ sym (get_or-map (λ o. o.link) (vec_items d.outs) out o 0 (omega (arith, d.outs.ok.0))) in
      mixed-all _ _ r long h
      ∙ ap (λ q. mixed byte_field 1024 q came) (f ∙ sym (coefficients-at (vec_items d.outs) (λ i j a b. d.apart i j a (omega (arith, d.outs.ok.0))) out o (omega (arith, d.outs.ok.0)) e) ∙ ap (λ k. coefficients_of k (vec_items d.outs)) k)

  -- row: row j, as the code reads it
  module _ (j : ℕ) (l : j < vec_len d.current) (row : Vec ℕ Global) (is : row ≡ get_or (vec_items d.rows) j row) (came : List Packet) where
    pub row-long : vec_len row ≡ vec_len d.current
    row-long = ap vec_len is ∙ d.long j row (omega (arith, d.square, d.rows.ok.0))

    -- one more multiple is added
    pub multiple-is : (i x c k : ℕ) → i < length (vec_items d.current) → x ≡ get_or (vec_items d.current) i 0 → c ≡ get_or (vec_items row) i c
        → times c (get_or (get_or came x []) k 0) ≡ multiple_at (vec_items row) (chosen (vec_items d.current) came) k i
    multiple-is i x c k li ex ec =
        ap₂ (λ a b. times a (get_or b k 0)) (get_or_read (vec_items row) i c (omega (arith, row.ok.0, row-long, d.current.ok.0)) ec 0)
        (ap (λ y. get_or came y []) ex ∙ sym (get_or-map (λ y. get_or came y []) (vec_items d.current) i 0 [] li))

    pub read_is : (r : Packet) → length r ≡ 1024 → ((k : ℕ) → k < 1024 → get_or r k 0 ≡ sum (length (vec_items d.current)) (multiple_at (vec_items row) (chosen (vec_items d.current) came) k))
        → r ≡ get_or (reading d came) j []
    read_is r long all =
        let bs : List Packet = chosen (vec_items d.current) came in
        let both : length (vec_items d.current) ≡ min (length (vec_items row)) (length bs) = omega (arith, row.ok.0, row-long, d.current.ok.0, length-map (vec_items d.current) (λ y. get_or came y [])) in
        let there : j < length (vec_items d.rows) = omega (arith, d.square, d.rows.ok.0) in
        mixed-all (vec_items row) bs r long (λ k i. all k i ∙ ap (λ y. sum y (multiple_at (vec_items row) bs k)) both)
        ∙ ap (λ q. mixed byte_field 1024 q bs) (ap vec_items is ∙ sym (get_or-map vec_items (vec_items d.rows) j row [] there))
        ∙ sym (get_or-map (λ q. mixed byte_field 1024 q bs) (map vec_items (vec_items d.rows)) j [] [] (omega (arith, length-map (vec_items d.rows) (λ v. vec_items v))))
