use Rattle.std.proofs.Common.{◌≡◌, ℕ, ◌+◌, ◌≤◌, Bool, true, false, cond, not, ◌&&◌, ◌||◌, eqb, ltb, List, [], ◌∷◌, length, drop, sym, refl, ap, ◌∙◌, ap₂, inl, inr, arith}
use Rattle.std.specs.List.{list_any}
use Rattle.std.proofs.lemmas.List.{take_rest}
use Rattle.std.proofs.lemmas.Bool.{and_left, and_right, and_from, not_from_true, not_from_false, lt-ltb, le-ltb, cases_eq, eq-eqb, ne_eqb}
use Rattle.octets.specs.Words.{word_at}
use Rattle.network.specs.Network.{Multicast}
use Rattle.network.specs.Values.{value}
use Rattle.wire.specs.Plan.{unserved}
use Rattle.wire.specs.Format.{got, fault, cut_item, cut_fault, side_in, beyond, among}
use Rattle.wire.proofs.Parsing.{item-short, item-good, item-bad}
use Rattle.wire.proofs.reader.read_cut.Goals as goal
use Rattle.wire.proofs.reader.read_cut.Goals.{then-receiver-net-via-then-receiver-net, then-receiver-net-via-else-receiver-net+then-is_beyond}

-- the item by the receiver and the flags that were read
module _ (m : Multicast) (at : ℕ) (rest : List ℕ) (p : ℕ) (side : List Bool) (p-is : p ≡ word_at rest 0) (side-is : side ≡ side_in (drop 2 rest)) where
  abbrev inside : Bool
  inside = ltb p m.network.nodes && not (beyond m.network.nodes side)

  bad : (n : ℕ) → 34 ≤ length rest → cut_fault m p side ≡ n → (n ≡ 0 → ⊥) → cut_item m at rest ≡ fault n at (at + 34)
  bad n l e some =
      let f : cut_fault m (word_at rest 0) (side_in (drop 2 rest)) ≡ n = ap₂ (cut_fault m) (sym p-is) (sym side-is) ∙ e in
      item-bad 34 (cut_fault m (word_at rest 0) (side_in (drop 2 rest))) (unserved (word_at rest 0) (side_in (drop 2 rest))) at rest l (λ z. some (sym f ∙ z)) ∙ ap (λ k. fault k at (at + 34)) f

  outside : 34 ≤ length rest → inside ≡ false → cut_item m at rest ≡ fault 2 at (at + 34)
  outside l e = bad 2 l (ap (λ t. cond t (cond (among p m.receivers) 0 9) 2) e) (λ z. omega arith)

  nobody : 34 ≤ length rest → inside ≡ true → among p m.receivers ≡ false → cut_item m at rest ≡ fault 9 at (at + 34)
  nobody l e f = bad 9 l (ap₂ (λ t u. cond t (cond u 0 9) 2) e f) (λ z. omega arith)

  whole : 34 ≤ length rest → inside ≡ true → among p m.receivers ≡ true → cut_item m at rest ≡ got (unserved p side) (at + 34) (drop 34 rest)
  whole l e f =
      let g : cut_fault m (word_at rest 0) (side_in (drop 2 rest)) ≡ 0 = ap₂ (cut_fault m) (sym p-is) (sym side-is) ∙ ap₂ (λ t u. cond t (cond u 0 9) 2) e f in
      item-good 34 (cut_fault m (word_at rest 0) (side_in (drop 2 rest))) (unserved (word_at rest 0) (side_in (drop 2 rest))) at rest l g
      ∙ ap₂ (λ q s. got (unserved q s) (at + 34) (drop 34 rest)) (sym p-is) (sym side-is)

eqb_sym : (p q : ℕ) → eqb p q ≡ eqb q p
eqb_sym p q = elim (cases_eq p q) [ inl e ↦ eq-eqb p q e ∙ sym (eq-eqb q p (sym e)) | inr e ↦ ne_eqb p q e ∙ sym (ne_eqb q p (λ r. e (sym r))) ]

-- the definition as a search
as_search : (p : ℕ) (ps : List ℕ) → among p ps ≡ list_any (λ q. eqb q p) ps
unfolding among
as_search p [] = refl
as_search p (q ∷ ps) = ap₂ (λ t u. t || u) (eqb_sym p q) (as_search p ps)

pub returns-then-rest-lt34 : goal.returns-then-rest-lt34
returns-then-rest-lt34 c =
    let bs : List ℕ = c.args.rest.now.bytes.now in
    let side : List Bool = side_in (drop 2 bs) in
    (_, item-short 34 (cut_fault (value c.args.net.now) (word_at bs 0) side) (unserved (word_at bs 0) side) c.args.rest.now.at bs c.if-rest-lt34.true)

pub returns-then-receiver-net : goal.returns-then-receiver-net
returns-then-receiver-net c =
    let m : Multicast = value c.args.net.now in
    let bs : List ℕ = c.args.rest.now.bytes.now in
    let at : ℕ = c.args.rest.now.at in
    let p : ℕ = c.read_word-receiver.result in
    let side : List Bool = c.read_side-side.result in
    let flags : side ≡ side_in (drop 2 bs) = c.read_side-side.ensures ∙ ap side_in (take_rest bs 2) in (
      _,
      outside m at bs p side c.read_word-receiver.ensures flags c.if-rest-lt34.false
          (elim c.then-receiver-net.branch [
            | then-receiver-net-via-then-receiver-net w ↦ and_left (ltb p m.network.nodes) (not (beyond m.network.nodes side)) (le-ltb p m.network.nodes w.if-receiver-net.true)
            | then-receiver-net-via-else-receiver-net+then-is_beyond w ↦ and_right (ltb p m.network.nodes) (not (beyond m.network.nodes side)) (not_from_true (beyond m.network.nodes side) (sym w.if-is_beyond.ensures))
          ]),
    )

pub returns-then-not-contains : goal.returns-then-not-contains
returns-then-not-contains c =
    let m : Multicast = value c.args.net.now in
    let bs : List ℕ = c.args.rest.now.bytes.now in
    let at : ℕ = c.args.rest.now.at in
    let p : ℕ = c.read_word-receiver.result in
    let side : List Bool = c.read_side-side.result in
    let flags : side ≡ side_in (drop 2 bs) = c.read_side-side.ensures ∙ ap side_in (take_rest bs 2) in (
      _,
      nobody m at bs p side c.read_word-receiver.ensures flags c.if-rest-lt34.false
          (and_from (ltb p m.network.nodes) (not (beyond m.network.nodes side)) (lt-ltb p m.network.nodes c.if-receiver-net.false) (not_from_false (beyond m.network.nodes side) (sym c.if-is_beyond.ensures)))
          (as_search p m.receivers ∙ ap (list_any (λ q. eqb q p)) (sym c.deref.ensures.value) ∙ sym c.if-not-contains.ensures.value),
    )

pub returns : goal.returns
returns c =
    let m : Multicast = value c.args.net.now in
    let bs : List ℕ = c.args.rest.now.bytes.now in
    let at : ℕ = c.args.rest.now.at in
    let p : ℕ = c.read_word-receiver.result in
    let side : List Bool = c.read_side-side.result in
    let flags : side ≡ side_in (drop 2 bs) = c.read_side-side.ensures ∙ ap side_in (take_rest bs 2) in
    whole m at bs p side c.read_word-receiver.ensures flags c.if-rest-lt34.false
    (and_from (ltb p m.network.nodes) (not (beyond m.network.nodes side)) (lt-ltb p m.network.nodes c.if-receiver-net.false) (not_from_false (beyond m.network.nodes side) (sym c.if-is_beyond.ensures)))
    (as_search p m.receivers ∙ ap (list_any (λ q. eqb q p)) (sym c.deref.ensures.value) ∙ sym c.if-not-contains.ensures.value)
    ∙ rw (sym c.pass.ensures.at, sym c.pass.ensures.bytes)
