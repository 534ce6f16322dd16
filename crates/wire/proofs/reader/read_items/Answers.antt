use Rattle.std.proofs.Common.{◌≡◌, ℕ, ◌+◌, ◌<◌, ◌≤◌, Bool, true, false, cond, ◌&&◌, ◌||◌, eqb, List, length, get_or, drop, sym, refl, ap, ◌∙◌, subst, ap₂, arith}
use Rattle.std.proofs.lemmas.Bool.{ltb-true, ltb-false, and_left, and_right, ne_eqb}
use Rattle.std.proofs.lemmas.Bool.Decides.{nat_tests}
use Rattle.network.specs.Network.{Multicast}
use Rattle.network.specs.Values.{value}
use Rattle.wire.specs.Format.{got, fault, and_then, body, served_items, cut_item, items}
use Rattle.wire.specs.Values.{plan, Reads}
use Rattle.wire.proofs.Parsing.{item-short, item-good, item-bad}
use Rattle.wire.proofs.reader.read_items.Goals as goal

module _ (m : Multicast) (at : ℕ) (bs : List ℕ) where
  abbrev known : Bool
  known = eqb (get_or bs 0 0) 2 && (eqb (get_or bs 1 0) 1 || eqb (get_or bs 1 0) 2)

  short : length bs < 2 → items m at bs ≡ fault 1 at (at + 2)
  short h = ap (λ r. and_then r (body m)) (item-short 2 (cond known 0 1) (get_or bs 1 0) at bs h)

  unknown : 2 ≤ length bs → known ≡ false → items m at bs ≡ fault 1 at (at + 2)
  unknown h e =
      let f : ◌≡◌ {A = ℕ} (cond known 0 1) 1 = rw e in
      ap (λ r. and_then r (body m)) (item-bad 2 (cond known 0 1) (get_or bs 1 0) at bs h (λ z. omega (arith, f)) ∙ ap (λ k. fault k at (at + 2)) f)

  of-kind : (kind : ℕ) → 2 ≤ length bs → get_or bs 0 0 ≡ 2 → get_or bs 1 0 ≡ kind → (eqb kind 1 || eqb kind 2) ≡ true → items m at bs ≡ body m kind (at + 2) (drop 2 bs)
  of-kind kind h first second e =
      let good : ◌≡◌ {A = ℕ} (cond known 0 1) 0 = ap₂ (λ x y. cond (eqb x 2 && (eqb y 1 || eqb y 2)) 0 1) first second ∙ ap (λ t. cond t 0 1) e in
      ap (λ r. and_then r (body m)) (item-good 2 (cond known 0 1) (get_or bs 1 0) at bs h good ∙ ap (λ k. got k (at + 2) (drop 2 bs)) second)

pub returns-in_default : goal.returns-in_default
returns-in_default c = (_, short (value c.args.net.now) c.args.rest.now.at c.args.rest.now.bytes.now (omega (arith, ltb-true)))

pub returns-then-first-ne2 : goal.returns-then-first-ne2
returns-then-first-ne2 c =
    let bs : List ℕ = c.args.rest.now.bytes.now in (
      _,
      unknown (value c.args.net.now) c.args.rest.now.at bs (omega (arith, ltb-false))
          (and_left (eqb (get_or bs 0 0) 2) (eqb (get_or bs 1 0) 1 || eqb (get_or bs 1 0) 2) (ne_eqb (get_or bs 0 0) 2 c.if-first-ne2.true)),
    )

pub returns-in-1 : goal.returns-in-1
returns-in-1 c =
    let m : Multicast = value c.args.net.now in
    let bs : List ℕ = c.args.rest.now.bytes.now in
    let at : ℕ = c.args.rest.now.at in
    let passed = ap₂ (served_items m) c.pass.ensures.at c.pass.ensures.bytes in
    subst (λ v. Reads plan v c.read_served.new.rest c.read_served.result) (passed ∙ sym (of-kind m at bs 1 (omega (arith, ltb-false)) c.if-first-ne2.false c.in-1.is refl)) c.read_served.ensures

pub returns-in-2 : goal.returns-in-2
returns-in-2 c =
    let m : Multicast = value c.args.net.now in
    let bs : List ℕ = c.args.rest.now.bytes.now in
    let at : ℕ = c.args.rest.now.at in
    let passed = ap₂ (cut_item m) c.pass-in-2.ensures.at c.pass-in-2.ensures.bytes in
    subst (λ v. Reads plan v c.read_cut.new.rest c.read_cut.result) (passed ∙ sym (of-kind m at bs 2 (omega (arith, ltb-false)) c.if-first-ne2.false c.in-2.is refl)) c.read_cut.ensures

pub returns-in_default-kind : goal.returns-in_default-kind
returns-in_default-kind c =
    let bs : List ℕ = c.args.rest.now.bytes.now in
    let other : (eqb (get_or bs 1 0) 1 || eqb (get_or bs 1 0) 2) ≡ false = grind (arith, nat_tests) in (
      _,
      unknown (value c.args.net.now) c.args.rest.now.at bs (omega (arith, ltb-false)) (and_right (eqb (get_or bs 0 0) 2) (eqb (get_or bs 1 0) 1 || eqb (get_or bs 1 0) 2) other),
    )
