use Rattle.std.proofs.Common.{◌≡◌, ℕ, ◌+◌, true, false, eqb, List, [], ◌∷◌, length, sym, refl, ap, arith}
use Rattle.std.proofs.lemmas.Bool.{eqb-true, both_ways}
use Rattle.std.proofs.lemmas.Result.{err_from_is_err_and}
use Rattle.network.specs.Network.{Multicast}
use Rattle.network.specs.Values.{value}
use Rattle.wire.specs.Plan.{Plan}
use Rattle.wire.specs.Format.{got, fault, and_then, items, end, read_plan}
use Rattle.wire.specs.Values.{plan, Refuses, Settled}
use Rattle.wire.specs.Faults.{number}
use Rattle.wire.specs.declared.fault.ReadError.{ReadError}
use Rattle.wire.specs.declared.fault.ReadError.TheVariants.{Faulty, Memory}
use Rattle.wire.proofs.Reading.{refuses-whole}
use Rattle.wire.proofs.Whole.{local, kept}
use Rattle.wire.proofs.reader.read.Goals as goal

settled : (m : Multicast) (bs : List ℕ) (e : ReadError) → Refuses (read_plan m bs) e → Settled m bs e
settled m bs (Faulty f at) t = let l = local m bs (number f) at t.0 t.1 in (t.0, l.0, l.1)
settled m bs (Memory at) t = tt

pub returns-in_err-plan : goal.returns-in_err-plan
returns-in_err-plan c =
    let m : Multicast = value c.args.net.now in
    let bs : List ℕ = c.args.bytes.now in
    let p = err_from_is_err_and c.from_residual.result c.from_residual.ensures.1 in
    let told = refuses-whole m bs _ c.in_err-plan.ensures in
    rw (p.1, p.2) (record { answer = told; fits = tt; kept = tt; settled = settled m bs _ told })

-- bytes are left over
left_over : (m : Multicast) (bs left : List ℕ) (x : Plan) (at : ℕ) → items m 0 bs ≡ got x at left → false ≡ eqb (length left) 0 → read_plan m bs ≡ fault 1 at (at + 1)
unfolding read_plan
left_over m bs [] x at e h = absurd (both_ways true (sym h) refl)
left_over m bs (b ∷ left) x at e h = ap (λ r. and_then r end) e

pub returns-then-not-is_empty : goal.returns-then-not-is_empty
returns-then-not-is_empty c =
    let m : Multicast = value c.args.net.now in
    let bs : List ℕ = c.args.bytes.now in
    let left = c.read_items.new.rest in
    let told = left_over m bs left.bytes.now (plan c.in_ok-plan.plan) left.at c.in_ok-plan.ensures c.if-not-is_empty.ensures in
    let l = local m bs 1 left.at (left.at + 1) told in
    record { answer = (left.at + 1, told); fits = tt; kept = tt; settled = (left.at + 1, l.0, l.1) }

all : (m : Multicast) (bs left : List ℕ) (x : Plan) (at : ℕ) → items m 0 bs ≡ got x at left → true ≡ eqb (length left) 0 → read_plan m bs ≡ got x at []
unfolding read_plan
all m bs [] x at e h = ap (λ r. and_then r end) e
all m bs (b ∷ left) x at e h = let none : length (b ∷ left) ≡ 0 = eqb-true (length (b ∷ left)) 0 (sym h) in absurd (omega arith)

pub returns : goal.returns
returns c =
    let m : Multicast = value c.args.net.now in
    let bs : List ℕ = c.args.bytes.now in
    let left = c.read_items.new.rest in
    let x : Plan = plan c.in_ok-plan.plan in
    let read = all m bs left.bytes.now x left.at c.in_ok-plan.ensures c.if-not-is_empty.ensures in
    let k = kept m bs x left.at [] (λ i. (c.type_inv.bytes i).fits) read in
    record { answer = (left.at, read); fits = k.0; kept = k.1; settled = tt }
