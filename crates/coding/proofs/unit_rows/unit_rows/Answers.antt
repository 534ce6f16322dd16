use Rattle.std.proofs.Common.{◌≡◌, ℕ, ◌<◌, length, get_or, set, replicate, vec_items, IfOk, sym, ap, ◌∙◌, arith, rules}
use Rattle.std.proofs.iter.runs.Sources.{ranges}
use Rattle.std.proofs.lemmas.Result.{IfOk-weaker}
use Rattle.gf_bytes.specs.declared.vector.Vector.{Vector}
use Rattle.linear.specs.Vectors.{at}
use Rattle.linear.proofs.Lists.{units-at}
use Rattle.coding_steps.proofs.Renewal.{count_at, bytes-at}
use Rattle.coding_steps.proofs.AtHand.{unit-at}
use Rattle.coding.proofs.Ended.{some_of}
use Rattle.coding.proofs.unit_rows.unit_rows.Goals.{After-collect}
use Rattle.coding.proofs.unit_rows.unit_rows.Goals as goal

each : (c : After-collect)
    → IfOk c.collect.result (λ v. (length (vec_items v) ≡ c.args.h)
    × ((i : ℕ) (d : Vector) → i < length (vec_items v) → ((get_or (vec_items v) i d).count ≡ c.args.h) × ((get_or (vec_items v) i d).bytes ≡ set (replicate 32 0) i 1)))
each c = search (rules, ranges)

pub returns-clause-counted : goal.returns-clause-counted
returns-clause-counted c =
    IfOk-weaker c.collect.result _ _
    (λ v e i l. let d : Vector = some_of (vec_items v) i l in count_at (vec_items v) i d l ∙ (e.1 i d l).0) (each (goal.at.returns-clause-counted c).After-collect)

pub returns-clause-units : goal.returns-clause-units
returns-clause-units c =
    IfOk-weaker c.collect.result _ _
    (λ v e i k li lk.
    let l : i < length (vec_items v) = omega (arith, e.0) in
    let d : Vector = some_of (vec_items v) i l in
    ap (λ q. at q k) (bytes-at (vec_items v) i d l ∙ (e.1 i d l).1) ∙ unit-at 32 i k (omega (arith, c.requires)) (omega (arith, c.requires)) ∙ sym (units-at c.args.h i k li lk))
    (each (goal.at.returns-clause-units c).After-collect)
