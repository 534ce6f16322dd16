use Rattle.std.proofs.Common.{◌≡◌, ℕ, List, [], ◌∷◌, ◌<◌, map, length, get_or, IfOk, Vec, Global, rules, ext_get_or, vec_items, sym, refl, ap, ◌∙◌, arith}
use Rattle.std.proofs.iter.runs.Sources.{ranges}
use lib.ListN.{length-map}
use Rattle.std.proofs.lemmas.Result.{IfOk-weaker}
use Rattle.linear.proofs.Lists.{get_d_map, get_d-table, length-table}
use Rattle.coding.proofs.Ended.{some_of}
use Rattle.gf_bytes.specs.declared.vector.Vector.{Vector}
use Rattle.linear.specs.Vectors.{at, row, table}
use Rattle.coding_steps.specs.Rows.{bytes_of}
use Rattle.coding.proofs.transposed.transposed.Goals as goal

-- a column, row by row
column-is : (rows : List Vector) (k : ℕ) → map (λ v. at v.bytes k) rows ≡ table (length rows) (λ j. at (row (bytes_of rows) j) k)
unfolding table
column-is [] k = refl
column-is (x ∷ rows) k = ap (λ q. at x.bytes k ∷ q) (column-is rows k)

pub returns : goal.returns
returns c =
    let rows = c.args.rows.now in
    let n : ℕ = length rows in
    let column : ℕ → List ℕ = λ k. table n (λ j. at (row (bytes_of rows) j) k) in
    let each : IfOk c.try_collect.result (λ v. (length (vec_items v) ≡ n)
    × ((k : ℕ) (d : Vec ℕ Global) → k < length (vec_items v) → vec_items (get_or (vec_items v) k d) ≡ map (λ v. at v.bytes k) rows)) = search (rules, ranges) in
    IfOk-weaker c.try_collect.result _ _
    (λ v e.
    ext_get_or [] (map vec_items (vec_items v)) (table n column) (length-map (vec_items v) vec_items ∙ e.0 ∙ sym (length-table n column))
    (λ k l.
    let l' : k < length (vec_items v) = omega (arith, length-map (vec_items v) vec_items) in
    let d : Vec ℕ Global = some_of (vec_items v) k l' in
    get_d_map vec_items (vec_items v) k d [] l' ∙ e.1 k d l' ∙ column-is rows k ∙ sym (get_d-table n k column [] (omega (arith, e.0))))) each
