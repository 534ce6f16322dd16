use Rattle.std.proofs.Common.{◌≡◌, suc, min, List, [], ◌∷◌, map, vec_items, IfOk, refl, ◌∙◌, ap₂, arith, rules, tests}
use Rattle.std.proofs.lemmas.Result.{IfOk-weaker}
use Rattle.std.proofs.lemmas.Iterator.{items_from_collect, YieldsList-from_slice, YieldsList-from_map}
use Rattle.gf_bytes.specs.Vector.{dot_of}
use Rattle.gf_bytes.specs.declared.vector.Vector.{Vector}
use Rattle.coding_steps.specs.Rows.{bytes_of, AllCounted}
use Rattle.coding_steps.specs.Products.{product_of}
use Rattle.coding_steps.specs.declared.product.Product.{Product}
use Rattle.coding_steps.proofs.Renewal.{product_is}
use Rattle.coding_steps.proofs.serving.products.Goals as goal

-- what the code makes of a row
abbrev made : Vector → Vector → Vector → Product
made v u x = record { before = dot_of (min x.count v.count) x.bytes v.bytes; added = dot_of (min x.count u.count) x.bytes u.bytes }

made-all : (v u : Vector) → u.count ≡ v.count → (rows : List Vector) → AllCounted v.count rows → map (made v u) rows ≡ map (product_of v.count v.bytes u.bytes) (bytes_of rows)
made-all v u e [] counted = refl
made-all v u e (x ∷ rows) counted =
    let ex : x.count ≡ v.count = counted 0 (omega arith) in
    ap₂ (λ p q. p ∷ q) (ap₂ (λ a b. record { before = a; added = b }) (product_is v.count x v ex refl) (product_is v.count x u ex e))
    (made-all v u e rows (λ i l. counted (suc i) (omega arith)))

pub returns : goal.returns
returns c =
    let v = c.args.vector in
    let u = c.args.added in
    let rows = c.args.rows.now in
    let items : IfOk c.collect.result (λ ps. vec_items ps ≡ map (made v u) rows) =
    items_from_collect _ c.collect.ensures.ran (YieldsList-from_map _ (made v u) (YieldsList-from_slice rows (cc)) c.map.ensures.closure (λ x r q k. search (rules, tests))) in
    IfOk-weaker c.collect.result _ _ (λ ps e. e ∙ made-all v u c.requires.counted.1 rows c.requires.counted.0) items
