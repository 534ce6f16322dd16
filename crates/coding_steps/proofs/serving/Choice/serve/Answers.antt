use Rattle.std.proofs.Common.{◌≡◌, ◌++◌, [], ◌∷◌, map, length, take, drop, sym, refl, ap, ◌∙◌, subst, ap₂, arith}
use lib.Bits.{bit_xor}
use Rattle.std.proofs.lemmas.List.{with_items_is}
use Rattle.gf.proofs.Fields.{byte_field}
use Rattle.linear.specs.Vectors.{plus, scale, dot}
use Rattle.linear.specs.Lowest.{lowest}
use Rattle.coding_theory.specs.Coding.{trial}
use Rattle.coding_steps.specs.Carriers.{carrier}
use Rattle.coding_steps.specs.Rows.{bytes_of}
use Rattle.coding_steps.specs.Products.{product_of, all_served, Added}
use Rattle.coding_steps.proofs.Renewal.{product_is}
use Rattle.coding_steps.proofs.serving.Choice.serve.Goals as goal

pub returns-clause-served : goal.returns-clause-served
returns-clause-served c =
    let s = c.args.self.now in
    let v = s.vector in
    let u = c.args.added in
    let e : c.dot.result ≡ dot byte_field v.count c.args.row.bytes v.bytes = c.dot.ensures ∙ product_is v.count c.args.row v c.requires.counted.0 refl in
    let t : c.lowest_serving-t.result ≡ lowest (all_served (map (product_of v.count v.bytes u.bytes) (bytes_of (s.rows.items ++ c.args.row ∷ [])))) 255 1 =
    c.lowest_serving-t.ensures
    ∙ ap (λ ps. lowest (all_served ps) 255 1) (c.deref-2.ensures.value ∙ c.in-Ok.ensures ∙ ap (λ q. map (product_of v.count v.bytes u.bytes) (bytes_of q)) (c.deref.ensures.value ∙ c.in_ok-push.ensures.items)) in
    let cs = c.add_at.new.coefficients in
    record {
      served = λ ne. absurd (ne (sym e ∙ c.if-dot-ne0.false));
      added = λ z.
          subst (λ n. Added n u.bytes (trial (carrier c.args.packet) (map carrier s.hands.items)) s.coefficients.items v (take s.coefficients.len (cs ++ drop (length cs) s.coefficients.items)) c.plus-self.result) t
          (record {
            coefficients = with_items_is s.coefficients cs (omega (arith, c.add_at.auto.coefficients, c.deref_mut.ensures.len)) ∙ c.add_at.ensures
                ∙ ap₂ (λ a b. plus a (scale byte_field c.lowest_serving-t.result (trial (carrier c.args.packet) (map carrier b)))) c.deref_mut.ensures.value c.deref-3.ensures.value;
            count = omega (arith, c.plus-self.ensures.count, c.scaled.ensures.count, c.requires.counted.1);
            bytes = λ x l. c.plus-self.ensures.bytes x l ∙ ap (bit_xor _) (c.scaled.ensures.bytes x l);
          });
    }
