use Rattle.std.proofs.Common.{eqb, length, map, vec_items, refl, ap, ◌∙◌, ap₂, arith, rules, tests}
use Rattle.wire.specs.Values.{reader}
use Rattle.delivery_theory.specs.Work.{reader_for}
use Rattle.relay_node.specs.Assembly.{picked, current}
use Rattle.relay_node.proofs.Assembled.{links-in, links-out, few-links, outs-rise, picks, level, coded_so, within-so, single-so, square-so, long_so, works}
use Rattle.relay_node.proofs.node_new.assemble.Goals as goal

pub goes-requires : goal.goes-requires
goes-requires c =
    let net = c.args.net.now in
    let code = c.args.code.now in
    let p = c.args.place in
    let go = links-out net p _ _ (c.in_ok-links.ensures (λ l. eqb p l.from) (λ x b h. search (rules, tests))) c.deref-2.ensures.value in
    λ i l. omega (arith, picks net code c.requires p c.deref-4.result.now (c.deref-4.ensures.value ∙ go) i l, c.deref-3.ensures.len)

pub decoder-requires : goal.decoder-requires
decoder-requires c =
    let net = c.args.net.now in
    let code = c.args.code.now in
    let p = c.args.place in
    let come = links-in net p _ _ (c.in_ok-ins.ensures (λ l. eqb p l.to) (λ x b h. search (rules, tests))) c.deref.ensures.value in
    record {
      level = ap length c.deref-5.ensures.value ∙ level net code c.requires p ∙ omega (arith, c.deref-6.ensures.len);
      few = omega (arith, ap length (c.deref-7.ensures.value ∙ come), few-links net p);
    }

pub memory-requires : goal.memory-requires
memory-requires c = links-in c.args.net.now c.args.place _ _ (c.in_ok-ins.ensures (λ l. eqb c.args.place l.to) (λ x b h. search (rules, tests))) c.deref.ensures.value

pub invariant_of-result : goal.invariant_of-result
invariant_of-result c =
    let net = c.args.net.now in
    let code = c.args.code.now in
    let p = c.args.place in
    let out = links-out net p _ _ (c.in_ok-links.ensures (λ l. eqb p l.from) (λ x b h. search (rules, tests))) c.deref-2.ensures.value in
    let come = links-in net p _ _ (c.in_ok-ins.ensures (λ l. eqb p l.to) (λ x b h. search (rules, tests))) c.deref.ensures.value in
    let s = c.in_ok-slots.ensures in
    let slots = c.in_ok-slots.slots in
    let go = c.in_ok-outs.ensures.links ∙ c.deref-4.ensures.value ∙ out in
    let coeffs = c.in_ok-outs.ensures.coefficients ∙ ap₂ (λ cs ks. picked (map vec_items cs) ks) c.deref-3.ensures.value (c.deref-4.ensures.value ∙ out) in
    let cur = c.in_ok-current.ensures.current ∙ ap₂ (λ is qs. current is qs.links) (c.deref-7.ensures.value ∙ come) (ap₂ (λ qs ds. reader_for p qs (map reader ds)) c.deref-5.ensures.value c.deref-6.ensures.value) in
    let rows = c.in_ok-current.ensures.rows ∙ ap₂ (λ qs ds. (reader_for p qs (map reader ds)).rows) c.deref-5.ensures.value c.deref-6.ensures.value in
    record {
      apart = outs-rise net p c.in_ok-outs.outs go;
      coded = coded_so net code c.requires p slots s.1 s.2 c.in_ok-outs.outs go coeffs;
      within = within-so net code c.requires p slots s.1 s.2 c.in_ok-current.current cur;
      square = square-so net code c.requires p c.in_ok-current.current c.in_ok-current.rows cur rows;
      long = long_so net code c.requires p c.in_ok-current.current c.in_ok-current.rows cur rows;
      single = single-so net code c.requires p slots s.1 s.2;
    }

pub returns : goal.returns
returns c =
    let net = c.args.net.now in
    let code = c.args.code.now in
    let p = c.args.place in
    let out = links-out net p _ _ (c.in_ok-links.ensures (λ l. eqb p l.from) (λ x b h. search (rules, tests))) c.deref-2.ensures.value in
    let come = links-in net p _ _ (c.in_ok-ins.ensures (λ l. eqb p l.to) (λ x b h. search (rules, tests))) c.deref.ensures.value in
    let s = c.in_ok-slots.ensures in
    let go = c.in_ok-outs.ensures.links ∙ c.deref-4.ensures.value ∙ out in
    let coeffs = c.in_ok-outs.ensures.coefficients ∙ ap₂ (λ cs ks. picked (map vec_items cs) ks) c.deref-3.ensures.value (c.deref-4.ensures.value ∙ out) in
    let cur = c.in_ok-current.ensures.current ∙ ap₂ (λ is qs. current is qs.links) (c.deref-7.ensures.value ∙ come) (ap₂ (λ qs ds. reader_for p qs (map reader ds)) c.deref-5.ensures.value c.deref-6.ensures.value) in
    let rows = c.in_ok-current.ensures.rows ∙ ap₂ (λ qs ds. (reader_for p qs (map reader ds)).rows) c.deref-5.ensures.value c.deref-6.ensures.value in
    (works net code c.requires p _ refl s.1 s.2 go coeffs cur rows, s.0)
