use Rattle.std.proofs.Common.{◌≡◌, ◌<◌, ◌≤◌, map, length, vec_items, sym, refl, ap, ◌∙◌, subst, arith}
use Rattle.std.proofs.lemmas.List.{with_items_is}
use Rattle.gf.proofs.Fields.{byte_field}
use Rattle.linear.specs.Dual.{renew}
use Rattle.coding_theory.specs.Coding.{place}
use Rattle.coding_steps.specs.Rows.{bytes_of, SameRows}
use Rattle.coding.specs.Passing.{place_on}
use Rattle.coding.proofs.Passes.{stands-off, stands_on}
use Rattle.coding.proofs.receiver.Receiver.pass.Goals as goal

pub returns-in-Some : goal.returns-in-Some
returns-in-Some c =
    let p = c.args.self.now in
    let e = c.args.e in
    let j = c.in-Some.j in
    let h = length (vec_items p.rows) in
    let is-j : j ≡ place_on e p = c.in-Some.ensures.1 ∙ ap (λ q. place e (map vec_items q)) c.deref.ensures.value in
    let lj : j < h = omega (arith, c.in-Some.ensures.0, ap length c.deref.ensures.value, p.paths) in
    let new = c.renew.new.rows in
    let is-new = with_items_is p.rows new (omega (arith, c.renew.auto.rows, c.deref_mut.ensures.len)) in
    record {
      aim = refl;
      stands = λ r st. stands_on h e c.args.v.bytes p _ refl r st j lj is-j refl (ap length is-new ∙ c.renew.auto.rows ∙ ap length c.deref_mut.ensures.value)
          (subst (λ q. SameRows h (bytes_of q) (renew byte_field h j c.args.v.bytes (bytes_of (vec_items p.rows)))) (sym is-new)
          (subst (λ q. SameRows (length q) (bytes_of new) (renew byte_field (length q) j c.args.v.bytes (bytes_of q))) c.deref_mut.ensures.value c.renew.ensures.renewed));
    }

pub returns-in_default : goal.returns-in_default
returns-in_default c =
    let p = c.args.self.now in
    let off : length (vec_items p.rows) ≤ place_on c.args.e p =
    omega (arith, subst (λ q. length q ≤ place c.args.e (map vec_items q)) c.deref.ensures.value c.in_default.ensures, p.paths) in
    record {
      aim = refl;
      stands = λ r st. stands-off (length (vec_items p.rows)) c.args.e c.args.v.bytes p p refl r st off refl refl;
    }
