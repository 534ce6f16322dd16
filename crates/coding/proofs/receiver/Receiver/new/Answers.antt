use Rattle.std.proofs.Common.{◌≡◌, length, vec_items, sym, ap, ◌∙◌, subst}
use Rattle.std.proofs.Math.ListN.{length-map}
use Rattle.linear.proofs.Lists.{length-table}
use Rattle.coding_theory.specs.Coding.{message}
use Rattle.coding_steps.specs.Rows.{AllCounted}
use Rattle.coding_steps.specs.Carriers.{carrier}
use Rattle.coding.proofs.receiver.Receiver.new.Goals as goal

pub invariant_of-result : goal.invariant_of-result
invariant_of-result c =
    let rows = vec_items c.in_ok-rows.rows in
    let long : length rows ≡ c.args.h = c.in_ok-rows.ensures.long in
    record {
      level = sym (length-map (vec_items c.in_ok-current.current) carrier) ∙ ap length c.in_ok-current.ensures ∙ length-table c.args.h message ∙ sym long;
      paths = c.requires.1 ∙ sym long;
      counted = subst (λ n. AllCounted n rows) (sym long) c.in_ok-rows.ensures.counted;
    }
