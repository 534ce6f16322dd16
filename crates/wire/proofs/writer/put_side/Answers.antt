use Rattle.std.proofs.Common.{rules, ◌≡◌, ℕ, ◌-◌, ◌*◌, ◌++◌, List, cond, Result, Ok, Err, OnOk, vec_items, ap, ◌∙◌}
use Rattle.std.specs.Result.{is_ok}
use Rattle.wire.specs.Format.{flag_byte, side_bytes}
use Rattle.wire.proofs.Made.{made}
use Rattle.wire.proofs.writer.put_side.Goals as goal
use borrow.Author.Tests.{tests}

appended : {T E : Type 0} (r : Result T E) (old new l k : List ℕ) → new ≡ cond (is_ok r) (old ++ l) old → l ≡ k → OnOk r (new ≡ old ++ k)
appended (Ok x) old new l k e is = e ∙ ap (λ y. old ++ y) is
appended (Err x) old new l k e is = tt

pub returns : goal.returns
returns c =
    let bytes : c.from_fn.result ≡ side_bytes c.args.side.now =
    made _ (λ i. flag_byte c.args.side.now (8 * (31 - i))) 0 _ (λ j y q t. search (rules, tests)) c.from_fn.result 32 c.from_fn.ensures.items in
    appended c.extend_from_slice.result (vec_items c.args.out.now) (vec_items c.extend_from_slice.new.self) c.from_fn.result _ c.extend_from_slice.ensures.items bytes
