use Rattle.std.proofs.Common.{◌≡◌, map, vec_items, IfOk, ap, ◌∙◌, zero-add, arith, rules, tests}
use Rattle.std.specs.List.{range_with_len}
use Rattle.std.proofs.lemmas.Result.{IfOk-weaker}
use Rattle.std.proofs.lemmas.Iterator.{items_from_collect, YieldsList-from_range, YieldsList-from_map}
use Rattle.coding_theory.specs.Coding.{message}
use Rattle.coding_steps.specs.Carriers.{carrier}
use Rattle.coding_steps.specs.declared.carrier.Carrier.TheVariants.{Message}
use Rattle.coding_steps.proofs.AtHand.{messages-are, table_same}
use Rattle.coding_steps.proofs.carrier.messages.Goals as goal

pub returns : goal.returns
returns c =
    let items : IfOk c.collect.result (λ v. vec_items v ≡ map Message (range_with_len 0 c.args.h)) =
    items_from_collect _ c.collect.ensures.ran (YieldsList-from_map _ Message (YieldsList-from_range 0 c.args.h c.args.h (cc) (omega arith)) c.map.ensures.closure (λ x r q k. search (rules, tests))) in
    IfOk-weaker c.collect.result _ _ (λ v e. ap (map carrier) e ∙ messages-are c.args.h 0 ∙ table_same c.args.h _ message (λ i l. ap message (zero-add i))) items
