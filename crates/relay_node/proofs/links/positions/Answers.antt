use Rattle.std.proofs.Common.{rules, tests}
use Rattle.std.proofs.lemmas.Iterator.{YieldsList-from_slice, YieldsList-from_map, items_from_collect}
use Rattle.delivery_theory.specs.Work.{place}
use Rattle.relay_node.proofs.Assembly.{placed}
use Rattle.relay_node.proofs.links.positions.Goals as goal

pub returns : goal.returns
returns c = items_from_collect _ c.collect.ensures.ran (YieldsList-from_map _ (λ k. place k c.args.ins.now) (YieldsList-from_slice c.args.links.now cc) c.map.ensures.closure (λ x r q k. search (rules, tests, placed)))
