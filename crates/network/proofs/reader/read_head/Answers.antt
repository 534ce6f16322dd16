use Rattle.std.proofs.Common.{length, refl, arith}
use Rattle.std.proofs.lemmas.Bool.{ltb-true, ltb-false}
use Rattle.std.proofs.lemmas.Bool.Decides.{nat_tests}
use Rattle.octets.specs.Words.{word_at}
use Rattle.octets.proofs.Reading.{item-short, item-fine, item-told}
use Rattle.network.proofs.reader.read_head.Goals as goal

pub returns-in_default : goal.returns-in_default
returns-in_default c = record { tells = item-short (length c.args.bytes.now) 0 5 _ (omega (arith, ltb-true)); same = tt }

pub returns-then-kind-ne1 : goal.returns-then-kind-ne1
returns-then-kind-ne1 c =
    record { tells = item-told (length c.args.bytes.now) 0 5 _ 1 (omega (arith, ltb-false)) (grind (arith, nat_tests)) (omega arith); same = tt }

pub returns-then-nodes-lt1 : goal.returns-then-nodes-lt1
unfolding word_at
returns-then-nodes-lt1 c =
    record { tells = item-told (length c.args.bytes.now) 0 5 _ 2 (omega (arith, ltb-false)) (grind (arith, nat_tests)) (omega arith); same = tt }

pub returns : goal.returns
unfolding word_at
returns c = record { tells = item-fine (length c.args.bytes.now) 0 5 _ (omega (arith, ltb-false)) (grind (arith, nat_tests)); same = refl }

pub invariant_of-result : goal.invariant_of-result
unfolding word_at
invariant_of-result c =
    record { nodes_is = c.word-nodes.ensures; links_is = c.word-links.ensures; limits = (omega arith, omega arith, omega arith); long = omega (arith, ltb-false) }
