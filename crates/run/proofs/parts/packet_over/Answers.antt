use Rattle.std.proofs.Common.{◌≡◌, vec_items, rules, tests}
use Rattle.std.proofs.lemmas.Bool.{both_ways}
use Rattle.std.proofs.lemmas.Iterator.{YieldsList-from_slice, IsFirst-from_position}
use Rattle.run.proofs.Taking.{goes-not}
use Rattle.run.proofs.parts.packet_over.Goals as goal

pub returns-in-None : goal.returns-in-None
returns-in-None c =
    let k = c.args.link in
    let os = vec_items c.args.node.now.outs in
    let r = IsFirst-from_position _ _ _ (λ o. o.link ≡ k) (λ o. o.link ≡ k → ⊥) c.position.ensures.ran (YieldsList-from_slice os cc) (λ x q h. search (rules, tests)) (λ x q h. search (rules, tests)) in
    λ h. absurd (both_ways _ (goes-not k os (rw c.in-None.is at r)) h)
