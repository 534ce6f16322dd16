use Rattle.std.proofs.Common.{◌≡◌, rules, tests}
use Rattle.std.proofs.lemmas.Iterator.{YieldsList-from_slice, IsFirst-from_position}
use Rattle.relay_memory.proofs.Memory.{found}
use Rattle.relay_memory.proofs.links.position.Goals as goal

pub returns : goal.returns
returns c =
    let k = c.args.number in
    found k c.args.numbers.now _
    (IsFirst-from_position _ _ _ (λ n. n ≡ k) (λ n. n ≡ k → ⊥) c.position.ensures.ran (YieldsList-from_slice c.args.numbers.now cc) (λ x q h. search (rules, tests)) (λ x q h. search (rules, tests)))
