use Rattle.std.proofs.Common.{refl, rules}
use Rattle.relay_memory.proofs.Steps.{untagged, held-fresh}
use Rattle.relay_memory.proofs.slots.Slots.new.Goals as goal

pub returns : goal.returns
returns c = (held-fresh _ _ _ _ (untagged _ _ (c.in_ok-tags.ensures.items_if_clones_equal (λ y e. search rules))), refl, refl)
