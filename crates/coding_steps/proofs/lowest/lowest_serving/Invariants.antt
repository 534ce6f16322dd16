use Rattle.std.proofs.Common.{◌≡◌, ◌-◌}
use Rattle.linear.specs.Lowest.{lowest}
use Rattle.coding_steps.specs.Products.{all_served}
use Rattle.coding_steps.proofs.lowest.lowest_serving.Given as goal

-- the numbers that are left decide
abbrev pub invariant-search : goal.invariant-search
invariant-search l = (l.lowest ≡ 0) × (lowest (all_served l.products) (256 - l.t) l.t ≡ lowest (all_served l.products) 255 1)
