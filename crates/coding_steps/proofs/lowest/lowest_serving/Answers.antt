use Rattle.std.proofs.Common.{◌≡◌, ◌+◌, sym, refl, ◌∙◌, arith}
use Rattle.linear.specs.Lowest.{lowest}
use Rattle.coding_steps.specs.Products.{all_served}
use Rattle.coding_steps.proofs.First.{lowest-here, lowest-later, lowest-none}
use Rattle.coding_steps.proofs.lowest.lowest_serving.Goals as goal

pub search-init : goal.search-init
search-init c = (refl, refl)

pub search-preserved : goal.search-preserved
search-preserved c = (
  c.search.invariant.0,
  sym (lowest-later (all_served c.args.products.now) c.search.t c.search-test.true (sym c.if-all_served.ensures)) ∙ c.search.invariant.1,
)

pub returns-then-all_served : goal.returns-then-all_served
returns-then-all_served c =
    sym (lowest-here (all_served c.args.products.now) c.search.t c.search-test.true (sym c.if-all_served.ensures)) ∙ c.search.invariant.1

pub returns-else-all_served : goal.returns-else-all_served
returns-else-all_served c =
    let test = all_served c.args.products.now in
    let last : c.search.t + 1 ≡ 256 = omega arith in
    let none : lowest test 255 1 ≡ 256 =
    sym c.search.invariant.1 ∙ lowest-later test c.search.t c.search-test.true (sym c.if-all_served.ensures) ∙ lowest-none test (c.search.t + 1) last in
    absurd (omega (arith, c.requires))
