-- The rows of the table, by computing both sides.
use Rattle.std.proofs.Common.{refl, lit<, lit≤}
use Rattle.gf.specs.Polynomial.{horner, xtime, mul}
use Rattle.linear.specs.Vectors.{table, plus, scale, mix}
use Rattle.linear.specs.Lowest.{lowest}
use Rattle.linear.specs.Dual.{renew}
use Rattle.linear.specs.Choice.{serves_all}
use Rattle.network_cuts.specs.Scheme.{into}
use Rattle.std.specs.List.{All}
use Rattle.std.proofs.lemmas.List.Elements.{All-from_recursion}
use Rattle.coding_theory.specs.Paths.{is_on}
use Rattle.coding_theory.specs.Coding.{incoming, place, wants, next, choose, passed, chosen, one_more, along}
use Rattle.coding_examples.specs.Table.{Worked, butterfly, threefold, dense, wide, worked}
use Rattle.coding_examples.proofs.Premises.{none_into, fits, well, sound-of, shares_none, shares_none_of, are_apart, leads, all_lead, served, given-of}

butterfly-works : Worked butterfly
unfolding none_into fits well shares_none shares_none_of are_apart leads all_lead served is_on mul horner xtime into table plus lowest incoming place wants scale mix serves_all next choose renew passed chosen one_more along
butterfly-works =
    record {
      sound = sound-of butterfly.network (lit≤ tt) refl;
      few = lit< tt;
      given = given-of butterfly.network.links butterfly.rate butterfly.aims refl;
      coefficients = refl;
      vectors = refl;
      current = refl;
      rows = refl;
    }

threefold-works : Worked threefold
unfolding none_into fits well shares_none shares_none_of are_apart leads all_lead served is_on mul horner xtime into table plus lowest incoming place wants scale mix serves_all next choose renew passed chosen one_more along
threefold-works =
    record {
      sound = sound-of threefold.network (lit≤ tt) refl;
      few = lit< tt;
      given = given-of threefold.network.links threefold.rate threefold.aims refl;
      coefficients = refl;
      vectors = refl;
      current = refl;
      rows = refl;
    }

dense-works : Worked dense
unfolding none_into fits well shares_none shares_none_of are_apart leads all_lead served is_on mul horner xtime into table plus lowest incoming place wants scale mix serves_all next choose renew passed chosen one_more along
dense-works =
    record {
      sound = sound-of dense.network (lit≤ tt) refl;
      few = lit< tt;
      given = given-of dense.network.links dense.rate dense.aims refl;
      coefficients = refl;
      vectors = refl;
      current = refl;
      rows = refl;
    }

wide-works : Worked wide
unfolding none_into fits well shares_none shares_none_of are_apart leads all_lead served is_on mul horner xtime into table plus lowest incoming place wants scale mix serves_all next choose renew passed chosen one_more along
wide-works =
    record {
      sound = sound-of wide.network (lit≤ tt) refl;
      few = lit< tt;
      given = given-of wide.network.links wide.rate wide.aims refl;
      coefficients = refl;
      vectors = refl;
      current = refl;
      rows = refl;
    }

pub all-work : All Worked worked
all-work = All-from_recursion Worked worked (butterfly-works, (threefold-works, (dense-works, (wide-works, tt))))
