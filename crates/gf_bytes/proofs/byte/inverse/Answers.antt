use Rattle.std.proofs.Common.{◌<◌, arith, rules}
use Rattle.gf.specs.Polynomial.{horner, xtime, mul}
use Rattle.gf_bytes.proofs.Table.{undoes, inverse-at}
use Rattle.gf_bytes.proofs.byte.inverse.Goals as goal

pub returns : goal.returns
unfolding undoes mul horner xtime
returns c = let small : c.args.a < 256 = omega arith in let pos : 0 < c.args.a = c.requires in search (rules, inverse-at)
