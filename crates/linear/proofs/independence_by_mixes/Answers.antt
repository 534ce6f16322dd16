use Rattle.linear.proofs.Independence.{mix-words}
use Rattle.linear.proofs.independence_by_mixes.Goals as goal

pub returns : goal.returns
returns c = mix-words
