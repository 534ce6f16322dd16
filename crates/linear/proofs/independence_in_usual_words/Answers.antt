use Rattle.linear.proofs.Independence.{usual-words}
use Rattle.linear.proofs.independence_in_usual_words.Goals as goal

pub returns : goal.returns
returns c = usual-words
