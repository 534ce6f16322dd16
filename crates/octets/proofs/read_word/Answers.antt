use Rattle.octets.specs.Words.{word_at}
use Rattle.octets.proofs.read_word.Goals as goal

pub returns : goal.returns
unfolding word_at
returns c = c.word.ensures
