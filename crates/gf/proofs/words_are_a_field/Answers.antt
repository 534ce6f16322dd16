use Rattle.gf.proofs.Fields.{word_laws}
use Rattle.gf.proofs.words_are_a_field.Goals as goal

pub returns : goal.returns
returns c = word_laws
