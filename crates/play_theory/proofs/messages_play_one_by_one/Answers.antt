use Rattle.play_theory.proofs.Round.{began, passes, plays, all-ended, one-more-out}
use Rattle.play_theory.proofs.messages_play_one_by_one.Goals as goal

pub returns : goal.returns
returns c = record { begins = began; passes = passes; plays = plays; ended = all-ended; out = one-more-out }
