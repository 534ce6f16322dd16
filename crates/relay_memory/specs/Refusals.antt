-- The refusals of what comes in: number, the number of each, and text, its words. Assumes nothing.
use Rattle.std.specs.Prelude.{ℕ, List, codes}
use Rattle.relay_memory.specs.declared.refusal.Refusal.{Refusal}
use Rattle.relay_memory.specs.declared.refusal.Refusal.TheVariants.{Malformed, Foreign, Late, Early}

abbrev pub number : Refusal → ℕ
number Malformed = 1
number Foreign = 6
number Late = 7
number Early = 8

-- in the words of the format, where links are lines
abbrev pub text : Refusal → List ℕ
text Malformed = codes "unknown kind or bad length"
text Foreign = codes "a packet on a line that doesn't come in here"
text Late = codes "a second packet for a line and round, or for a round that is over"
text Early = codes "more than 2 rounds early"
