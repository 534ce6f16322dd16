use Rattle.std.proofs.Common.{◌≡◌, ◌++◌, take, vec_items}
use Rattle.std.specs.List.{flat_map}
use Rattle.octets.specs.Words.{word_bytes}
use Rattle.octets.proofs.put_words.Given as goal

abbrev pub invariant-loop-word : goal.invariant-loop-word
invariant-loop-word l = vec_items l.out ≡ vec_items l.initial.out ++ flat_map word_bytes (take l.word-index l.words)
