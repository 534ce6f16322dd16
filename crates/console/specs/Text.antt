-- What is printed, in the words of the formats. Defines, in this order:
--   line_text  a line by its number and its ends, as 6 (3-4)
--   line_out   the same in a row of its own, where the line leads out of a set; else nothing
--   lines_out  so of each line, from number k on
--   cut_head   the listener, and how many lines lead out of the set
--   cut_text   that, and then these lines
-- Assumes nothing.
use Rattle.std.specs.Prelude.{ℕ, suc, Bool, cond, List, [], ◌∷◌, ◌++◌, codes}
use Rattle.std.specs.Fmt.{decimal}
use Rattle.network.specs.Network.{Link}
use Rattle.network_cuts.specs.Cut.{out}
use Rattle.console.specs.Side.{within, leaves}

abbrev pub line_text : ℕ → Link → List ℕ
line_text k l = decimal k ++ codes " (" ++ decimal l.from ++ codes "-" ++ decimal l.to ++ codes ")"

-- 10 ends a row
abbrev pub line_out : List Bool → ℕ → Link → List ℕ
line_out side k l = cond (leaves side l) (codes "  " ++ line_text k l ++ 10 ∷ []) []

unfoldable pub lines_out : List Bool → ℕ → List Link → List ℕ
lines_out side k [] = []
lines_out side k (l ∷ ls) = line_out side k l ++ lines_out side (suc k) ls

abbrev pub cut_head : List Bool → (listener : ℕ) → List Link → List ℕ
cut_head side listener ls = codes "listener " ++ decimal listener ++ codes ": cut, " ++ decimal (out (within side) ls) ++ codes " lines lead out" ++ 10 ∷ []

abbrev pub cut_text : List Bool → (listener : ℕ) → List Link → List ℕ
cut_text side listener ls = cut_head side listener ls ++ lines_out side 0 ls
