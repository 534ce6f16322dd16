-- The lines that lead out of a set are printed one after the other.
use Rattle.std.proofs.Common.{◌≡◌, ℕ, suc, ◌+◌, ◌<◌, Bool, List, [], ◌∷◌, ◌++◌, length, take, sym, ap, ◌∙◌, add-zero, append_assoc, append-nil, arith, length-take}
use Rattle.std.proofs.lemmas.List.{take_more}
use Rattle.network.specs.Network.{Link, link_at}
use Rattle.console.specs.Text.{line_out, lines_out}

pub regroup : (a b c d e : List ℕ) → a ++ (b ++ (c ++ (d ++ e))) ≡ a ++ b ++ c ++ d ++ e
regroup a b c d e = let q : a ++ b ++ c ++ d ++ e ≡ a ++ (b ++ (c ++ (d ++ e))) = simp append_assoc in sym q

lines-push : (side : List Bool) (k : ℕ) (ls : List Link) (l : Link) → lines_out side k (ls ++ l ∷ []) ≡ lines_out side k ls ++ line_out side (k + length ls) l
unfolding lines_out
lines-push side k [] l = append-nil (line_out side k l) ∙ ap (λ n. line_out side n l) (sym (add-zero k))
lines-push side k (x ∷ ls) l =
    let e : suc k + length ls ≡ k + suc (length ls) = omega arith in
    ap (λ q. line_out side k x ++ q) (lines-push side (suc k) ls l ∙ ap (λ n. lines_out side (suc k) ls ++ line_out side n l) e)
    ∙ sym (append_assoc (line_out side k x) (lines_out side (suc k) ls) (line_out side (k + suc (length ls)) l))

pub lines-take : (side : List Bool) (ls : List Link) (k : ℕ) → k < length ls → lines_out side 0 (take (k + 1) ls) ≡ lines_out side 0 (take k ls) ++ line_out side k (link_at ls k)
lines-take side ls k h =
    let e : 0 + length (take k ls) ≡ k = omega (arith, length-take k ls) in
    ap (lines_out side 0) (take_more ls k (record { from = 0; to = 0 }) h) ∙ lines-push side 0 (take k ls) (link_at ls k)
    ∙ ap (λ n. lines_out side 0 (take k ls) ++ line_out side n (link_at ls k)) e
