use Rattle.std.proofs.Common.{◌≡◌, ℕ, ◌-◌, List, [], ◌++◌, length, take, drop, replicate, ap, ◌∙◌, ap₂, append-nil, arith}
use Rattle.std.proofs.lemmas.List.{length-drop, drop_all, take_rest}
use Rattle.run.proofs.padding.fill_up.Goals as goal

pub returns : goal.returns
returns c =
    let bs : List ℕ = c.args.bytes.now in
    let n : ℕ = c.args.count in
    let long : length (take (length bs - n) (drop n bs)) ≡ length bs - n = ap length (take_rest bs n) ∙ length-drop n bs in
    let zeros : c.fill.new.self ≡ replicate (length bs - n) 0 = c.fill.ensures.after (λ y e. e) ∙ ap (λ k. replicate k 0) long in
    let none : drop (length bs - n) (drop n bs) ≡ [] = drop_all (length bs - n) (drop n bs) (omega (arith, length-drop n bs)) in
    ap₂ (λ y l. take n bs ++ (y ++ l)) zeros none ∙ ap (λ l. take n bs ++ l) (append-nil (replicate (length bs - n) 0))
