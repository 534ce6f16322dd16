-- How many links lead out of a set, counted one by one.
use Rattle.std.proofs.Common.{◌≡◌, ℕ, ◌+◌, Bool, true, false, cond, List, refl, arith}
use Rattle.std.specs.Prelude.{count_by}
use Rattle.std.proofs.lemmas.List.Recursion.{is_count_by}
use Rattle.network.specs.Links.{link_of, links_of}
use Rattle.network.specs.declared.net.Link.{Link as Joined}
use Rattle.network_cuts.specs.Cut.{out}
use Rattle.console.specs.Side.{within, leaves}

one_more : (b : Bool) (n : ℕ) → cond b 1 0 + n ≡ cond b (1 + n) n
one_more true n = refl
one_more false n = omega arith

pub out-counted : (side : List Bool) (ls : List Joined) → out (within side) (links_of ls) ≡ count_by (λ l. leaves side (link_of l)) ls
unfolding out
out-counted side = is_count_by (λ ls. out (within side) (links_of ls)) (λ l. leaves side (link_of l)) refl (λ l ls. one_more (leaves side (link_of l)) (out (within side) (links_of ls)))
