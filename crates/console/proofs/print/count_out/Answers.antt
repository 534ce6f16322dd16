use Rattle.std.proofs.Common.{◌≡◌, vec_items, sym, ◌∙◌, rules}
use Rattle.std.specs.Prelude.{count_by}
use Rattle.network.specs.Links.{link_of}
use Rattle.console.specs.Side.{leaves}
use Rattle.console.proofs.Side.{out-counted}
use Rattle.console.proofs.print.count_out.Goals as goal

pub returns : goal.returns
returns c =
    let ls = vec_items c.args.network.now.links in
    let counted : c.count.result ≡ count_by (λ l. leaves c.args.side.now (link_of l)) ls = search rules in
    counted ∙ sym (out-counted c.args.side.now ls)
