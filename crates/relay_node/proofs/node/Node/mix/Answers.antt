use Rattle.std.proofs.Common.{◌≡◌, length, ap, ◌∙◌, rules}
use Rattle.relay_node.specs.Values.{scheme}
use Rattle.relay_node.proofs.Mixes.{mix-is}
use Rattle.relay_node.proofs.node.Node.mix.Goals as goal

pub returns : goal.returns
returns c =
    let long : length c.mix.result ≡ 1024 = search rules in
    mix-is c.args.self.now c.args.out c.index.result.now _ _ c.requires c.index.ensures c.deref.ensures.value c.mix.result long c.mix.ensures
    ∙ ap (scheme c.args.self.now _) c.came.ensures.packets
