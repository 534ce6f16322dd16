use Rattle.std.proofs.Common.{◌≡◌, vec_items, ap, ◌∙◌, arith}
use Rattle.std.proofs.lemmas.Grind.{common_steps}
use Rattle.network.specs.Format.{bytes_of, read_net}
use Rattle.network.specs.Values.{value}
use Rattle.network.proofs.Sound.{accepted}
use Rattle.network.proofs.Written.{read_back}
use Rattle.network.proofs.writer.write.Goals as goal

pub returns-clause-back : goal.returns-clause-back
returns-clause-back c =
    let bytes : vec_items c.put_words.new.out ≡ bytes_of (value c.args.net.now) = grind (arith, common_steps) in
    ap read_net bytes ∙ read_back (value c.args.net.now) (accepted c.args.net.now)
