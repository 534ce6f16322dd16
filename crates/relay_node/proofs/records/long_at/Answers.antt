use Rattle.std.proofs.Common.{◌∙◌}
use Rattle.relay_node.proofs.Heads.{long-read}
use Rattle.relay_node.proofs.records.long_at.Goals as goal

pub returns : goal.returns
returns c = c.from_be_bytes.ensures ∙ long-read c.args.bytes.now c.args.at
