use Rattle.std.proofs.Common.{rules, false}
use Rattle.wire.specs.Format.{flag_in}
use Rattle.wire.proofs.Made.{made}
use Rattle.wire.proofs.reader.read_side.Goals as goal
use borrow.Author.Tests.{tests}

pub returns : goal.returns
returns c = made _ (flag_in c.args.bytes.now) false _ (λ j y q t. search (rules, tests)) c.from_fn.result 256 c.from_fn.ensures.items
