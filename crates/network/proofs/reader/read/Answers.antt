use Rattle.std.proofs.Common.{ℕ, List, ap, ◌∙◌}
use Rattle.std.proofs.lemmas.Result.{err_from_is_err_and}
use Rattle.network.specs.Format.{bytes_of, net_in}
use Rattle.network.proofs.Judged.{judged}
use Rattle.network.proofs.Kept.{bytes-kept}
use Rattle.network.proofs.Sound.{accepted}
use Rattle.network.proofs.Told.{refusal-settled}
use Rattle.network.proofs.reader.read.Goals as goal

pub returns-in_err-head-clause-settled : goal.returns-in_err-head-clause-settled
returns-in_err-head-clause-settled c =
    let p = err_from_is_err_and c.from_residual.result c.from_residual.ensures.1 in
    rw (p.1, p.2) (refusal-settled c.args.bytes.now _ c.in_err-head.ensures.tells)

pub returns-in_err-net-clause-answer : goal.returns-in_err-net-clause-answer
returns-in_err-net-clause-answer c =
    let p = err_from_is_err_and c.from_residual-in_err-net.result c.from_residual-in_err-net.ensures.1 in
    rw (p.1, p.2) (net_in c.args.bytes.now, rw c.in_ok-head.ensures.tells)

pub returns-clause-kept : goal.returns-clause-kept
returns-clause-kept c =
    let bs : List ℕ = c.args.bytes.now in
    ap bytes_of c.in_ok-net.ensures ∙ ap (λ l. bytes_of (net_in l)) c.in_ok-head.ensures.same ∙ bytes-kept bs (λ i. (c.type_inv.bytes i).fits) (judged bs c.in_ok-head.ensures.tells)

pub returns-clause-accepted : goal.returns-clause-accepted
returns-clause-accepted c = accepted c.in_ok-net.net
