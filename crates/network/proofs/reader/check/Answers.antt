use Rattle.std.proofs.lemmas.Result.{err_from_is_err_and}
use Rattle.network.proofs.Told.{head-refuses, links-refuse, counts-refuse, receivers-refuse, all-fine}
use Rattle.network.proofs.reader.check.Goals as goal

pub returns-in_err-head-clause-tells : goal.returns-in_err-head-clause-tells
returns-in_err-head-clause-tells c =
    let p = err_from_is_err_and c.from_residual.result c.from_residual.ensures.1 in
    rw (p.1, p.2) (head-refuses c.args.bytes.now _ c.in_err-head.ensures.tells)

pub returns-in_err-check_links-clause-tells : goal.returns-in_err-check_links-clause-tells
returns-in_err-check_links-clause-tells c =
    let p = err_from_is_err_and c.from_residual-in_err-check_links.result c.from_residual-in_err-check_links.ensures.1 in
    rw (p.1, p.2) (links-refuse c.args.bytes.now _ c.in_ok-head.ensures.tells (rw c.in_ok-head.ensures.same at c.in_err-check_links.ensures))

pub returns-in_err-counts-clause-tells : goal.returns-in_err-counts-clause-tells
returns-in_err-counts-clause-tells c =
    let p = err_from_is_err_and c.from_residual-in_err-counts.result c.from_residual-in_err-counts.ensures.1 in
    rw (p.1, p.2) (counts-refuse c.args.bytes.now _ c.in_ok-head.ensures.tells (rw c.in_ok-head.ensures.same at c.in_ok-check_links.ensures) (rw c.in_ok-head.ensures.same at c.in_err-counts.ensures.tells))

pub returns-in_err-check_receivers-clause-tells : goal.returns-in_err-check_receivers-clause-tells
returns-in_err-check_receivers-clause-tells c =
    let p = err_from_is_err_and c.from_residual-in_err-check_receivers.result c.from_residual-in_err-check_receivers.ensures.1 in
    rw (p.1, p.2)
    (receivers-refuse c.args.bytes.now _ c.in_ok-head.ensures.tells (rw c.in_ok-head.ensures.same at c.in_ok-check_links.ensures) (rw c.in_ok-head.ensures.same at c.in_ok-counts.ensures.tells) (rw c.in_ok-head.ensures.same at c.in_err-check_receivers.ensures))

pub returns-clause-tells : goal.returns-clause-tells
returns-clause-tells c = all-fine c.args.bytes.now c.in_ok-head.ensures.tells (rw c.in_ok-head.ensures.same at c.in_ok-check_links.ensures) (rw c.in_ok-head.ensures.same at c.in_ok-counts.ensures.tells) (rw c.in_ok-head.ensures.same at c.in_ok-check_receivers.ensures)
