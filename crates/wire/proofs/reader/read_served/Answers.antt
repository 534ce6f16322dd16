use Rattle.std.proofs.Common.{ℕ, List, map, vec_items}
use Rattle.std.proofs.lemmas.Result.{err_from_is_err_and}
use Rattle.network.specs.Network.{Multicast}
use Rattle.network.specs.Values.{value}
use Rattle.wire.specs.Plan.{Reader, Plan, served}
use Rattle.wire.specs.Format.{got, Parser, and_then, each, reader_item}
use Rattle.wire.proofs.Parsing.{got-lawful}
use Rattle.wire.proofs.Reading.{refuses-then, refuses-second}
use Rattle.wire.proofs.Whole.{behind-lawful}
use Rattle.wire.proofs.reader.read_served.Goals as goal

module _ (m : Multicast) where
  abbrev readers : Parser (List Reader)
  readers at bs = each (reader_item m.network.links m.rate) m.receivers at bs

  abbrev behind : List (List ℕ) → Parser Plan
  behind cs at bs = and_then (readers at bs) (λ rs. got (served cs rs))

pub returns-in_err-coefficients : goal.returns-in_err-coefficients
returns-in_err-coefficients c =
    let m : Multicast = value c.args.net.now in
    let p = err_from_is_err_and c.from_residual.result c.from_residual.ensures.1 in
    rw (p.1, p.2) (refuses-then (behind m) (behind-lawful m) _ _ c.in_err-coefficients.ensures)

pub returns-in_err-receivers : goal.returns-in_err-receivers
returns-in_err-receivers c =
    let m : Multicast = value c.args.net.now in
    let cs : List (List ℕ) = map vec_items (vec_items c.in_ok-coefficients.coefficients) in
    let left = c.read_coefficients.new.rest in
    let p = err_from_is_err_and c.from_residual-in_err-receivers.result c.from_residual-in_err-receivers.ensures.1 in
    rw (p.1, p.2)
    (refuses-second (behind m) _ _ cs left.at left.bytes.now c.in_ok-coefficients.ensures
    (refuses-then (λ rs at rest. got (served cs rs) at rest) (λ rs. got-lawful (served cs rs)) _ (readers m left.at left.bytes.now) c.in_err-receivers.ensures))
