-- Every fault has a number above 0, which stands for none.
use Rattle.std.proofs.Common.{◌<◌, arith}
use Rattle.network.specs.Faults.{number}
use Rattle.network.specs.declared.fault.Fault.{Fault}
use Rattle.network.specs.declared.fault.Fault.TheVariants.{Malformed, OutOfRange, Misdirected, OutOfOrder, Receivers, Unfed}

pub some_number : (f : Fault) → 0 < number f
some_number Malformed = omega arith
some_number OutOfRange = omega arith
some_number Misdirected = omega arith
some_number OutOfOrder = omega arith
some_number Receivers = omega arith
some_number Unfed = omega arith
