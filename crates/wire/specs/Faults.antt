-- The faults of a plan: number, the number of each; text, what is printed of each; message, what is printed where a plan is refused. Assumes nothing.
use Rattle.std.specs.Prelude.{ℕ, List, ◌++◌, codes}
use Rattle.std.specs.Fmt.{decimal}
use Rattle.wire.specs.declared.fault.Fault.{Fault}
use Rattle.wire.specs.declared.fault.Fault.TheVariants.{Malformed, OutOfRange, Unfit}
use Rattle.wire.specs.declared.fault.ReadError.{ReadError}
use Rattle.wire.specs.declared.fault.ReadError.TheVariants.{Faulty, Memory}

abbrev pub number : Fault → ℕ
number Malformed = 1
number OutOfRange = 2
number Unfit = 9

abbrev pub text : Fault → List ℕ
text Malformed = codes "unknown kind or bad length"
text OutOfRange = codes "a place that isn't there"
text Unfit = codes "a plan that isn't for this net"

abbrev pub message : ReadError → List ℕ
message (Faulty f at) = codes "fault " ++ (decimal (number f) ++ (codes " at byte " ++ (decimal at ++ (codes ": " ++ text f))))
message (Memory at) = codes "not enough memory"
