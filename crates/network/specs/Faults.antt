-- The faults of a net: number, the number of each; text, what is printed of each; message, what is printed where a net is refused. Assumes nothing.
use Rattle.std.specs.Prelude.{ℕ, List, ◌++◌, codes}
use Rattle.std.specs.Fmt.{decimal}
use Rattle.network.specs.declared.fault.Fault.{Fault}
use Rattle.network.specs.declared.fault.Fault.TheVariants.{Malformed, OutOfRange, Misdirected, OutOfOrder, Receivers, Unfed}
use Rattle.network.specs.declared.fault.ReadError.{ReadError}
use Rattle.network.specs.declared.fault.ReadError.TheVariants.{Faulty, Memory}

abbrev pub number : Fault → ℕ
number Malformed = 1
number OutOfRange = 2
number Misdirected = 3
number OutOfOrder = 4
number Receivers = 5
number Unfed = 10

abbrev pub text : Fault → List ℕ
text Malformed = codes "unknown kind or bad length"
text OutOfRange = codes "a count out of range, or a place that isn't there"
text Misdirected = codes "a line into the source, or from a place to itself"
text OutOfOrder = codes "a line into a place after one out of it"
text Receivers = codes "listeners not rising, or the source among them"
text Unfed = codes "a line out of a place, not the source, that no line comes into"

abbrev pub message : ReadError → List ℕ
message (Faulty f at) = codes "fault " ++ (decimal (number f) ++ (codes " at byte " ++ (decimal at ++ (codes ": " ++ text f))))
message Memory = codes "not enough memory"
