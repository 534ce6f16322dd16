-- What follows of a value that was made.
use Rattle.std.proofs.Common.{IfOk, Ok, Err, Result}

pub made-map : {X Y : Type 0} (r : Result X Y) (P Q : X → Type 0) → ((x : X) → P x → Q x) → IfOk r P → IfOk r Q
made-map (Ok x) P Q f h = f x h
made-map (Err e) P Q f h = tt
