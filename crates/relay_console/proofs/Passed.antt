-- What goes through unchanged where nothing stops.
use Rattle.std.proofs.Common.{◌≡◌, Ok, Err, Result, false, refl, sym, subst}
use Rattle.std.specs.Prelude.{MatchResult, IsErr, IfOk}
use Rattle.std.proofs.lemmas.Bool.{both_ways}

on-error : {A F : Type 0} (r : Result A F) (P : A → Type 0) → IsErr r → IfOk r P
on-error (Ok y) P e = absurd (both_ways false refl e)
on-error (Err y) P e = tt

on : {A E F : Type 0} (got : Result A E) (r : Result A F) (P : A → Type 0) → MatchResult got (λ y. r ≡ Ok y) (λ _. IsErr r) → IfOk got P → IfOk r P
on (Ok y) r P e p = subst (λ q. IfOk q P) (sym e) p
on (Err y) r P e p = on-error r P e

pub passed : {A E F : Type 0} (got : Result A E) (r : Result A F) (x : A) (P : A → Type 0) → MatchResult got (λ y. r ≡ Ok y) (λ _. IsErr r) → r ≡ Ok x → IfOk got P → P x
passed got r x P e f p = subst (λ q. IfOk q P) f (on got r P e p)
