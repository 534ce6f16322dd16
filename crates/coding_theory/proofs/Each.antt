-- What holds of each element of a list holds of the images too.
use Rattle.std.proofs.Common.{List, map, get_or}
use Rattle.std.specs.List.{All}
use Rattle.std.proofs.lemmas.List.Elements.{All-weaker, All-map}

pub each_map : {A B : Type 0} (P Q : A → Type 0) (R : B → Type 0) (f : A → B) (xs : List A) → ((x : A) → P x → Q x → R (f x)) → All P xs → All Q xs → All R (map f xs)
each_map P Q R f xs g ps qs = All-map R f xs (λ k d l. g (get_or xs k d) (ps k d l) (qs k d l))

pub each-one : {A B : Type 0} (P : A → Type 0) (R : B → Type 0) (f : A → B) (xs : List A) → ((x : A) → P x → R (f x)) → All P xs → All R (map f xs)
each-one P R f xs g ps = All-map R f xs (All-weaker P (λ x. R (f x)) g xs ps)
