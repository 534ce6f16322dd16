-- The sum of packets that the code makes, byte by byte, is the mix of them: coefficients that are missing count as 0.
use Rattle.std.proofs.Common.{◌≡◌, ℕ, zero, suc, ◌<◌, ◌≤◌, min, List, [], ◌∷◌, length, get_or, sym, refl, ap, ◌∙◌, ap₂, inl, inr, arith}
use lib.Bits.{bit_xor, xor_zero_r}
use Rattle.std.proofs.lemmas.List.{get_or_past}
use Rattle.std.proofs.lemmas.Bool.{cases_lt}
use Rattle.gf.specs.Sum.{sum}
use Rattle.gf.proofs.Fields.{byte_field}
use Rattle.gf_bytes.specs.Byte.{times}
use Rattle.gf_bytes.specs.Packet.{multiple_at, mix_at}
use Rattle.linear.specs.Vectors.{at, table, mix, mixed}
use Rattle.linear.proofs.Sums.{none-times}
use Rattle.linear.proofs.Lists.{at-mix}
use Rattle.network_cuts.specs.Scheme.{Packet}

-- what adds nothing may be left out
sum-stop : (n m : ℕ) (f : ℕ → ℕ) → m ≤ n → ((j : ℕ) → m ≤ j → f j ≡ 0) → sum m f ≡ sum n f
sum-stop zero m f l o = let e : m ≡ 0 = omega arith in ap (λ k. sum k f) e
sum-stop (suc n) m f l o =
    elim (cases_lt n m) [
      | inl h ↦ let e : m ≡ suc n = omega arith in ap (λ k. sum k f) e
      | inr h ↦ sum-stop n m f h o ∙ sym (ap (bit_xor (sum n f)) (o n h) ∙ xor_zero_r (sum n f))
    ]

pub mix-at : (cs : List ℕ) (bs : List Packet) (k : ℕ) → mix_at cs bs k ≡ at (mix byte_field cs bs) k
mix-at cs bs k =
    elim (cases_lt (length cs) (length bs)) [
      | inl h ↦
          let e : min (length cs) (length bs) ≡ length cs = omega arith in
          ap (λ n. sum n (multiple_at cs bs k)) e
          ∙ sum-stop (length bs) (length cs) (multiple_at cs bs k) (omega arith) (λ j l. ap (λ c. times c (get_or (get_or bs j []) k 0)) (get_or_past cs j 0 l) ∙ none-times byte_field (get_or (get_or bs j []) k 0))
          ∙ sym (at-mix byte_field cs bs k)
      | inr h ↦ let e : min (length cs) (length bs) ≡ length bs = omega arith in ap (λ n. sum n (multiple_at cs bs k)) e ∙ sym (at-mix byte_field cs bs k)
    ]

-- a list that has f 0, f 1, .. in its places
pub table-all : {A : Type 0} (n : ℕ) (f : ℕ → A) (xs : List A) (d : A) → length xs ≡ n → ((k : ℕ) → k < n → get_or xs k d ≡ f k) → xs ≡ table n f
unfolding table
table-all zero f [] d e h = refl
table-all zero f (x ∷ xs) d e h = absurd (omega arith)
table-all (suc n) f [] d e h = absurd (omega arith)
table-all (suc n) f (x ∷ xs) d e h = ap₂ (λ y ys. y ∷ ys) (h 0 (omega arith)) (table-all n (λ i. f (suc i)) xs d (omega arith) (λ k l. h (suc k) (omega arith)))

pub mixed-all : (cs : List ℕ) (bs : List Packet) (r : Packet) → length r ≡ 1024 → ((k : ℕ) → k < 1024 → get_or r k 0 ≡ mix_at cs bs k) → r ≡ mixed byte_field 1024 cs bs
mixed-all cs bs r long h = table-all 1024 (λ k. at (mix byte_field cs bs) k) r 0 long (λ k l. h k l ∙ mix-at cs bs k)
