-- Parts of a list: a write to one part leaves the others as they are, and parts side by side make up a longer one.
use Rattle.std.proofs.Common.{◌≡◌, ℕ, zero, suc, ◌+◌, ◌-◌, ◌*◌, ◌<◌, ◌≤◌, List, [], ◌∷◌, ◌++◌, map, length, get_or, take, drop, sym, refl, ap, ◌∙◌, inl, inr, suc-mul, add-mul, one-mul, zero-mul, arith, drop-drop, take-add}
use Rattle.std.specs.List.{range_with_len, flat_map}
use Rattle.std.specs.Simd.{first_chunks}
use borrow.Rule.Slice.PartMut.{put_mid}
use Rattle.std.proofs.lemmas.Slice.{between-put_mid, take-put_mid_below, drop-put_mid}
use Rattle.std.proofs.lemmas.Nat.{mul-le}
use Rattle.std.proofs.lemmas.List.{drop-take, get_or-take, get_or-drop, length-take-le, length-drop, take_all}
use Rattle.std.proofs.lemmas.Bool.{cases_order}
use Rattle.network_cuts.specs.Scheme.{Packet}
use Rattle.relay_memory.specs.Memory.{part, cut}

-- part j of m parts of n elements ends within them
pub part_end : (j m n : ℕ) → j < m → j * n + n ≤ m * n
part_end j m n l = omega (arith, mul-le (suc j) n m n l (omega arith), suc-mul j n)

-- a slice of n elements, as the code takes it
pub slice-part : {A : Type 0} (j m n : ℕ) (xs ys : List A) → n ≡ m → ys ≡ xs → take (j * n + n - j * n) (drop (j * n) ys) ≡ part m j xs
slice-part j m n xs ys e f =
    let q : j * n + n - j * n ≡ n = omega arith in
    rw (q, e, f) refl

pub get_d_part : {A : Type 0} (n j i : ℕ) (xs : List A) (d : A) → i < n → get_or (part n j xs) i d ≡ get_or xs (j * n + i) d
get_d_part n j i xs d l = get_or-take n (drop (j * n) xs) i d l ∙ get_or-drop (j * n) xs i d

pub length_part : {A : Type 0} (n j : ℕ) (xs : List A) → j * n + n ≤ length xs → length (part n j xs) ≡ n
length_part n j xs l = length-take-le n (drop (j * n) xs) (simp length-drop (omega arith))

-- packets as the code cuts them, from packet a on
chunks-from : (n k a : ℕ) (xs : List ℕ) → first_chunks n k (drop (a * n) xs) ≡ map (λ j. part n j xs) (range_with_len a k)
chunks-from n zero a xs = refl
chunks-from n (suc k) a xs =
    let next : (a + 1) * n ≡ a * n + n = add-mul a 1 n ∙ ap (λ x. a * n + x) (one-mul n) in
    ap (λ l. part n a xs ∷ l) (ap (first_chunks n k) (drop-drop n (a * n) xs ∙ ap (λ d. drop d xs) (sym next)) ∙ chunks-from n k (a + 1) xs)

pub cut-chunks : (width m : ℕ) (bytes : List ℕ) → m ≡ width → first_chunks 1024 m bytes ≡ cut width bytes
cut-chunks width m bytes e = rw e (chunks-from 1024 width 0 bytes)

-- the packets of one slot are written, and k is their number, as the code has it
module _ (s width k : ℕ) (old packets : List Packet) (e : k ≡ width) (long : length packets ≡ width) (room : s * width + width ≤ length old) where
  pub put-here : part width s (put_mid (s * width) k old packets) ≡ packets
  put-here =
      let q : s * width + width - s * width ≡ width = omega arith in
      sym (ap (λ n. take n (drop (s * width) (put_mid (s * width) k old packets))) q)
      ∙ between-put_mid (s * width) k old packets (s * width + width) (omega arith) (omega arith)

  pub put-apart : (t : ℕ) → (t ≡ s → ⊥) → part width t (put_mid (s * width) k old packets) ≡ part width t old
  put-apart t o =
      elim (cases_order t s) [
        | inl e ↦ absurd (o e)
        | inr (inl l) ↦ sym (drop-take (t * width) width _) ∙ ap (drop (t * width)) (take-put_mid_below (s * width) k old packets (t * width + width) (part_end t s width l) (omega arith)) ∙ drop-take (t * width) width old
        | inr (inr l) ↦ ap (take width) (drop-put_mid (s * width) k old packets (t * width) (omega (arith, part_end s t width l)) (omega arith) (omega arith))
      ]

-- n parts side by side, from part a on
pub joined-parts : {A : Type 0} (n w a : ℕ) (xs : List A) → flat_map (λ m. m) (map (λ s. part w s xs) (range_with_len a n)) ≡ take (n * w) (drop (a * w) xs)
joined-parts zero w a xs = rw (zero-mul w)
joined-parts (suc n) w a xs =
    let next : (a + 1) * w ≡ a * w + w = add-mul a 1 w ∙ ap (λ x. a * w + x) (one-mul w) in
    let more : suc n * w ≡ w + n * w = omega (arith, suc-mul n w) in
    ap (λ l. part w a xs ++ l) (joined-parts n w (a + 1) xs ∙ ap (λ k. take (n * w) (drop k xs)) next ∙ ap (take (n * w)) (sym (drop-drop w (a * w) xs)))
    ∙ sym (ap (λ k. take k (drop (a * w) xs)) more ∙ take-add w (n * w) (drop (a * w) xs))

-- one packet alone
pub cut-one : (width : ℕ) (packet : List ℕ) → width ≡ 1 → length packet ≡ 1024 → cut width packet ≡ packet ∷ []
cut-one width packet e l = ap (λ w. cut w packet) e ∙ ap (λ p. p ∷ []) (take_all 1024 packet (omega arith))
