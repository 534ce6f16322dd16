-- Words that are written one after the other are found again by their places, and words that are read are written back.
use Rattle.std.proofs.Common.{◌≡◌, ℕ, zero, suc, ◌+◌, ◌*◌, ◌/◌, ◌%◌, ◌<◌, ◌≤◌, List, [], ◌∷◌, ◌++◌, map, length, get_or, drop, sym, refl, ap, ◌∙◌, ap₂, append_assoc, arith}
use Rattle.std.specs.List.{range_with_len, flat_map}
use Rattle.std.proofs.lemmas.List.{get_or-append_right, drop_more}
use Rattle.octets.specs.Words.{word_bytes, word_at}

-- behind a part of n bytes
pub byte-behind : (p q : List ℕ) (n i j : ℕ) → length p ≡ n → n + i ≡ j → get_or (p ++ q) j 0 ≡ get_or q i 0
byte-behind p q n i j e f = get_or-append_right p q n j 0 e (omega arith) ∙ ap (λ k. get_or q k 0) (omega arith)

pub word-behind : (p q : List ℕ) (n i j : ℕ) → length p ≡ n → n + i ≡ j → word_at (p ++ q) j ≡ word_at q i
unfolding word_at
word-behind p q n i j e f = rw (byte-behind p q n i j e f, byte-behind p q n (i + 1) (j + 1) e (omega arith))

pub word_back : (x : ℕ) → 256 * (x / 256) + x % 256 ≡ x
word_back x = omega arith

pub word_first : (x : ℕ) (q : List ℕ) → word_at (word_bytes x ++ q) 0 ≡ x
unfolding word_at
word_first x q = word_back x

pub length-words : (xs : List ℕ) → length (flat_map word_bytes xs) ≡ 2 * length xs
length-words [] = refl
length-words (x ∷ xs) = let e = length-words xs in omega arith

pub words-at : (xs q : List ℕ) (i j : ℕ) → i < length xs → 2 * i ≡ j → word_at (flat_map word_bytes xs ++ q) j ≡ get_or xs i 0
words-at [] q i j h e = absurd (omega arith)
words-at (x ∷ xs) q zero j h e = rw (sym e) (word_first x (flat_map word_bytes xs ++ q))
words-at (x ∷ xs) q (suc i) j h e =
    word-behind (word_bytes x) (flat_map word_bytes xs ++ q) 2 (2 * i) j refl (omega arith) ∙ words-at xs q i (2 * i) (omega arith) refl

module _ (bs : List ℕ) (small : (i : ℕ) → get_or bs i 0 < 256) where
  pub word_kept : (i j : ℕ) → i + 2 ≡ j → j ≤ length bs → word_bytes (word_at bs i) ++ drop j bs ≡ drop i bs
  unfolding word_at
  word_kept i j e h =
      let low = small (i + 1) in
      let first : drop i bs ≡ get_or bs i 0 ∷ drop (i + 1) bs = drop_more bs i 0 (omega arith) in
      let second : drop (i + 1) bs ≡ get_or bs (i + 1) 0 ∷ drop (i + 1 + 1) bs = drop_more bs (i + 1) 0 (omega arith) in
      let end : i + 1 + 1 ≡ j = omega arith in
      let high : (256 * get_or bs i 0 + get_or bs (i + 1) 0) / 256 ≡ get_or bs i 0 = omega arith in
      let rest : (256 * get_or bs i 0 + get_or bs (i + 1) 0) % 256 ≡ get_or bs (i + 1) 0 = omega arith in
      ap₂ (λ x y. x ∷ y ∷ drop j bs) high rest ∙ sym (first ∙ ap (λ l. get_or bs i 0 ∷ l) (second ∙ ap (λ k. get_or bs (i + 1) 0 ∷ drop k bs) end))

  -- words one after the other, from `start` on
  pub words-kept : (start k n i j : ℕ) → start + 2 * k ≡ i → i + 2 * n ≡ j → j ≤ length bs
      → flat_map word_bytes (map (λ l. word_at bs (start + 2 * l)) (range_with_len k n)) ++ drop j bs ≡ drop i bs
  words-kept start k zero i j e f h = ap (λ x. drop x bs) (omega arith)
  words-kept start k (suc n) i j e f h =
      append_assoc (word_bytes (word_at bs (start + 2 * k))) _ (drop j bs)
      ∙ ap (λ l. word_bytes (word_at bs (start + 2 * k)) ++ l) (words-kept start (k + 1) n (i + 2) j (omega arith) (omega arith) h)
      ∙ word_kept (start + 2 * k) (i + 2) (omega arith) (omega arith)
      ∙ ap (λ x. drop x bs) e
