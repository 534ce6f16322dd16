-- The elements of which P holds are numbered from 0 to c - 1.
-- The numbers of the elements of a list are the digits, to the base c, of the list's own number: so there are c ^ n lists of n elements.
-- A packet is a list of symbols and a message a list of packets, so the one lemma numbers both.
-- A function from more elements to fewer takes two to the same, by the pigeonhole principle on their numbers.
use Rattle.std.proofs.Common.{◌≡◌, ℕ, zero, suc, ◌+◌, ◌*◌, ◌/◌, ◌%◌, ◌^◌, ◌<◌, ◌≤◌, List, [], ◌∷◌, length, sym, refl, ap, ◌∙◌, ap₂, mod-lt, div-lt_iff_lt-mul, pow-suc, div-add-mod', mul-one, arith}
use native.Mathlib.Nat.{pow-zero, pow-le-pow_right, mul-lt-mul_of_pos_left}
use lib.Arith.{digits_lt, digits_div, digits_mod}
use Rattle.std.specs.List.{AllByRecursion}
use Rattle.network_cuts.specs.Across.{Tuple, Collision}
use Rattle.network_cuts.proofs.Pigeonhole.{meet}

pub record Numbering {A : Type 0} (P : A → Type 0) (c : ℕ) : Type 0 where
  pub number : A → ℕ
  pub nth : ℕ → A
  pub nth-is : (i : ℕ) → i < c → P (nth i)
  pub number-below : (x : A) → P x → number x < c
  pub number-nth : (i : ℕ) → i < c → number (nth i) ≡ i
  pub nth_number : (x : A) → P x → nth (number x) ≡ x

pub symbols : (q : ℕ) → Numbering (λ s. s < q) q
symbols q = record { number = λ s. s; nth = λ i. i; nth-is = λ i l. l; number-below = λ s l. l; number-nth = λ i l. refl; nth_number = λ s l. refl }

module _ {A : Type 0} {P : A → Type 0} {c : ℕ} (N : Numbering P c) (pos : 0 < c) where
  open N use {number, nth}

  numbers : List A → ℕ
  numbers [] = 0
  numbers (x ∷ xs) = numbers xs * c + number x

  nths : (n : ℕ) → ℕ → List A
  nths zero i = []
  nths (suc n) i = nth (i % c) ∷ nths n (i / c)

  nths-count : (n i : ℕ) → length (nths n i) ≡ n
  unfolding nths
  nths-count zero i = refl
  nths-count (suc n) i = ap suc (nths-count n (i / c))

  nths-each : (n i : ℕ) → AllByRecursion P (nths n i)
  unfolding nths
  nths-each zero i = tt
  nths-each (suc n) i = (N.nth-is (i % c) (mod-lt i pos), nths-each n (i / c))

  numbers-below : (xs : List A) → AllByRecursion P xs → numbers xs < c ^ length xs
  unfolding numbers
  numbers-below [] a = rw pow-zero (omega arith)
  numbers-below (x ∷ xs) a = rw pow-suc (digits_lt (numbers-below xs a.1) (N.number-below x a.0))

  numbers-nths : (n i : ℕ) → i < c ^ n → numbers (nths n i) ≡ i
  unfolding numbers nths
  numbers-nths zero i l = omega (arith, pow-zero c)
  numbers-nths (suc n) i l =
      let r : numbers (nths n (i / c)) ≡ i / c = numbers-nths n (i / c) ((div-lt_iff_lt-mul pos).1 (rw pow-suc at l)) in
      ap₂ (λ a b. a * c + b) r (N.number-nth (i % c) (mod-lt i pos)) ∙ div-add-mod' i c

  nths-numbers : (xs : List A) → AllByRecursion P xs → nths (length xs) (numbers xs) ≡ xs
  unfolding numbers nths
  nths-numbers [] a = refl
  nths-numbers (x ∷ xs) a =
      let l : number x < c = N.number-below x a.0 in
      ap₂ (λ y ys. y ∷ ys) (ap nth (digits_mod (numbers xs) l) ∙ N.nth_number x a.0)
      (ap (nths (length xs)) (digits_div (numbers xs) l) ∙ nths-numbers xs a.1)

  pub tuples : (n : ℕ) → Numbering (Tuple n P) (c ^ n)
  tuples n = record {
    number = numbers;
    nth = nths n;
    nth-is = λ i l. record { count = nths-count n i; each = nths-each n i };
    number-below = λ xs t. rw t.count at (numbers-below xs t.each);
    number-nth = numbers-nths n;
    nth_number = λ xs t. rw t.count at (nths-numbers xs t.each);
  }

-- more elements make more lists
pub power-more : (c i j : ℕ) → 1 < c → i < j → c ^ i < c ^ j
power-more c i j more l =
    let pos : c ^ 0 ≤ c ^ i = pow-le-pow_right {n = c} (omega arith) (omega arith) in
    let step : c ^ i * 1 < c ^ i * c = mul-lt-mul_of_pos_left more (omega (arith, pow-zero c)) in
    let rest : c ^ suc i ≤ c ^ j = pow-le-pow_right {n = c} (omega arith) (omega arith) in
    omega (arith, pow-suc c i, mul-one (c ^ i))

-- a function from more elements to fewer
pub collide : {A B : Type 0} {P : A → Type 0} {Q : B → Type 0} {c d : ℕ} → Numbering P c → Numbering Q d → d < c
    → (F : A → B) → ((x : A) → P x → Q (F x)) → Collision P F
collide {c = c} {d = d} N M fewer F keeps =
    let t = meet d c (λ i. M.number (F (N.nth i))) fewer (λ i l. M.number-below _ (keeps _ (N.nth-is i l))) in
    let l : t.one < c = omega arith in
    record {
      one = N.nth t.one;
      two = N.nth t.two;
      first = N.nth-is t.one l;
      second = N.nth-is t.two t.below;
      differ = λ e. omega (arith, ap N.number e, N.number-nth t.one l, N.number-nth t.two t.below);
      same =
          sym (M.nth_number _ (keeps _ (N.nth-is t.one l))) ∙ ap M.nth t.same
          ∙ M.nth_number _ (keeps _ (N.nth-is t.two t.below));
    }
