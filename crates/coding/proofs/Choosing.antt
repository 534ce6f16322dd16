-- The coefficients of a link, receiver by receiver. `Chosen` is what the code holds when some receivers have had their turn: the
-- coefficients are the definition's, the vector is their mix of what is at hand, and the rows are the receivers' tests. The code tests a t
-- by two numbers for each row, since what a row makes of a sum is the sum of what it makes of both; the order of the tests doesn't matter.
use Rattle.std.proofs.Common.{◌≡◌, ℕ, zero, suc, ◌+◌, ◌<◌, ◌≤◌, Bool, true, false, cond, not, ◌&&◌, eqb, ltb, List, [], ◌∷◌, ◌++◌, map, length, sym, refl, ap, ◌∙◌, subst, ap₂, inl, inr, arith}
use lib.Bits.{bit_xor}
use Rattle.std.proofs.lemmas.List.{map-append}
use Rattle.std.proofs.lemmas.Bool.{cond-true, cond-false, cases_eq, and_from}
use Rattle.gf.proofs.Fields.{byte_field}
use Rattle.gf_bytes.specs.Byte.{times}
use Rattle.gf_bytes.specs.declared.vector.Vector.{Vector}
use Rattle.linear.specs.Vectors.{at, row, plus, scale, mix, dot}
use Rattle.linear.specs.Lowest.{lowest}
use Rattle.linear.specs.Dual.{serves}
use Rattle.linear.specs.Choice.{added, serves_all}
use Rattle.linear.specs.Transport.{Both, none, and}
use Rattle.linear.proofs.Sums.{by-same, by_left, none-by}
use Rattle.linear.proofs.Lists.{at-mix, mix-plus, mix-scale}
use Rattle.linear.proofs.Dual.{of-serves}
use Rattle.linear.proofs.Choice.{dot-added, t-found}
use Rattle.std.specs.List.{All}
use Rattle.std.proofs.lemmas.List.Elements.{All-head, All-tail}
use Rattle.coding_theory.specs.Coding.{place, Carrier, trial, Receiver, current_at, Want, wants, next, choose}
use Rattle.coding_theory.proofs.Choose.{Wanted, choose-serves}
use Rattle.coding_theory.proofs.Carry.{both-push}
use Rattle.coding_steps.specs.Rows.{bytes_of, AllCounted}
use Rattle.coding_steps.specs.Products.{product_of, all_served, Extended}

-- ONE MORE AT THE END

-- the tests that are done with, the latest first
unfoldable pub done_with : List (List ℕ) → List Want → List (List ℕ)
done_with done [] = done
done_with done (w ∷ ws) = done_with (w.test ∷ done) ws

abbrev pub test_of : Want → List ℕ
test_of w = w.test

pub wants-push : (h e : ℕ) (names : List Carrier) (rs : List Receiver) (r : Receiver)
    → wants h e names (rs ++ r ∷ [])
    ≡ wants h e names rs
    ++ cond (ltb (place e r.aim.paths) h) (record { test = row r.dual (place e r.aim.paths); trial = trial (current_at r (place e r.aim.paths)) names } ∷ []) []
unfolding wants
wants-push h e names [] r = refl
wants-push h e names (s ∷ rs) r =
    elim (ltb (place e s.aim.paths) h) as (λ b. cond b (w ∷ wants h e names (rs ++ r ∷ [])) (wants h e names (rs ++ r ∷ [])) ≡ cond b (w ∷ wants h e names rs) (wants h e names rs) ++ last) [
      | true ↦ ap (λ q. w ∷ q) (wants-push h e names rs r)
      | false ↦ wants-push h e names rs r
    ]
  where
    w : Want
    w = record { test = row s.dual (place e s.aim.paths); trial = trial (current_at s (place e s.aim.paths)) names }

    last : List Want
    last = cond (ltb (place e r.aim.paths) h) (record { test = row r.dual (place e r.aim.paths); trial = trial (current_at r (place e r.aim.paths)) names } ∷ []) []

choose-push : (h : ℕ) (hands : List (List ℕ)) (ws : List Want) (w : Want) (done : List (List ℕ)) (cs : List ℕ)
    → choose byte_field h hands done cs (ws ++ w ∷ []) ≡ next byte_field h hands (done_with done ws) (choose byte_field h hands done cs ws) w
unfolding choose done_with
choose-push h hands [] w done cs = refl
choose-push h hands (x ∷ ws) w done cs = choose-push h hands ws w (x.test ∷ done) (next byte_field h hands done cs x)

length-done : (done : List (List ℕ)) (ws : List Want) → length (done_with done ws) ≡ length ws + length done
unfolding done_with
length-done done [] = omega arith
length-done done (w ∷ ws) = length-done (w.test ∷ done) ws ∙ omega arith

and-swap : (a b : Bool) → a && b ≡ b && a
and-swap true true = refl
and-swap true false = refl
and-swap false true = refl
and-swap false false = refl

and-shift : (a b c : Bool) → (a && b) && c ≡ b && (a && c)
and-shift true true c = refl
and-shift true false c = refl
and-shift false true c = refl
and-shift false false c = refl

and-turn : (a b c : Bool) → a && (b && c) ≡ b && (a && c)
and-turn true b c = refl
and-turn false true c = refl
and-turn false false c = refl

-- TESTS

module _ (h : ℕ) (v : List ℕ) where
  all_done : (ws : List Want) (done : List (List ℕ)) → serves_all byte_field h v (done_with done ws) ≡ serves_all byte_field h v (map test_of ws) && serves_all byte_field h v done
  unfolding serves_all done_with
  all_done [] done = refl
  all_done (w ∷ ws) done =
      all_done ws (w.test ∷ done)
      ∙ sym (and-shift (serves byte_field h v w.test) (serves_all byte_field h v (map test_of ws)) (serves_all byte_field h v done))

  all_push : (rs : List (List ℕ)) (r : List ℕ) → serves_all byte_field h v (rs ++ r ∷ []) ≡ serves_all byte_field h v (r ∷ rs)
  unfolding serves_all
  all_push [] r = refl
  all_push (x ∷ rs) r = ap (λ b. serves byte_field h v x && b) (all_push rs r) ∙ and-turn (serves byte_field h v x) (serves byte_field h v r) (serves_all byte_field h v rs)

  same_tests : (ws : List Want) (w : Want) → serves_all byte_field h v (w.test ∷ done_with [] ws) ≡ serves_all byte_field h v (map test_of (ws ++ w ∷ []))
  unfolding serves_all
  same_tests ws w =
      ap (λ b. serves byte_field h v w.test && b) (all_done ws [] ∙ and-swap (serves_all byte_field h v (map test_of ws)) true)
      ∙ sym (ap (serves_all byte_field h v) (map-append test_of ws (w ∷ [])) ∙ all_push (map test_of ws) w.test)

-- a row of the code is a test of the definition
abbrev pub Like : ℕ → Vector → Want → Type 0
Like h x w = (x.count ≡ h) × ((k : ℕ) → k < h → at x.bytes k ≡ at w.test k)

like-counted : (h : ℕ) (rows : List Vector) (ws : List Want) → Both (Like h) rows ws → AllCounted h rows
like-counted h [] [] none k l = absurd (omega arith)
like-counted h [] (w ∷ ws) b k l = elim b [ ]
like-counted h (x ∷ rows) [] b k l = elim b [ ]
like-counted h (x ∷ rows) (w ∷ ws) (and y b) zero l = y.0
like-counted h (x ∷ rows) (w ∷ ws) (and y b) (suc k) l = like-counted h rows ws b k (omega arith)

module _ (h : ℕ) (hands : List (List ℕ)) (cs ds v u : List ℕ)
    (is-v : (x : ℕ) → x < h → at v x ≡ at (mix byte_field cs hands) x) (is-u : (x : ℕ) → x < h → at u x ≡ at (mix byte_field ds hands) x) where
  one-test : (x : Vector) (w : Want) → Like h x w → (t : ℕ)
      → bit_xor (dot byte_field h x.bytes v) (times t (dot byte_field h x.bytes u)) ≡ dot byte_field h w.test (added byte_field hands cs ds t)
  one-test x w y t =
      ap₂ (λ a b. bit_xor a (times t b))
      (by-same byte_field h (at x.bytes) (at w.test) (at v) (at (mix byte_field cs hands)) y.1 is-v)
      (by-same byte_field h (at x.bytes) (at w.test) (at u) (at (mix byte_field ds hands)) y.1 is-u)
      ∙ sym (dot-added byte_field h hands cs ds w.test t)

  all-tests : (rows : List Vector) (ws : List Want) → Both (Like h) rows ws → (t : ℕ)
      → all_served (map (product_of h v u) (bytes_of rows)) t ≡ serves_all byte_field h (added byte_field hands cs ds t) (map test_of ws)
  unfolding serves_all
  all-tests [] [] none t = refl
  all-tests [] (w ∷ ws) b t = elim b [ ]
  all-tests (x ∷ rows) [] b t = elim b [ ]
  all-tests (x ∷ rows) (w ∷ ws) (and y b) t = ap₂ (λ p q. not (eqb p 0) && q) (one-test x w y t) (all-tests rows ws b t)

lowest-same : (f g : ℕ → Bool) → ((t : ℕ) → f t ≡ g t) → (n t : ℕ) → lowest f n t ≡ lowest g n t
unfolding lowest
lowest-same f g e zero t = refl
lowest-same f g e (suc n) t = ap₂ (λ b x. cond b t x) (e t) (lowest-same f g e n (suc t))

each_all : (h : ℕ) (v : List ℕ) (ws : List Want) → All (λ w. serves byte_field h v w.test ≡ true) ws → serves_all byte_field h v (map test_of ws) ≡ true
unfolding serves_all
each_all h v [] a = refl
each_all h v (w ∷ ws) a =
    and_from _ _ (All-head (λ w. serves byte_field h v w.test ≡ true) w ws a) (each_all h v ws (All-tail (λ w. serves byte_field h v w.test ≡ true) w ws a))

zeros-at : {A : Type 0} (xs : List A) (k : ℕ) → at (map (λ n. 0) xs) k ≡ 0
zeros-at [] k = refl
zeros-at (x ∷ xs) zero = refl
zeros-at (x ∷ xs) (suc k) = zeros-at xs k

-- RECEIVER BY RECEIVER

module _ (h : ℕ) (hands : List (List ℕ)) (names : List Carrier) where
  pub record Chosen (ws : List Want) (cs : List ℕ) (v : Vector) (rows : List Vector) : Type 0 where
    pub coefficients : cs ≡ choose byte_field h hands [] (map (λ n. 0) names) ws
    pub count : v.count ≡ h
    pub vector : (x : ℕ) → x < h → at v.bytes x ≡ at (mix byte_field cs hands) x
    pub tests : Both (Like h) rows ws

  pub chosen_none : (v : Vector) → v.count ≡ h → ((x : ℕ) → x < h → at v.bytes x ≡ 0) → Chosen [] (map (λ n. 0) names) v []
  unfolding choose
  chosen_none v ev empty = record {
    coefficients = refl;
    count = ev;
    vector = λ x l. empty x l ∙ sym (at-mix byte_field (map (λ n. 0) names) hands x
        ∙ by_left byte_field (length hands) (at (map (λ n. 0) names)) (λ k. 0) (λ j. at (row hands j) x) (λ k _. zeros-at names k) ∙ none-by byte_field (length hands) (λ j. at (row hands j) x));
    tests = none;
  }

  module _ (ws : List Want) (cs : List ℕ) (v : Vector) (rows : List Vector) (c : Chosen ws cs v rows)
      (w : Want) (x : Vector) (y : Like h x w) (u : List ℕ) (is-u : (k : ℕ) → k < h → at u k ≡ at (mix byte_field w.trial hands) k) where
    abbrev rows' : List Vector
    rows' = rows ++ x ∷ []

    tests' : Both (Like h) rows' (ws ++ w ∷ [])
    tests' = both-push (Like h) rows ws x w c.tests y

    pub more-counted : AllCounted v.count rows'
    more-counted = subst (λ n. AllCounted n rows') (sym c.count) (like-counted h rows' (ws ++ w ∷ []) tests')

    -- what the last row makes of the vector
    last-is : dot byte_field v.count x.bytes v.bytes ≡ dot byte_field h w.test (mix byte_field cs hands)
    last-is =
        ap (λ n. dot byte_field n x.bytes v.bytes) c.count
        ∙ by-same byte_field h (at x.bytes) (at w.test) (at v.bytes) (at (mix byte_field cs hands)) y.1 c.vector

    abbrev tests-of : ℕ → Bool
    tests-of t = serves_all byte_field h (added byte_field hands cs w.trial t) (w.test ∷ done_with [] ws)

    -- the t that the code finds is that of the definition
    lowest-is : lowest (all_served (map (product_of v.count v.bytes u) (bytes_of rows'))) 255 1 ≡ lowest tests-of 255 1
    lowest-is =
        ap (λ n. lowest (all_served (map (product_of n v.bytes u) (bytes_of rows'))) 255 1) c.count
        ∙ lowest-same _ tests-of
        (λ t. all-tests h hands cs w.trial v.bytes u c.vector is-u rows' (ws ++ w ∷ []) tests' t ∙ sym (same_tests h (added byte_field hands cs w.trial t) ws w)) 255 1

    pub chosen-found : All (Wanted byte_field h hands) ws → Wanted byte_field h hands w → 1 + length ws < 256
        → dot byte_field v.count x.bytes v.bytes ≡ 0 → lowest (all_served (map (product_of v.count v.bytes u) (bytes_of rows'))) 255 1 < 256
    unfolding serves_all
    chosen-found us wanted room z =
        let served = (choose-serves byte_field h hands ws [] (map (λ n. 0) names) refl us (omega arith)).1 in
        let all : serves_all byte_field h (mix byte_field cs hands) (done_with [] ws) ≡ true =
        all_done h (mix byte_field cs hands) ws [] ∙ ap (λ b. b && true) (each_all h (mix byte_field cs hands) ws (subst (λ q. All (λ w. serves byte_field h (mix byte_field q hands) w.test ≡ true) ws) (sym c.coefficients) served)) in
        let low =
        t-found byte_field h hands (done_with [] ws) cs w.trial w.test all (ap (λ b. not (eqb b 0)) (sym last-is ∙ z))
        (of-serves byte_field h _ w.test (λ q. let n : ◌≡◌ {A = ℕ} 1 0 = sym wanted ∙ q in omega arith)) (omega (arith, length-done [] ws)) in
        subst (λ n. n < 256) (sym lowest-is) low.below

    next-same : (dot byte_field h w.test (mix byte_field cs hands) ≡ 0 → ⊥) → next byte_field h hands (done_with [] ws) cs w ≡ cs
    unfolding next
    next-same ne = cond-true _ _ _ (of-serves byte_field h (mix byte_field cs hands) w.test ne)

    next-adds : dot byte_field h w.test (mix byte_field cs hands) ≡ 0
        → next byte_field h hands (done_with [] ws) cs w ≡ plus cs (scale byte_field (lowest tests-of 255 1) w.trial)
    unfolding next
    next-adds z = cond-false _ _ _ (ap (λ b. not (eqb b 0)) z)

    pub chosen_more : (cs' : List ℕ) (v' : Vector) → h ≤ 32 → Extended (bytes_of rows') x.bytes u w.trial cs v cs' v' → Chosen (ws ++ w ∷ []) cs' v' rows'
    chosen_more cs' v' lh x' =
        elim (cases_eq (dot byte_field h w.test (mix byte_field cs hands)) 0) [
          | inl z ↦
              let a = x'.added (last-is ∙ z) in
              let t : ℕ = lowest tests-of 255 1 in
              let is : cs' ≡ plus cs (scale byte_field t w.trial) = a.coefficients ∙ ap (λ n. plus cs (scale byte_field n w.trial)) lowest-is in
              record {
                coefficients = is ∙ sym (pushed ∙ next-adds z);
                count = a.count ∙ c.count;
                vector = λ k lk.
                    a.bytes k (omega arith) ∙ ap₂ bit_xor (c.vector k lk) (ap₂ times lowest-is (is-u k lk))
                    ∙ sym (ap (λ q. at (mix byte_field q hands) k) is ∙ mix-plus byte_field cs (scale byte_field t w.trial) hands k
                    ∙ ap (bit_xor (at (mix byte_field cs hands) k)) (mix-scale byte_field t w.trial hands k));
                tests = tests';
              }
          | inr ne ↦
              let a = x'.served (λ z. ne (sym last-is ∙ z)) in
              record {
                coefficients = a.0 ∙ sym (pushed ∙ next-same ne);
                count = ap (λ q. q.count) a.1 ∙ c.count;
                vector = λ k lk. ap (λ q. at q.bytes k) a.1 ∙ c.vector k lk ∙ ap (λ q. at (mix byte_field q hands) k) (sym a.0);
                tests = tests';
              }
        ]
      where
        pushed : choose byte_field h hands [] (map (λ n. 0) names) (ws ++ w ∷ []) ≡ next byte_field h hands (done_with [] ws) cs w
        pushed = choose-push h hands ws w [] (map (λ n. 0) names) ∙ ap (λ q. next byte_field h hands (done_with [] ws) q w) (sym c.coefficients)
