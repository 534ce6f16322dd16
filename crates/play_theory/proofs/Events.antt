-- Events one after the other; and a packet that is found under way can be picked.
use Rattle.std.proofs.Common.{◌≡◌, ℕ, suc, ◌+◌, Bool, List, [], ◌∷◌, ◌++◌, length, sym, refl, ap, ◌∙◌, subst, ap₂, arith}
use Rattle.network.specs.Network.{Network}
use Rattle.network_cuts.specs.Scheme.{Packet, Scheme}
use Rattle.relay_theory.specs.Relay.{Parcel, find}
use Rattle.relay_theory.proofs.Finds.{find-same, find-other, Hit, hit, miss, hits}
use Rattle.run_theory.specs.Run.{Reader, Config, Event, begin, deliver, Outcome, went, cannot, refuses, and_then, picked, beyond, pick, step, steps}
use Rattle.run_theory.specs.Promise.{Led, arrivals}
use Rattle.run_theory.proofs.Finds.{Taken, first, later}

module _ (z : Network) (f : Scheme) (read : Reader) (may : Config → Bool) where
  both : (es ds : List Event) (o : Outcome) → and_then (and_then o (steps z f read may es)) (steps z f read may ds) ≡ and_then o (λ c. and_then (steps z f read may es c) (steps z f read may ds))
  both es ds (went c) = refl
  both es ds cannot = refl
  both es ds (refuses n) = refl

  pub steps-append : (es ds : List Event) (c : Config) → steps z f read may (es ++ ds) c ≡ and_then (steps z f read may es c) (steps z f read may ds)
  steps-append [] ds c = refl
  steps-append (e ∷ es) ds c = go (step z f read may c e) (steps-append es ds)
    where
      go : (o : Outcome) → ((c : Config) → steps z f read may (es ++ ds) c ≡ and_then (steps z f read may es c) (steps z f read may ds))
          → and_then o (steps z f read may (es ++ ds)) ≡ and_then (and_then o (steps z f read may es)) (steps z f read may ds)
      go (went c) ih = ih c
      go cannot ih = refl
      go (refuses n) ih = refl

  -- one event more
  pub one_more : (es : List Event) (e : Event) (a b c : Config) → steps z f read may es a ≡ went b → step z f read may b e ≡ went c → steps z f read may (es ++ e ∷ []) a ≡ went c
  one_more es e a b c h d = steps-append es (e ∷ []) a ∙ ap (λ o. and_then o (steps z f read may (e ∷ []))) h ∙ ap (λ o. and_then o (steps z f read may [])) d

  pub led_on : (es : List Event) (a b : Config) → Led z f read may a → steps z f read may es a ≡ went b → Led z f read may b
  led_on es a b led h = (led.0 ++ es, steps-append led.0 es _ ∙ ap (λ o. and_then o (steps z f read may es)) led.1 ∙ h)

pub arrivals-more : (es : List Event) (i : ℕ) → arrivals (es ++ deliver i ∷ []) ≡ arrivals es + 1
unfolding arrivals
arrivals-more [] i = omega arith
arrivals-more (begin m ∷ es) i = arrivals-more es i
arrivals-more (deliver j ∷ es) i = omega (arith, arrivals-more es i)

abbrev pub parcel : (k r : ℕ) → Packet → Parcel Packet
parcel k r v = record { link = k; round = r; content = v }

-- what is found is somewhere
pub record Somewhere (xs : List (Parcel Packet)) (x : Parcel Packet) : Type 0 where
  pub place : ℕ
  pub left : List (Parcel Packet)
  pub picks : pick place xs ≡ picked x left
  pub taken : Taken x xs left

pub somewhere : (xs : List (Parcel Packet)) (k r : ℕ) (v : Packet) → find xs k r ≡ v ∷ [] → Somewhere xs (parcel k r v)
unfolding pick find
somewhere [] k r v e = absurd (let n = ap length e in omega arith)
somewhere (x ∷ xs) k r v e = go (hits k r x) (somewhere xs k r v)
  where
    go : Hit k r x → (find xs k r ≡ v ∷ [] → Somewhere xs (parcel k r v)) → Somewhere (x ∷ xs) (parcel k r v)
    go (hit a b) ih =
        let f₀ : find (x ∷ xs) x.link x.round ≡ v ∷ [] = ap₂ (λ i j. find (x ∷ xs) i j) (sym a) (sym b) ∙ e in
        let h = find-same x xs in
        let c : x.content ≡ v = cc in
        let same : x ≡ parcel k r v = rw (a, b, sym c) refl in
        record { place = 0; left = xs; picks = ap (λ y. picked y xs) same; taken = subst (λ y. Taken y (x ∷ xs) xs) same first }
    go (miss o) ih =
        let s = ih (sym (find-other k r x xs o) ∙ e) in
        record { place = suc s.place; left = x ∷ s.left; picks = ap (beyond x) s.picks; taken = later s.taken }
