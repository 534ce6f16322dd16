-- The rows of plans. A plan is computed once; what follows of it is read off the plan.
use mathlib.Core.Path.{◌≡◌, refl, ap, ap₂, sym, subst, ◌∙◌}
use mathlib.Core.Bool.{true, false}
use mathlib.Core.List.{List, [], ◌∷◌}
use Prim.Native.Nat.{ℕ, ◌<◌}
use native.Mathlib.Omega.{arith}
use lib.Bits.{bit_xor, xor_zero_r}
use lib.Dec.{lit<}
use lib.ListN.{length, set, replicate}
use lib.Seq.{ext_get_or, get_or-set_other}
use Rattle.gf.specs.Polynomial.{horner, xtime, mul}
use Rattle.gf.proofs.Fields.{byte_field}
use Rattle.linear.specs.Vectors.{at, row, table as flags, plus, scale, mix, mixed}
use Rattle.linear.specs.Lowest.{lowest}
use Rattle.linear.specs.Dual.{renew}
use Rattle.linear.specs.Choice.{serves_all}
use Rattle.linear.specs.Transport.{Message}
use Rattle.linear.specs.Reading.{read_by}
use Rattle.linear.proofs.Sums.{none-times}
use Rattle.linear.proofs.Lists.{get_d-table, length-table, at-plus, length-plus, mix-step}
use Rattle.network.specs.Network.{paired}
use Rattle.network_cuts.specs.Scheme.{Packet, into, carry, carried}
use Rattle.network_cuts.specs.Cut.{out}
use Rattle.flow_theory.specs.Flow.{listed, flagged, is_reached, links_to, add, go_on, search, turn_all, follow, parted, augment}
use Rattle.coding_theory.specs.Paths.{is_on}
use Rattle.coding_theory.specs.Coding.{incoming, place, wants, next, choose, passed, chosen, one_more, along, linear}
use Rattle.wire.specs.Plan.{Plan, served, unserved}
use Rattle.wire.specs.Format.{flag_byte, plan_bytes}
use Rattle.planner_theory.specs.Plan.{plan_of, route}
use Rattle.planner_theory.specs.Promise.{on_links, reader_at}
use Rattle.std.specs.List.{All}
use Rattle.std.proofs.lemmas.List.Elements.{All-from_recursion}
use Rattle.worked_examples.specs.Table.{nine2, nine3, one, two, unreached, nineteen, nine_plan, nine_bytes, cut_bytes, nineteen_plan, coefficients, readers, Holds, planned, refused, sums, beside, table}

-- COMPUTED PLANS

pub nine2-plan : plan_of nine2 ≡ nine_plan
unfolding route listed flagged is_reached links_to add go_on search turn_all follow parted augment paired is_on mul horner xtime into flags plus lowest incoming place wants scale mix serves_all next choose renew passed chosen one_more along
nine2-plan = refl

pub nine3-plan : plan_of nine3 ≡ unserved 5 (true ∷ replicate 255 false)
unfolding route listed flagged is_reached links_to add go_on search turn_all follow parted augment paired flags
nine3-plan = refl

pub one-plan : Holds (planned one (served ((1 ∷ []) ∷ []) (record { links = 0 ∷ []; rows = (1 ∷ []) ∷ [] } ∷ [])))
unfolding route listed flagged is_reached links_to add go_on search turn_all follow parted augment paired is_on mul horner xtime into flags plus lowest incoming place wants scale mix serves_all next choose renew passed chosen one_more along
one-plan = refl

pub two-plan : Holds (planned two (served ((1 ∷ 0 ∷ []) ∷ (0 ∷ 1 ∷ []) ∷ []) (record { links = 0 ∷ 1 ∷ []; rows = (1 ∷ 0 ∷ []) ∷ (0 ∷ 1 ∷ []) ∷ [] } ∷ [])))
unfolding route listed flagged is_reached links_to add go_on search turn_all follow parted augment paired is_on mul horner xtime into flags plus lowest incoming place wants scale mix serves_all next choose renew passed chosen one_more along
two-plan = refl

pub nineteen-plan : plan_of nineteen ≡ nineteen_plan
unfolding route listed flagged is_reached links_to add go_on search turn_all follow parted augment paired is_on mul horner xtime into flags plus lowest incoming place wants scale mix serves_all next choose renew passed chosen one_more along
nineteen-plan = refl

pub unreached-plan : plan_of unreached ≡ unserved 2 (true ∷ true ∷ replicate 254 false)
unfolding route listed flagged is_reached links_to add go_on search turn_all follow parted augment paired flags
unreached-plan = refl

-- WHAT LINKS CARRY

module _ (n : ℕ) (a b : Packet) (la : length a ≡ n) (lb : length b ≡ n) (sa : (i : ℕ) → i < n → at a i < 256) (sb : (i : ℕ) → i < n → at b i < 256) where
  -- at place i, by coefficients c and d
  at_both : (c d i : ℕ) → i < n → at (mixed byte_field n (c ∷ d ∷ []) (a ∷ b ∷ [])) i ≡ bit_xor (byte_field.times c (at a i)) (byte_field.times d (at b i))
  unfolding mix
  at_both c d i li =
      get_d-table n i _ 0 li
      ∙ mix-step byte_field c (d ∷ []) a (b ∷ []) i
      ∙ ap (bit_xor (byte_field.times c (at a i))) (mix-step byte_field d [] b [] i ∙ xor_zero_r _)

  first : mixed byte_field n (1 ∷ 0 ∷ []) (a ∷ b ∷ []) ≡ a
  first =
      ext_get_or 0 _ a (length-table n _ ∙ sym la)
      (λ i l.
      let li : i < n = omega (arith, length-table n (λ k. at (mix byte_field (1 ∷ 0 ∷ []) (a ∷ b ∷ [])) k)) in
      at_both 1 0 i li ∙ ap₂ bit_xor (byte_field.laws.one (at a i) (sa i li)) (none-times byte_field (at b i)) ∙ xor_zero_r (at a i))

  second : mixed byte_field n (0 ∷ 1 ∷ []) (a ∷ b ∷ []) ≡ b
  second =
      ext_get_or 0 _ b (length-table n _ ∙ sym lb)
      (λ i l.
      let li : i < n = omega (arith, length-table n (λ k. at (mix byte_field (0 ∷ 1 ∷ []) (a ∷ b ∷ [])) k)) in
      at_both 0 1 i li ∙ ap₂ bit_xor (none-times byte_field (at a i)) (byte_field.laws.one (at b i) (sb i li)))

  both : mixed byte_field n (1 ∷ 1 ∷ []) (a ∷ b ∷ []) ≡ plus a b
  both =
      ext_get_or 0 _ (plus a b) (length-table n _ ∙ sym (length-plus a b (la ∙ sym lb) ∙ lb))
      (λ i l.
      let li : i < n = omega (arith, length-table n (λ k. at (mix byte_field (1 ∷ 1 ∷ []) (a ∷ b ∷ [])) k)) in
      at_both 1 1 i li
      ∙ ap₂ bit_xor (byte_field.laws.one (at a i) (sa i li)) (byte_field.laws.one (at b i) (sb i li))
      ∙ sym (at-plus a b i))

alone : (n : ℕ) (a : Packet) → length a ≡ n → ((i : ℕ) → i < n → at a i < 256) → mixed byte_field n (1 ∷ []) (a ∷ []) ≡ a
unfolding mix
alone n a la sa =
    ext_get_or 0 _ a (length-table n _ ∙ sym la)
    (λ i l.
    let li : i < n = omega (arith, length-table n (λ k. at (mix byte_field (1 ∷ []) (a ∷ [])) k)) in
    get_d-table n i _ 0 li ∙ mix-step byte_field 1 [] a [] i ∙ xor_zero_r _ ∙ byte_field.laws.one (at a i) (sa i li))

-- what came from 1 and from 2
over-six : (n : ℕ) (a b : Packet) → Packet
over-six n a b =
    mixed byte_field n (1 ∷ 1 ∷ [])
    (mixed byte_field n (1 ∷ []) (mixed byte_field n (1 ∷ 0 ∷ []) (a ∷ b ∷ []) ∷ [])
    ∷ mixed byte_field n (1 ∷ []) (mixed byte_field n (0 ∷ 1 ∷ []) (a ∷ b ∷ []) ∷ [])
    ∷ [])

carries-over-six : (n : ℕ) (a b : Packet) → row (carried nine2.network (linear byte_field n (coefficients nine_plan)) (a ∷ b ∷ [])) 6 ≡ over-six n a b
unfolding carry into paired over-six
carries-over-six n a b = refl

six-is-the-sum : (n : ℕ) (a b : Packet) → Message byte_field n 2 (a ∷ b ∷ []) → over-six n a b ≡ plus a b
unfolding over-six
six-is-the-sum n a b m =
    let la : length a ≡ n = m.long 0 (lit< tt) in
    let lb : length b ≡ n = m.long 1 (lit< tt) in
    let sa : (i : ℕ) → i < n → at a i < 256 = λ i li. m.small 0 i (lit< tt) li in
    let sb : (i : ℕ) → i < n → at b i < 256 = λ i li. m.small 1 i (lit< tt) li in
    ap₂ (λ x y. mixed byte_field n (1 ∷ 1 ∷ []) (x ∷ y ∷ []))
    (ap (λ x. mixed byte_field n (1 ∷ []) (x ∷ [])) (first n a b la lb sa sb) ∙ alone n a la sa)
    (ap (λ x. mixed byte_field n (1 ∷ []) (x ∷ [])) (second n a b la lb sa sb) ∙ alone n b lb sb)
    ∙ both n a b la lb sa sb

nine2-sums : Holds (sums nine2 6)
nine2-sums n a b m =
    ap (λ p. row (carried nine2.network (linear byte_field n (coefficients p)) (a ∷ b ∷ [])) 6) nine2-plan
    ∙ carries-over-six n a b
    ∙ six-is-the-sum n a b m

-- BYTES

nine2-bytes : plan_bytes nine_plan ≡ nine_bytes
nine2-bytes = refl

nine3-bytes : plan_bytes (unserved 5 (true ∷ replicate 255 false)) ≡ cut_bytes
unfolding flag_byte
nine3-bytes = refl

-- A LINK BESIDE THE PATHS

-- it is neither 4 nor 12
same-links : (bs : List Packet) (x : Packet) → on_links (set bs 14 x) (4 ∷ 12 ∷ []) ≡ on_links bs (4 ∷ 12 ∷ [])
same-links bs x = ap₂ (λ u v. u ∷ v ∷ []) (get_or-set_other bs 14 4 x [] (omega arith)) (get_or-set_other bs 14 12 x [] (omega arith))

beside-of : (p : Plan) → p ≡ nineteen_plan → (n : ℕ) (bs : List Packet) (x : Packet)
    → read_by byte_field n (reader_at (readers p) 0).rows (on_links (set bs 14 x) (reader_at (readers p) 0).links)
    ≡ read_by byte_field n (reader_at (readers p) 0).rows (on_links bs (reader_at (readers p) 0).links)
beside-of p e n bs x =
    let P : Plan → Type 0 = λ q. read_by byte_field n (reader_at (readers q) 0).rows (on_links (set bs 14 x) (reader_at (readers q) 0).links) ≡ read_by byte_field n (reader_at (readers q) 0).rows (on_links bs (reader_at (readers q) 0).links) in
    subst P (sym e) (ap (read_by byte_field n ((1 ∷ 0 ∷ []) ∷ (1 ∷ 1 ∷ []) ∷ [])) (same-links bs x))

nineteen-beside : Holds (beside nineteen 0 14)
unfolding paired
nineteen-beside = (refl, beside-of (plan_of nineteen) nineteen-plan)

-- ALL ROWS

nine3-refused : Holds (refused nine3 5 (true ∷ replicate 255 false) 2)
unfolding out paired
nine3-refused = (nine3-plan, refl)

unreached-refused : Holds (refused unreached 2 (true ∷ true ∷ replicate 254 false) 0)
unfolding out paired
unreached-refused = (unreached-plan, refl)

pub all_hold : All Holds table
unfolding mul horner xtime flags paired out listed flagged is_reached links_to add go_on search turn_all follow parted augment
all_hold =
    All-from_recursion Holds table (
      refl,
      (
        refl,
        (
          refl,
          (
            refl,
            (
              refl,
              (
                refl,
                (
                  refl,
                  (
                    refl,
                    (
                      nine2-plan,
                      (
                        ap plan_bytes nine2-plan ∙ nine2-bytes,
                        (
                          ap (λ p. row (coefficients p) 6) nine2-plan,
                          (
                            nine2-sums,
                            (
                              nine3-refused,
                              (
                                ap plan_bytes nine3-plan ∙ nine3-bytes,
                                (
                                  one-plan,
                                  (
                                    two-plan,
                                    (nineteen-plan, (nineteen-beside, (unreached-refused, tt))),
                                  ),
                                ),
                              ),
                            ),
                          ),
                        ),
                      ),
                    ),
                  ),
                ),
              ),
            ),
          ),
        ),
      ),
    )
