-- Bytes without a fault: each item is good, and the other way round.
use Rattle.std.proofs.Common.{◌≡◌, ℕ, ◌+◌, ◌*◌, ◌≤◌, Bool, false, cond, ltb, List, length, get_or, inl, inr, arith}
use Rattle.std.proofs.lemmas.Bool.{cases_Bool, le-ltb}
use Rattle.std.proofs.lemmas.Bool.Decides.{nat_tests}
use Rattle.network.specs.Network.{Limits, Rates}
use Rattle.octets.specs.Reading.{fine}
use Rattle.network.specs.Format.{nodes_in, links_in, from_in, to_in, rate_in, receivers_in, receiver_in, head_fault, among, unfed, count_fault, links, receivers, fault_in}
use Rattle.octets.proofs.Reading.{next-fine, fine-next, fine-item, item-fine}

pub record Judged (bs : List ℕ) : Type 0 where
  pub kind : get_or bs 0 0 ≡ 1
  pub limits : Limits (nodes_in bs) (links_in bs)
  pub links-fine : links (length bs) (nodes_in bs) (from_in bs) (to_in bs) (links_in bs) ≡ fine
  pub all-fed : unfed (among (from_in bs) (links_in bs)) (among (to_in bs) (links_in bs)) (nodes_in bs) ≡ false
  pub rates : Rates (rate_in bs (links_in bs)) (receivers_in bs (links_in bs))
  pub receivers-fine : receivers (length bs) (7 + 4 * links_in bs) (nodes_in bs) (receiver_in bs (links_in bs)) (receivers_in bs (links_in bs)) ≡ fine
  pub whole : length bs ≡ 7 + 4 * links_in bs + 2 * receivers_in bs (links_in bs)

module _ (kind nodes n : ℕ) (e : head_fault kind nodes n ≡ 0) where
  head-kind : kind ≡ 1
  head-kind = grind (arith, nat_tests)

  head-limits : Limits nodes n
  head-limits = (grind (arith, nat_tests), grind (arith, nat_tests), grind (arith, nat_tests))

limits-head : (kind nodes n : ℕ) → kind ≡ 1 → Limits nodes n → head_fault kind nodes n ≡ 0
limits-head kind nodes n e l = let a = l.0 in let b = l.1 in let c = l.2 in grind (arith, nat_tests)

count-rates : (rate n : ℕ) → count_fault rate n ≡ 0 → Rates rate n
count-rates rate n e = (grind (arith, nat_tests), grind (arith, nat_tests), grind (arith, nat_tests), grind (arith, nat_tests))

rates-count : (rate n : ℕ) → Rates rate n → count_fault rate n ≡ 0
rates-count rate n l = let a = l.0 in let b = l.1 in let c = l.2 in let d = l.3 in grind (arith, nat_tests)

none_told : (b : Bool) → ◌≡◌ {A = ℕ} (cond b 10 0) 0 → b ≡ false
none_told b e = elim (cases_Bool b) [ inl t ↦ absurd (grind (arith, nat_tests)) | inr f ↦ f ]

none_left : (end len : ℕ) → end ≤ len → ◌≡◌ {A = ℕ} (cond (ltb end len) 1 0) 0 → len ≡ end
none_left end len h e = grind (arith, nat_tests)

pub judged : (bs : List ℕ) → fault_in bs ≡ fine → Judged bs
unfolding fault_in
judged bs e =
    let n : ℕ = links_in bs in
    let r : ℕ = receivers_in bs n in
    let a = next-fine _ _ e in
    let b = next-fine _ _ a.1 in
    let c = next-fine _ _ b.1 in
    let d = next-fine _ _ c.1 in
    let f = next-fine _ _ d.1 in
    let head = fine-item (length bs) 0 5 _ a.0 in
    let fed = fine-item (length bs) (5 + 4 * n) (5 + 4 * n) _ c.0 in
    let counts = fine-item (length bs) (5 + 4 * n) (7 + 4 * n) _ d.0 in
    let end = fine-item (length bs) (7 + 4 * n + 2 * r) (7 + 4 * n + 2 * r) _ f.1 in
    record {
      kind = head-kind (get_or bs 0 0) (nodes_in bs) n head.1;
      limits = head-limits (get_or bs 0 0) (nodes_in bs) n head.1;
      links-fine = b.0;
      all-fed = none_told (unfed (among (from_in bs) n) (among (to_in bs) n) (nodes_in bs)) fed.1;
      rates = count-rates (rate_in bs n) r counts.1;
      receivers-fine = f.0;
      whole = none_left (7 + 4 * n + 2 * r) (length bs) end.0 end.1;
    }

pub judge : (bs : List ℕ) → Judged bs → fault_in bs ≡ fine
unfolding fault_in
judge bs j =
    let n : ℕ = links_in bs in
    let r : ℕ = receivers_in bs n in
    let whole : length bs ≡ 7 + 4 * n + 2 * r = j.whole in
    fine-next _ _ (item-fine (length bs) 0 5 _ (omega arith) (limits-head (get_or bs 0 0) (nodes_in bs) n j.kind j.limits))
    (fine-next _ _ j.links-fine
    (fine-next _ _ (item-fine (length bs) (5 + 4 * n) (5 + 4 * n) _ (omega arith) (rw j.all-fed))
    (fine-next _ _ (item-fine (length bs) (5 + 4 * n) (7 + 4 * n) _ (omega arith) (rates-count (rate_in bs n) r j.rates))
    (fine-next _ _ j.receivers-fine
    (item-fine (length bs) (7 + 4 * n + 2 * r) (7 + 4 * n + 2 * r) _ (omega arith) (rw (le-ltb (7 + 4 * n + 2 * r) (length bs) (omega arith))))))))
