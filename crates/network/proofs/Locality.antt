-- A fault does not depend on what lies behind its item.
-- Lists that agree up to e have the same numbers below e, and are or are not as long as any x up to e: so an item that ends by e is judged alike.
use Rattle.std.proofs.Common.{◌≡◌, ℕ, zero, suc, ◌+◌, ◌*◌, ◌<◌, ◌≤◌, cond, List, length, get_or, sym, refl, ◌∙◌, arith}
use Rattle.octets.specs.Reading.{Reading, got, fault, next, item}
use Rattle.network.specs.Format.{nodes_in, links_in, from_in, to_in, rate_in, receivers_in, receiver_in, head_fault, among, link_fault, unfed, count_fault, receiver_fault, links, previous, receivers, head_item, link_items, links_end, counts_item, receiver_items, end_item, fault_in, net_in, read_net, Local}
use Rattle.octets.proofs.Reading.{not-fine}
use Rattle.octets.proofs.Locality.{Agree, agree_at, agree-word, agree-long, same_item, Spot, spot-item, spot-next, spot-like, same_end}
use Rattle.network.proofs.Items.{same-unfed}

-- WHAT IS JUDGED ALIKE

same-among : (f g : ℕ → ℕ) (k p : ℕ) → ((j : ℕ) → j < k → f j ≡ g j) → among f k p ≡ among g k p
unfolding among
same-among f g zero p e = refl
same-among f g (suc k) p e = rw (same-among f g k p (λ j h. e j (omega arith)), e k (omega arith))

same-fault : (nodes : ℕ) (from to from' to' : ℕ → ℕ) (k : ℕ) → ((j : ℕ) → j ≤ k → from j ≡ from' j) → to k ≡ to' k
    → link_fault nodes (from k) (to k) (among from k (to k)) ≡ link_fault nodes (from' k) (to' k) (among from' k (to' k))
same-fault nodes from to from' to' k e f = rw (f, e k (omega arith), same-among from from' k (to' k) (λ j h. e j (omega arith)))

module _ (e : ℕ) (cs bs : List ℕ) (a : Agree e cs bs) where
  same-link : (nodes k : ℕ) → 9 + 4 * k ≤ e
      → item (length cs) (5 + 4 * k) (9 + 4 * k) (link_fault nodes (from_in cs k) (to_in cs k) (among (from_in cs) k (to_in cs k))) ≡ item (length bs) (5 + 4 * k) (9 + 4 * k) (link_fault nodes (from_in bs k) (to_in bs k) (among (from_in bs) k (to_in bs k)))
  same-link nodes k h =
      same_item (length cs) (length bs) (5 + 4 * k) (9 + 4 * k) (link_fault nodes (from_in cs k) (to_in cs k) (among (from_in cs) k (to_in cs k))) (link_fault nodes (from_in bs k) (to_in bs k) (among (from_in bs) k (to_in bs k))) (agree-long e cs bs a (9 + 4 * k) h)
      (same-fault nodes (from_in cs) (to_in cs) (from_in bs) (to_in bs) k (λ j l. agree-word e cs bs a (5 + 4 * j) (omega arith)) (agree-word e cs bs a (7 + 4 * k) (omega arith)))

  same-links : (nodes n : ℕ) → 5 + 4 * n ≤ e → links (length cs) nodes (from_in cs) (to_in cs) n ≡ links (length bs) nodes (from_in bs) (to_in bs) n
  unfolding links
  same-links nodes zero h = refl
  same-links nodes (suc n) h = rw (same-links nodes n (omega arith), same-link nodes n (omega arith))

  same-previous : (m i : ℕ) → 7 + 4 * m + 2 * i ≤ e → previous (receiver_in cs m) i ≡ previous (receiver_in bs m) i
  same-previous m zero h = refl
  same-previous m (suc i) h = agree-word e cs bs a (7 + 4 * m + 2 * i) (omega arith)

  same-receiver : (nodes m i : ℕ) → 7 + 4 * m + 2 * i + 2 ≤ e
      → item (length cs) (7 + 4 * m + 2 * i) (7 + 4 * m + 2 * i + 2) (receiver_fault nodes (previous (receiver_in cs m) i) (receiver_in cs m i))
      ≡ item (length bs) (7 + 4 * m + 2 * i) (7 + 4 * m + 2 * i + 2) (receiver_fault nodes (previous (receiver_in bs m) i) (receiver_in bs m i))
  same-receiver nodes m i h =
      same_item (length cs) (length bs) (7 + 4 * m + 2 * i) (7 + 4 * m + 2 * i + 2) (receiver_fault nodes (previous (receiver_in cs m) i) (receiver_in cs m i))
      (receiver_fault nodes (previous (receiver_in bs m) i) (receiver_in bs m i)) (agree-long e cs bs a (7 + 4 * m + 2 * i + 2) h)
      (rw (same-previous m i (omega arith), agree-word e cs bs a (7 + 4 * m + 2 * i) h))

  same-receivers : (nodes m n : ℕ) → 7 + 4 * m + 2 * n ≤ e
      → receivers (length cs) (7 + 4 * m) nodes (receiver_in cs m) n ≡ receivers (length bs) (7 + 4 * m) nodes (receiver_in bs m) n
  unfolding receivers
  same-receivers nodes m zero h = refl
  same-receivers nodes m (suc i) h = rw (same-receivers nodes m i (omega arith), same-receiver nodes m i (omega arith))

abbrev links_of : ℕ → ℕ → List ℕ → Reading (Unit {0})
links_of nodes n bs = links (length bs) nodes (from_in bs) (to_in bs) n

abbrev receivers_of : (nodes m n : ℕ) → List ℕ → Reading (Unit {0})
receivers_of nodes m n bs = receivers (length bs) (7 + 4 * m) nodes (receiver_in bs m) n

spot-links : (bs : List ℕ) (nodes n told b : ℕ) → links_of nodes n bs ≡ fault told b → Spot (links_of nodes n) bs 5 5 told b
unfolding links
spot-links bs nodes zero told b e = absurd (not-fine (sym e))
spot-links bs nodes (suc n) told b e =
    spot-next (links_of nodes n) (λ cs. item (length cs) (5 + 4 * n) (9 + 4 * n) (link_fault nodes (from_in cs n) (to_in cs n) (among (from_in cs) n (to_in cs n)))) bs 5 5 (5 + 4 * n) told b (omega arith)
    (λ cs a. same-links (5 + 4 * n) cs bs a nodes n (omega arith)) (spot-links bs nodes n told b)
    (spot-item _ bs 5 (5 + 4 * n) (9 + 4 * n) (9 + 4 * n) _ told b (5 + 4 * n) refl (omega arith) (omega arith) (omega arith) (λ cs a. same-link (9 + 4 * n) cs bs a nodes n (omega arith))) e

spot-receivers : (bs : List ℕ) (nodes m n told b : ℕ) → receivers_of nodes m n bs ≡ fault told b → Spot (receivers_of nodes m n) bs 5 (7 + 4 * m) told b
unfolding receivers
spot-receivers bs nodes m zero told b e = absurd (not-fine (sym e))
spot-receivers bs nodes m (suc n) told b e =
    spot-next (receivers_of nodes m n)
    (λ cs. item (length cs) (7 + 4 * m + 2 * n) (7 + 4 * m + 2 * n + 2) (receiver_fault nodes (previous (receiver_in cs m) n) (receiver_in cs m n))) bs 5 (7 + 4 * m) (7 + 4 * m + 2 * n) told b (omega arith)
    (λ cs a. same-receivers (7 + 4 * m + 2 * n) cs bs a nodes m n (omega arith)) (spot-receivers bs nodes m n told b)
    (spot-item _ bs 5 (7 + 4 * m + 2 * n) (7 + 4 * m + 2 * n + 2) (7 + 4 * m + 2 * n + 2) _ told b (7 + 4 * m + 2 * n) refl (omega arith) (omega arith) (omega arith)
    (λ cs a. same-receiver (7 + 4 * m + 2 * n + 2) cs bs a nodes m n (omega arith))) e

-- THE WHOLE

module _ (e : ℕ) (cs bs : List ℕ) (a : Agree e cs bs) where
  same_head : 5 ≤ e → head_item cs ≡ head_item bs
  same_head h =
      same_item (length cs) (length bs) 0 5 (head_fault (get_or cs 0 0) (nodes_in cs) (links_in cs)) (head_fault (get_or bs 0 0) (nodes_in bs) (links_in bs)) (agree-long e cs bs a 5 h)
      (rw (agree_at e cs bs a 0 (omega arith), agree-word e cs bs a 1 (omega arith), agree-word e cs bs a 3 (omega arith)))

  same-fed : 5 + 4 * links_in bs ≤ e → links_end cs ≡ links_end bs
  same-fed h =
      rw (agree-word e cs bs a 3 (omega arith), agree-word e cs bs a 1 (omega arith))
      (same_item (length cs) (length bs) (5 + 4 * links_in bs) (5 + 4 * links_in bs) (cond (unfed (among (from_in cs) (links_in bs)) (among (to_in cs) (links_in bs)) (nodes_in bs)) 10 0)
      (cond (unfed (among (from_in bs) (links_in bs)) (among (to_in bs) (links_in bs)) (nodes_in bs)) 10 0) (agree-long e cs bs a (5 + 4 * links_in bs) h)
      (rw (same-unfed (among (from_in cs) (links_in bs)) (among (to_in cs) (links_in bs)) (among (from_in bs) (links_in bs)) (among (to_in bs) (links_in bs)) (nodes_in bs)
      (λ p _. same-among (from_in cs) (from_in bs) (links_in bs) p (λ j l. agree-word e cs bs a (5 + 4 * j) (omega arith)))
      (λ p _. same-among (to_in cs) (to_in bs) (links_in bs) p (λ j l. agree-word e cs bs a (7 + 4 * j) (omega arith))))))

  same-counts : 7 + 4 * links_in bs ≤ e → counts_item cs ≡ counts_item bs
  same-counts h =
      rw (agree-word e cs bs a 3 (omega arith))
      (same_item (length cs) (length bs) (5 + 4 * links_in bs) (7 + 4 * links_in bs) (count_fault (rate_in cs (links_in bs)) (receivers_in cs (links_in bs)))
      (count_fault (rate_in bs (links_in bs)) (receivers_in bs (links_in bs))) (agree-long e cs bs a (7 + 4 * links_in bs) h)
      (rw (agree_at e cs bs a (5 + 4 * links_in bs) (omega arith), agree_at e cs bs a (6 + 4 * links_in bs) (omega arith))))

module _ (bs : List ℕ) (told b : ℕ) where
  spot-head : head_item bs ≡ fault told b → Spot head_item bs 5 5 told b
  spot-head = spot-item head_item bs 5 0 5 5 _ told b 5 refl (omega arith) (omega arith) (omega arith) (λ cs a. same_head 5 cs bs a (omega arith))

  spot-links-part : link_items bs ≡ fault told b → Spot link_items bs 5 5 told b
  spot-links-part e =
      spot-like (links_of (nodes_in bs) (links_in bs)) link_items bs 5 5 told b
      (λ cs a. rw (agree-word 5 cs bs a 1 (omega arith), agree-word 5 cs bs a 3 (omega arith))) (spot-links bs (nodes_in bs) (links_in bs) told b e)

  spot-fed : links_end bs ≡ fault told b → Spot links_end bs 5 (5 + 4 * links_in bs) told b
  spot-fed =
      spot-item links_end bs 5 (5 + 4 * links_in bs) (5 + 4 * links_in bs) (5 + 4 * links_in bs) _ told b (5 + 4 * links_in bs) refl (omega arith) (omega arith) (omega arith)
      (λ cs a. same-fed (5 + 4 * links_in bs) cs bs a (omega arith))

  spot-counts : counts_item bs ≡ fault told b → Spot counts_item bs 5 (5 + 4 * links_in bs) told b
  spot-counts =
      spot-item counts_item bs 5 (5 + 4 * links_in bs) (7 + 4 * links_in bs) (7 + 4 * links_in bs) _ told b (5 + 4 * links_in bs) refl (omega arith) (omega arith) (omega arith)
      (λ cs a. same-counts (7 + 4 * links_in bs) cs bs a (omega arith))

  spot-receivers-part : receiver_items bs ≡ fault told b → Spot receiver_items bs 5 (7 + 4 * links_in bs) told b
  spot-receivers-part e =
      let n : ℕ = links_in bs in
      spot-like (receivers_of (nodes_in bs) n (receivers_in bs n)) receiver_items bs 5 (7 + 4 * n) told b
      (λ cs a. rw (agree-word (7 + 4 * n) cs bs a 1 (omega arith), agree-word (7 + 4 * n) cs bs a 3 (omega arith), agree_at (7 + 4 * n) cs bs a (6 + 4 * n) (omega arith)))
      (spot-receivers bs (nodes_in bs) n (receivers_in bs n) told b e)

  spot-end : end_item bs ≡ fault told b → Spot end_item bs 5 (7 + 4 * links_in bs + 2 * receivers_in bs (links_in bs)) told b
  spot-end =
      let n : ℕ = links_in bs in
      let at : ℕ = 7 + 4 * n + 2 * receivers_in bs n in
      spot-item end_item bs 5 at at (suc at) _ told b at refl (omega arith) (omega arith) (omega arith)
      (λ cs a.
      rw (agree-word (suc at) cs bs a 3 (omega arith), agree_at (suc at) cs bs a (6 + 4 * n) (omega arith)) (same_end (suc at) cs bs a at (omega arith)))

  spot : fault_in bs ≡ fault told b → Spot fault_in bs 5 5 told b
  unfolding fault_in
  spot =
      let n : ℕ = links_in bs in
      spot-next head_item _ bs 5 5 5 told b (omega arith) (λ cs a. same_head 5 cs bs a (omega arith)) spot-head
      (spot-next link_items _ bs 5 5 (5 + 4 * n) told b (omega arith)
      (λ cs a.
      rw (agree-word (5 + 4 * n) cs bs a 1 (omega arith), agree-word (5 + 4 * n) cs bs a 3 (omega arith)) (same-links (5 + 4 * n) cs bs a (nodes_in bs) n (omega arith)))
      spot-links-part
      (spot-next links_end _ bs 5 (5 + 4 * n) (5 + 4 * n) told b (omega arith) (λ cs a. same-fed (5 + 4 * n) cs bs a (omega arith)) spot-fed
      (spot-next counts_item _ bs 5 (5 + 4 * n) (7 + 4 * n) told b (omega arith) (λ cs a. same-counts (7 + 4 * n) cs bs a (omega arith)) spot-counts
      (spot-next receiver_items end_item bs 5 (7 + 4 * n) (7 + 4 * n + 2 * receivers_in bs n) told b (omega arith)
      (λ cs a.
      let e : ℕ = 7 + 4 * n + 2 * receivers_in bs n in
      rw (agree-word e cs bs a 1 (omega arith), agree-word e cs bs a 3 (omega arith), agree_at e cs bs a (6 + 4 * n) (omega arith))
      (same-receivers e cs bs a (nodes_in bs) n (receivers_in bs n) (omega arith)))
      spot-receivers-part spot-end))))

pub local : (bs : List ℕ) (told b : ℕ) → read_net bs ≡ fault told b → Local bs told b
local bs told b e = by (fault_in bs) refl e
  where
    by : (r : Reading (Unit {0})) → fault_in bs ≡ r → next r (got (net_in bs)) ≡ fault told b → Local bs told b
    by (got x) is f = absurd (let z : ◌≡◌ {A = ℕ} 0 1 = cc in omega arith)
    by (fault number at) is f =
        let same : fault_in bs ≡ fault told b = is ∙ cc in
        let s = spot bs told b same in
        (s.end, s.after, s.near, λ cs a. rw (s.same cs a))
