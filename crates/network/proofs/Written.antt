-- What is written is read back as the same net.
use Rattle.std.proofs.Common.{◌≡◌, ℕ, ◌+◌, ◌*◌, ◌<◌, true, List, [], ◌∷◌, ◌++◌, map, length, get_or, sym, refl, ap, ◌∙◌, append_assoc, append-nil, arith}
use Rattle.std.specs.List.{range_with_len, flat_map}
use Rattle.std.proofs.lemmas.List.{length-append}
use Rattle.std.proofs.lemmas.List.FromFn.{fill_by_all}
use Rattle.network.specs.Network.{Link, Multicast, link_at, Accepted, Within, Apart, InOrder}
use Rattle.octets.specs.Reading.{got}
use Rattle.octets.specs.Words.{word_at, word_bytes}
use Rattle.network.specs.Format.{among, previous, link_bytes, head_bytes, bytes_of, nodes_in, links_in, from_in, to_in, link_in, rate_in, receivers_in, receiver_in, net_in, read_net}
use Rattle.network.proofs.Items.{among-found, among-at, good-links, all-links, each_fed, all-receivers, rise-above-previous}
use Rattle.network.proofs.Judged.{Judged, judge}
use Rattle.octets.proofs.Words.{byte-behind, word-behind, word_back, length-words, words-at}
use Rattle.network.proofs.Places.{length-links, froms-at, tos-at}

-- the bytes behind the head, and those behind the links
abbrev behind_head : Multicast → List ℕ
behind_head m = flat_map link_bytes m.network.links ++ (m.rate ∷ length m.receivers ∷ flat_map word_bytes m.receivers)

module _ (m : Multicast) where
  apart-head : bytes_of m ≡ head_bytes m.network.nodes (length m.network.links) ++ behind_head m
  apart-head = append_assoc (head_bytes m.network.nodes (length m.network.links)) (flat_map link_bytes m.network.links) _

  nodes-at : nodes_in (bytes_of m) ≡ m.network.nodes
  unfolding word_at
  nodes-at = word_back m.network.nodes

  links-at : links_in (bytes_of m) ≡ length m.network.links
  unfolding word_at
  links-at = word_back (length m.network.links)

  word-behind-head : (i j : ℕ) → 5 + i ≡ j → word_at (bytes_of m) j ≡ word_at (behind_head m) i
  word-behind-head i j e =
      ap (λ bs. word_at bs j) apart-head ∙ word-behind (head_bytes m.network.nodes (length m.network.links)) (behind_head m) 5 i j refl e

  from_at : (k : ℕ) → k < length m.network.links → from_in (bytes_of m) k ≡ (link_at m.network.links k).from
  from_at k h = word-behind-head (4 * k) (5 + 4 * k) refl ∙ froms-at m.network.links _ k (4 * k) h refl

  to_at : (k : ℕ) → k < length m.network.links → to_in (bytes_of m) k ≡ (link_at m.network.links k).to
  to_at k h = word-behind-head (4 * k + 2) (7 + 4 * k) (omega arith) ∙ tos-at m.network.links _ k (4 * k + 2) h refl

  abbrev behind_links : List ℕ
  behind_links = m.rate ∷ length m.receivers ∷ flat_map word_bytes m.receivers

  abbrev before_rate : List ℕ
  before_rate = head_bytes m.network.nodes (length m.network.links) ++ flat_map link_bytes m.network.links

  length_before : length before_rate ≡ 5 + 4 * length m.network.links
  length_before = let l = length-links m.network.links in omega arith

  rate-at : rate_in (bytes_of m) (length m.network.links) ≡ m.rate
  rate-at = byte-behind before_rate behind_links (5 + 4 * length m.network.links) 0 (5 + 4 * length m.network.links) length_before (omega arith)

  receivers-at : receivers_in (bytes_of m) (length m.network.links) ≡ length m.receivers
  receivers-at = byte-behind before_rate behind_links (5 + 4 * length m.network.links) 1 (6 + 4 * length m.network.links) length_before (omega arith)

  receiver-at : (i : ℕ) → i < length m.receivers → receiver_in (bytes_of m) (length m.network.links) i ≡ get_or m.receivers i 0
  receiver-at i h =
      let n : ℕ = length m.network.links in
      word-behind before_rate behind_links (5 + 4 * n) (2 + 2 * i) (7 + 4 * n + 2 * i) length_before (omega arith)
      ∙ word-behind (m.rate ∷ length m.receivers ∷ []) (flat_map word_bytes m.receivers) 2 (2 * i) (2 + 2 * i) refl refl
      ∙ ap (λ w. word_at w (2 * i)) (sym (append-nil (flat_map word_bytes m.receivers)))
      ∙ words-at m.receivers [] i (2 * i) h refl

  length-bytes : length (bytes_of m) ≡ 7 + 4 * length m.network.links + 2 * length m.receivers
  length-bytes =
      let a = length-append before_rate behind_links in let b = length_before in let c = length-words m.receivers in omega arith

-- a net by its parts
same-net : (m : Multicast) (nodes : ℕ) (ls : List Link) (rate : ℕ) (rs : List ℕ) → m.network.nodes ≡ nodes → m.network.links ≡ ls → m.rate ≡ rate → m.receivers ≡ rs
    → record { network = record { nodes = nodes; links = ls }; rate = rate; receivers = rs } ≡ m
same-net m nodes ls rate rs a b c d = rw (sym a, sym b, sym c, sym d)

net-back : (m : Multicast) → net_in (bytes_of m) ≡ m
unfolding net_in
net-back m =
    let bs : List ℕ = bytes_of m in
    let n : ℕ = length m.network.links in
    let links-same : m.network.links ≡ map (link_in bs) (range_with_len 0 n) =
    fill_by_all (link_in bs) m.network.links n (record { from = 0; to = 0 }) refl
    (λ k h. rw (from_at m k h, to_at m k h)) in
    let receivers-same : m.receivers ≡ map (receiver_in bs n) (range_with_len 0 (length m.receivers)) =
    fill_by_all (receiver_in bs n) m.receivers (length m.receivers) 0 refl (λ i h. sym (receiver-at m i h)) in
    rw (links-at m, nodes-at m, rate-at m, receivers-at m) (same-net m _ _ _ _ refl links-same refl receivers-same)

module _ (m : Multicast) (ok : Accepted m) where
  abbrev bs : List ℕ
  bs = bytes_of m

  abbrev n : ℕ
  n = length m.network.links

  within-bytes : Within m.network.nodes n (from_in bs) (to_in bs)
  within-bytes k h = rw (from_at m k h, to_at m k h) (ok.sound.within k h)

  apart-bytes : Apart n (from_in bs) (to_in bs)
  apart-bytes k h = rw (from_at m k h, to_at m k h) (ok.sound.apart k h)

  order-bytes : InOrder n (from_in bs) (to_in bs)
  order-bytes j k h e = ok.sound.order j k h (sym (to_at m j h.0) ∙ e ∙ from_at m k h.1)

  fed-bytes : (p : ℕ) → p < m.network.nodes → (p ≡ 0 → ⊥) → among (from_in bs) n p ≡ true → among (to_in bs) n p ≡ true
  fed-bytes p h z l =
      let left = among-found (from_in bs) n p l in
      let is : p ≡ (link_at m.network.links left.0).from = left.2 ∙ from_at m left.0 left.1 in
      let into = ok.fed left.0 left.1 (λ e. z (is ∙ e)) in
      among-at (to_in bs) n p into.0 into.1 (is ∙ sym into.2 ∙ sym (to_at m into.0 into.1))

  above_bytes : (i : ℕ) → i < length m.receivers → (receiver_in bs n i < m.network.nodes) × (previous (receiver_in bs n) i < receiver_in bs n i)
  above_bytes i h = (
    rw (receiver-at m i h) (ok.placed i h).1,
    rise-above-previous m.network.nodes (length m.receivers) (receiver_in bs n) (λ j l. rw (receiver-at m j l) (ok.placed j l))
        (λ j k l u. let v : j < length m.receivers = omega arith in rw (receiver-at m j v, receiver-at m k u) (ok.rising j k l u)) i h,
  )

  judged-bytes : Judged bs
  judged-bytes =
      let long : length bs ≡ 7 + 4 * n + 2 * length m.receivers = length-bytes m in
      record {
        kind = refl;
        limits = rw (nodes-at m, links-at m) ok.limits;
        links-fine =
            rw (nodes-at m, links-at m)
            (all-links (length bs) m.network.nodes (from_in bs) (to_in bs) n (omega arith)
            (good-links m.network.nodes n (from_in bs) (to_in bs) within-bytes apart-bytes order-bytes));
        all-fed = rw (nodes-at m, links-at m) (each_fed (among (from_in bs) n) (among (to_in bs) n) m.network.nodes fed-bytes);
        rates = rw (links-at m, rate-at m, receivers-at m) ok.rates;
        receivers-fine =
            rw (nodes-at m, links-at m, receivers-at m)
            (all-receivers (length bs) (7 + 4 * n) m.network.nodes (receiver_in bs n) (length m.receivers) (omega arith) above_bytes);
        whole = rw (links-at m, receivers-at m) long;
      }

pub read_back : (m : Multicast) → Accepted m → read_net (bytes_of m) ≡ got m
read_back m ok = rw (judge (bytes_of m) (judged-bytes m ok), net-back m)
