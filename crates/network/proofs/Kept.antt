-- What is read is written back byte for byte: each part of the bytes is what is written of the value that was read there,
-- so the parts, put before the bytes behind them, give the bytes from their beginning on.
use Rattle.std.proofs.Common.{◌≡◌, ℕ, zero, suc, ◌+◌, ◌*◌, ◌<◌, ◌≤◌, List, ◌∷◌, ◌++◌, map, length, get_or, drop, sym, refl, ap, ◌∙◌, ap₂, append_assoc, append-nil, arith}
use Rattle.std.specs.List.{range_with_len, flat_map}
use Rattle.std.proofs.lemmas.List.{drop_more, drop_all}
use Rattle.std.proofs.lemmas.List.FromFn.{length-map-range_with_len}
use Rattle.octets.specs.Words.{word_bytes}
use Rattle.octets.proofs.Words.{word_kept, words-kept}
use Rattle.network.specs.Format.{link_bytes, bytes_of, nodes_in, links_in, from_in, to_in, link_in, rate_in, receivers_in, receiver_in, net_in}
use Rattle.network.proofs.Judged.{Judged}

module _ (bs : List ℕ) (small : (i : ℕ) → get_or bs i 0 < 256) where
  links-kept : (k n i j : ℕ) → 5 + 4 * k ≡ i → i + 4 * n ≡ j → j ≤ length bs
      → flat_map link_bytes (map (link_in bs) (range_with_len k n)) ++ drop j bs ≡ drop i bs
  links-kept k zero i j e f h = ap (λ x. drop x bs) (omega arith)
  links-kept k (suc n) i j e f h =
      append_assoc (link_bytes (link_in bs k)) _ (drop j bs)
      ∙ ap (λ l. link_bytes (link_in bs k) ++ l) (links-kept (k + 1) n (i + 4) j (omega arith) (omega arith) h)
      ∙ append_assoc (word_bytes (from_in bs k)) (word_bytes (to_in bs k)) (drop (i + 4) bs)
      ∙ ap (λ l. word_bytes (from_in bs k) ++ l) (word_kept bs small (7 + 4 * k) (i + 4) (omega arith) (omega arith))
      ∙ word_kept bs small (5 + 4 * k) (7 + 4 * k) (omega arith) (omega arith)
      ∙ ap (λ x. drop x bs) e

  -- the receivers with the two counts before them
  behind-links-kept : (n r : ℕ) → length bs ≡ 7 + 4 * n + 2 * r → r ≡ receivers_in bs n
      → rate_in bs n ∷ r ∷ flat_map word_bytes (map (receiver_in bs n) (range_with_len 0 r)) ≡ drop (5 + 4 * n) bs
  behind-links-kept n r whole is =
      let words : flat_map word_bytes (map (receiver_in bs n) (range_with_len 0 r)) ≡ drop (7 + 4 * n) bs =
      sym (append-nil _) ∙ ap (λ l. flat_map word_bytes (map (receiver_in bs n) (range_with_len 0 r)) ++ l) (sym (drop_all (length bs) bs (omega arith)))
      ∙ words-kept bs small (7 + 4 * n) 0 r (7 + 4 * n) (length bs) (omega arith) (omega arith) (omega arith) in
      let count : r ∷ drop (7 + 4 * n) bs ≡ drop (6 + 4 * n) bs =
      ap₂ (λ x k. x ∷ drop k bs) is (omega arith) ∙ sym (drop_more bs (6 + 4 * n) 0 (omega arith)) in
      let rate : rate_in bs n ∷ drop (6 + 4 * n) bs ≡ drop (5 + 4 * n) bs =
      ap (λ k. rate_in bs n ∷ drop k bs) (omega arith) ∙ sym (drop_more bs (5 + 4 * n) 0 (omega arith)) in
      ap (λ l. rate_in bs n ∷ r ∷ l) words ∙ ap (λ l. rate_in bs n ∷ l) count ∙ rate

  head-kept : get_or bs 0 0 ≡ 1 → 5 ≤ length bs → 1 ∷ (word_bytes (nodes_in bs) ++ (word_bytes (links_in bs) ++ drop 5 bs)) ≡ bs
  head-kept kind h =
      ap (λ l. 1 ∷ (word_bytes (nodes_in bs) ++ l)) (word_kept bs small 3 5 refl h)
      ∙ ap (λ l. 1 ∷ l) (word_kept bs small 1 3 refl (omega arith))
      ∙ ap (λ x. x ∷ drop 1 bs) (sym kind) ∙ sym (drop_more bs 0 0 (omega arith))

  pub bytes-kept : Judged bs → bytes_of (net_in bs) ≡ bs
  unfolding net_in
  bytes-kept j =
      let n : ℕ = links_in bs in
      let r : ℕ = receivers_in bs n in
      let whole : length bs ≡ 7 + 4 * n + 2 * r = j.whole in
      rw (length-map-range_with_len (link_in bs) 0 n, length-map-range_with_len (receiver_in bs n) 0 r)
      (ap (λ l. 1 ∷ (word_bytes (nodes_in bs) ++ (word_bytes n ++ (flat_map link_bytes (map (link_in bs) (range_with_len 0 n)) ++ l)))) (behind-links-kept n r whole refl)
      ∙ ap (λ l. 1 ∷ (word_bytes (nodes_in bs) ++ (word_bytes n ++ l))) (links-kept 0 n 5 (5 + 4 * n) refl refl (omega arith))
      ∙ head-kept j.kind (omega arith))
