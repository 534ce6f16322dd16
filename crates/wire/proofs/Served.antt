-- The items of a plan that serves: coefficients of a link, and links and rows of a receiver.
use Rattle.std.proofs.Common.{◌≡◌, ℕ, zero, suc, ◌+◌, ◌*◌, ◌≤◌, Bool, true, false, cond, ◌&&◌, eqb, ltb, List, [], ◌∷◌, ◌++◌, map, length, take, drop, sym, refl, ap, ◌∙◌, subst, ap₂, append_assoc, suc-mul, arith}
use Rattle.std.specs.List.{range_with_len, flat_map, AllByRecursion}
use Rattle.std.proofs.lemmas.List.FromFn.{fill_by_all, length-map-range_with_len, get_or-map-range_with_len}
use Rattle.std.proofs.lemmas.List.{length-append, length-take-le, length-drop, take_at, drop_at, drop-drop, take-append-drop}
use Rattle.std.proofs.lemmas.Bool.{and_parts, eq-eqb, eqb-true, lt-ltb, ltb-true}
use Rattle.octets.specs.Words.{word_bytes, word_at}
use Rattle.octets.proofs.Locality.{agree-word}
use Rattle.octets.proofs.Words.{word_first, word_kept, words-kept, words-at, length-words}
use Rattle.network.specs.Network.{Link, link_at}
use Rattle.wire.specs.Plan.{Reader, Comes, Suits}
use Rattle.wire.specs.Format.{got, link_bytes, reader_bytes, link_item, reader_item, words_in, rows_in, all_come}
use Rattle.wire.proofs.Parsing.{Lawful, item-lawful, item-good, item-took, agree_less, agree-drop}
use Rattle.wire.proofs.Codecs.{Small, Codec}

-- COEFFICIENTS

pub link-lawful : (hand : ℕ) → Lawful (link_item hand)
link-lawful hand =
    item-lawful (λ bs. 2 + word_at bs 0) (λ bs. cond (eqb (word_at bs 0) hand) 0 9) (λ bs. take (word_at bs 0) (drop 2 bs))
    (λ bs cs h a.
    let n : ℕ = word_at bs 0 in
    let e : word_at cs 0 ≡ n = agree-word (2 + n) cs bs a 0 (omega arith) in
    (ap (λ k. 2 + k) e, ap (λ k. cond (eqb k hand) 0 9) e, ap (λ k. take k (drop 2 cs)) e ∙ agree-drop 2 n cs bs a))

-- no fault where the test passes
no-fault : (t : Bool) → ◌≡◌ {A = ℕ} (cond t 0 9) 0 → t ≡ true
no-fault true e = refl
no-fault false e = absurd (omega arith)

pub link-codec : (hand : ℕ) → Codec (link_item hand) link_bytes (λ cs. length cs ≡ hand)
link-codec hand = record { back = back; kept = kept }
  where
    back : (cs : List ℕ) → length cs ≡ hand → (at : ℕ) (rest : List ℕ) → link_item hand at (link_bytes cs ++ rest) ≡ got cs (at + length (link_bytes cs)) rest
    back cs e at rest =
        let n : ℕ = length cs in
        let bs : List ℕ = link_bytes cs ++ rest in
        let long : length bs ≡ 2 + (n + length rest) = omega (arith, length-append cs rest) in
        rw (word_first n (cs ++ rest), eq-eqb n hand e)
        (item-good (2 + n) 0 (take n (cs ++ rest)) at bs (omega arith) refl
        ∙ ap₂ (λ x r. got x (at + (2 + n)) r) (take_at cs rest n refl) (drop_at (link_bytes cs) rest (2 + n) two)
        ∙ ap (λ k. got cs (at + k) rest) (sym two))
      where
        two : length (link_bytes cs) ≡ 2 + length cs
        two = omega arith

    kept : (at : ℕ) (bs cs : List ℕ) (at₁ : ℕ) (rest : List ℕ) → Small bs → link_item hand at bs ≡ got cs at₁ rest → (length cs ≡ hand) × (bs ≡ link_bytes cs ++ rest)
    kept at bs cs at₁ rest s e =
        let n : ℕ = word_at bs 0 in
        let t = item-took (2 + n) (cond (eqb n hand) 0 9) (take n (drop 2 bs)) at bs cs at₁ rest e in
        let same : n ≡ hand = eqb-true n hand (no-fault (eqb n hand) t.good) in
        let long : length (take n (drop 2 bs)) ≡ n = length-take-le n (drop 2 bs) (omega (arith, t.long, length-drop 2 bs)) in
        let count : length cs ≡ n = ap length (sym t.is) ∙ long in (
          count ∙ same,
          sym (word_kept bs s 0 2 refl (omega (arith, t.long)))
              ∙ ap₂ (λ k r. word_bytes k ++ r) (sym count) (sym (take-append-drop n (drop 2 bs)) ∙ ap₂ (λ x y. x ++ y) t.is (drop-drop n 2 bs ∙ sym t.left)),
        )

-- ROWS

pub length-rows : (h n : ℕ) (bs : List ℕ) → length (rows_in h n bs) ≡ n
unfolding rows_in
length-rows h zero bs = refl
length-rows h (suc n) bs = ap suc (length-rows h n (drop h bs))

rows_long : (h n w : ℕ) (bs : List ℕ) → n * h ≡ w → w ≤ length bs → AllByRecursion (λ row. length row ≡ h) (rows_in h n bs)
unfolding rows_in
rows_long h zero w bs e l = tt
rows_long h (suc n) w bs e l = (
  length-take-le h bs (omega (arith, suc-mul n h)),
  rows_long h n (n * h) (drop h bs) refl (omega (arith, suc-mul n h, length-drop h bs)),
)

rows-kept : (h n w : ℕ) (bs : List ℕ) → n * h ≡ w → w ≤ length bs → flat_map (λ row. row) (rows_in h n bs) ++ drop w bs ≡ bs
unfolding rows_in
rows-kept h zero w bs e l = let none : w ≡ 0 = omega arith in ap (λ k. drop k bs) none
rows-kept h (suc n) w bs e l =
    append_assoc (take h bs) (flat_map (λ row. row) (rows_in h n (drop h bs))) (drop w bs)
    ∙ ap (λ r. take h bs ++ (flat_map (λ row. row) (rows_in h n (drop h bs)) ++ r)) (ap (λ k. drop k bs) behind ∙ sym (drop-drop (n * h) h bs))
    ∙ ap (λ r. take h bs ++ r) (rows-kept h n (n * h) (drop h bs) refl (omega (arith, suc-mul n h, length-drop h bs)))
    ∙ take-append-drop h bs
  where
    behind : w ≡ h + n * h
    behind = omega (arith, suc-mul n h)

length-joined : (h n : ℕ) (rows : List (List ℕ)) → length rows ≡ n → AllByRecursion (λ row. length row ≡ h) rows → length (flat_map (λ row. row) rows) ≡ n * h
length-joined h n [] e a = omega (arith, ap (λ k. k * h) e)
length-joined h zero (row ∷ rows) e a = absurd (omega arith)
length-joined h (suc n) (row ∷ rows) e a = omega (arith, suc-mul n h, a.0, length-append row (flat_map (λ row. row) rows), length-joined h n rows (omega arith) a.1)

rows_back : (h n : ℕ) (rows : List (List ℕ)) (rest : List ℕ) → length rows ≡ n → AllByRecursion (λ row. length row ≡ h) rows → rows_in h n (flat_map (λ row. row) rows ++ rest) ≡ rows
unfolding rows_in
rows_back h zero [] rest e a = refl
rows_back h zero (row ∷ rows) rest e a = absurd (omega arith)
rows_back h (suc n) [] rest e a = absurd (omega arith)
rows_back h (suc n) (row ∷ rows) rest e a =
    let tail : List ℕ = flat_map (λ row. row) rows ++ rest in
    rw (append_assoc row (flat_map (λ row. row) rows) rest, take_at row tail h a.0, drop_at row tail h a.0)
    (ap (λ l. row ∷ l) (rows_back h n rows rest (omega arith) a.1))

rows_agree : (h n w : ℕ) (cs bs : List ℕ) → n * h ≡ w → take w cs ≡ take w bs → rows_in h n cs ≡ rows_in h n bs
unfolding rows_in
rows_agree h zero w cs bs e a = refl
rows_agree h (suc n) w cs bs e a =
    let split : w ≡ h + n * h = omega (arith, suc-mul n h) in
    let b : take (h + n * h) cs ≡ take (h + n * h) bs = subst (λ k. take k cs ≡ take k bs) split a in
    ap₂ (λ x xs. x ∷ xs) (agree_less h (n * h) cs bs b) (rows_agree h n (n * h) (drop h cs) (drop h bs) refl (agree-drop h (n * h) cs bs b))

-- WORDS

words-agree : (n d : ℕ) (cs bs : List ℕ) → 2 * n ≤ d → take d cs ≡ take d bs → words_in n cs ≡ words_in n bs
words-agree n d cs bs h a =
    fill_by_all (λ j. word_at bs (2 * j)) (words_in n cs) n 0 (length-map-range_with_len (λ j. word_at cs (2 * j)) 0 n)
    (λ j l. get_or-map-range_with_len (λ j. word_at cs (2 * j)) 0 n j j 0 l (omega arith) ∙ agree-word d cs bs a (2 * j) (omega arith))

words_back : (n : ℕ) (ks rest : List ℕ) → length ks ≡ n → words_in n (flat_map word_bytes ks ++ rest) ≡ ks
words_back n ks rest e = sym (fill_by_all (λ j. word_at (flat_map word_bytes ks ++ rest) (2 * j)) ks n 0 e (λ j l. sym (words-at ks rest j (2 * j) (omega arith) refl)))

words-kept-0 : (n : ℕ) (bs : List ℕ) → Small bs → 2 * n ≤ length bs → flat_map word_bytes (words_in n bs) ++ drop (2 * n) bs ≡ bs
words-kept-0 n bs s h =
    let same : words_in n bs ≡ map (λ l. word_at bs (0 + 2 * l)) (range_with_len 0 n) =
    fill_by_all (λ l. word_at bs (0 + 2 * l)) (words_in n bs) n 0 (length-map-range_with_len (λ j. word_at bs (2 * j)) 0 n)
    (λ j l. let off : 2 * j ≡ 0 + 2 * j = omega arith in get_or-map-range_with_len (λ j. word_at bs (2 * j)) 0 n j j 0 l (omega arith) ∙ ap (word_at bs) off) in
    ap (λ ks. flat_map word_bytes ks ++ drop (2 * n) bs) same ∙ words-kept bs s 0 0 n 0 (2 * n) (omega arith) (omega arith) h

-- RECEIVERS

-- the test passes just where all links come in
pub come-true : (ls : List Link) (p : ℕ) (ks : List ℕ) → all_come ls p ks ≡ true → AllByRecursion (Comes ls p) ks
unfolding all_come
come-true ls p [] e = tt
come-true ls p (k ∷ ks) e =
    let both = and_parts (ltb k (length ls) && eqb (link_at ls k).to p) (all_come ls p ks) e in
    let two = and_parts (ltb k (length ls)) (eqb (link_at ls k).to p) both.0 in
    ((ltb-true k (length ls) two.0, eqb-true (link_at ls k).to p two.1), come-true ls p ks both.1)

pub true-come : (ls : List Link) (p : ℕ) (ks : List ℕ) → AllByRecursion (Comes ls p) ks → all_come ls p ks ≡ true
unfolding all_come
true-come ls p [] a = refl
true-come ls p (k ∷ ks) a = rw (lt-ltb k (length ls) a.0.0, eq-eqb (link_at ls k).to p a.0.1, true-come ls p ks a.1)

module _ (ls : List Link) (h p : ℕ) where
  abbrev reader_in : List ℕ → Reader
  reader_in bs = record { links = words_in h bs; rows = rows_in h h (drop (2 * h) bs) }

  pub reader-lawful : Lawful (reader_item ls h p)
  reader-lawful =
      item-lawful (λ bs. 2 * h + h * h) (λ bs. cond (all_come ls p (words_in h bs)) 0 9) reader_in
      (λ bs cs l a.
      let words : words_in h cs ≡ words_in h bs = words-agree h (2 * h + h * h) cs bs (omega arith) a in
      let rows : rows_in h h (drop (2 * h) cs) ≡ rows_in h h (drop (2 * h) bs) = rows_agree h h (h * h) (drop (2 * h) cs) (drop (2 * h) bs) refl (agree-drop (2 * h) (h * h) cs bs a) in
      (refl, ap (λ ks. cond (all_come ls p ks) 0 9) words, rw (words, rows)))

  pub reader-codec : Codec (reader_item ls h p) reader_bytes (Suits ls h p)
  reader-codec = record { back = back; kept = kept }
    where
      back : (r : Reader) → Suits ls h p r → (at : ℕ) (rest : List ℕ) → reader_item ls h p at (reader_bytes r ++ rest) ≡ got r (at + length (reader_bytes r)) rest
      back r ok at rest =
          let ws : List ℕ = flat_map word_bytes r.links in
          let qs : List ℕ = flat_map (λ row. row) r.rows in
          let bs : List ℕ = reader_bytes r ++ rest in
          let apart : bs ≡ ws ++ (qs ++ rest) = append_assoc ws qs rest in
          let first : length ws ≡ 2 * h = omega (arith, length-words r.links, ok.many) in
          let second : length qs ≡ h * h = length-joined h h r.rows ok.square ok.long in
          let both : length (reader_bytes r) ≡ 2 * h + h * h = omega (arith, length-append ws qs) in
          let words : words_in h bs ≡ r.links = ap (words_in h) apart ∙ words_back h r.links (qs ++ rest) ok.many in
          let rows : rows_in h h (drop (2 * h) bs) ≡ r.rows = ap (λ l. rows_in h h (drop (2 * h) l)) apart ∙ ap (rows_in h h) (drop_at ws (qs ++ rest) (2 * h) first) ∙ rows_back h h r.rows rest ok.square ok.long in
          rw words (rw rows
          (item-good (2 * h + h * h) (cond (all_come ls p r.links) 0 9) r at bs (omega (arith, length-append (reader_bytes r) rest)) (rw (true-come ls p r.links ok.lead))
          ∙ ap₂ (λ n l. got r (at + n) l) (sym both) (drop_at (reader_bytes r) rest (2 * h + h * h) both)))

      kept : (at : ℕ) (bs : List ℕ) (r : Reader) (at₁ : ℕ) (rest : List ℕ) → Small bs → reader_item ls h p at bs ≡ got r at₁ rest → Suits ls h p r × (bs ≡ reader_bytes r ++ rest)
      kept at bs r at₁ rest s e =
          let t = item-took (2 * h + h * h) (cond (all_come ls p (words_in h bs)) 0 9) (reader_in bs) at bs r at₁ rest e in
          let room : h * h ≤ length (drop (2 * h) bs) = omega (arith, t.long, length-drop (2 * h) bs) in
          let suits : Suits ls h p (reader_in bs) =
          record {
            many = length-map-range_with_len (λ j. word_at bs (2 * j)) 0 h;
            lead = come-true ls p (words_in h bs) (no-fault (all_come ls p (words_in h bs)) t.good);
            square = length-rows h h (drop (2 * h) bs);
            long = rows_long h h (h * h) (drop (2 * h) bs) refl room;
          } in
          let qs : List ℕ = flat_map (λ row. row) (rows_in h h (drop (2 * h) bs)) in
          let whole : bs ≡ reader_bytes (reader_in bs) ++ rest =
          sym (words-kept-0 h bs s (omega (arith, t.long)))
          ∙ ap (λ l. flat_map word_bytes (words_in h bs) ++ l) (sym (rows-kept h h (h * h) (drop (2 * h) bs) refl room))
          ∙ sym (append_assoc (flat_map word_bytes (words_in h bs)) qs (drop (h * h) (drop (2 * h) bs)))
          ∙ ap (λ l. reader_bytes (reader_in bs) ++ l) (drop-drop (h * h) (2 * h) bs ∙ sym t.left) in
          (subst (Suits ls h p) t.is suits, whole ∙ ap (λ x. reader_bytes x ++ rest) t.is)
