-- Where the links of a net stand in its bytes: links that are written one after the other are found again by their places.
use Rattle.std.proofs.Common.{◌≡◌, ℕ, zero, suc, ◌+◌, ◌*◌, ◌<◌, List, [], ◌∷◌, ◌++◌, length, sym, refl, ◌∙◌, arith}
use Rattle.std.specs.List.{flat_map}
use Rattle.network.specs.Network.{Link, link_at}
use Rattle.octets.specs.Words.{word_bytes, word_at}
use Rattle.octets.proofs.Words.{word-behind, word_first}
use Rattle.network.specs.Format.{link_bytes}

pub length-links : (ls : List Link) → length (flat_map link_bytes ls) ≡ 4 * length ls
length-links [] = refl
length-links (l ∷ ls) = let e = length-links ls in omega arith

pub froms-at : (ls : List Link) (q : List ℕ) (k j : ℕ) → k < length ls → 4 * k ≡ j → word_at (flat_map link_bytes ls ++ q) j ≡ (link_at ls k).from
froms-at [] q k j h e = absurd (omega arith)
froms-at (l ∷ ls) q zero j h e = rw (sym e) (word_first l.from (word_bytes l.to ++ (flat_map link_bytes ls ++ q)))
froms-at (l ∷ ls) q (suc k) j h e =
    word-behind (link_bytes l) (flat_map link_bytes ls ++ q) 4 (4 * k) j refl (omega arith) ∙ froms-at ls q k (4 * k) (omega arith) refl

pub tos-at : (ls : List Link) (q : List ℕ) (k j : ℕ) → k < length ls → 4 * k + 2 ≡ j → word_at (flat_map link_bytes ls ++ q) j ≡ (link_at ls k).to
tos-at [] q k j h e = absurd (omega arith)
tos-at (l ∷ ls) q zero j h e =
    word-behind (word_bytes l.from) (word_bytes l.to ++ (flat_map link_bytes ls ++ q)) 2 0 j refl (omega arith) ∙ word_first l.to (flat_map link_bytes ls ++ q)
tos-at (l ∷ ls) q (suc k) j h e =
    word-behind (link_bytes l) (flat_map link_bytes ls ++ q) 4 (4 * k + 2) j refl (omega arith) ∙ tos-at ls q k (4 * k + 2) (omega arith) refl
