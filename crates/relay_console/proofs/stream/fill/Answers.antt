use Rattle.std.proofs.Common.{◌≡◌, ℕ, ◌+◌, ◌-◌, ◌≤◌, List, ◌++◌, rules, length, take, sym, ap, ◌∙◌, subst, length-take-le}
use Rattle.std.proofs.Math.Seq.{take-append-add}
use Rattle.std.proofs.lemmas.List.{take-append-le}
use Rattle.std.specs.Io.KnownBytes.{Consumes}
use Rattle.std.proofs.KnownBytes.{Consumes-trans}
use borrow.Rule.Slice.PartMut.{put_mid, post_of}
use Rattle.relay_console.proofs.stream.fill.Goals as goal

-- n elements of what was put from place a on stand behind the first a
take-put_mid : (a k n : ℕ) (xs ys : List ℕ) → a ≤ length xs → n ≤ length ys → take a xs ++ take n ys ≡ take (a + n) (put_mid a k xs ys)
take-put_mid a k n xs ys within fits =
    let long : length (take a xs) ≡ a = length-take-le a xs within in
    sym (ap (λ m. take (m + n) (put_mid a k xs ys)) (sym long) ∙ take-append-add (take a xs) (ys ++ post_of a k xs) n
    ∙ ap (λ l. take a xs ++ l) (take-append-le n ys (post_of a k xs) fits))

pub loop-at-preserved : goal.loop-at-preserved
loop-at-preserved g c =
    let at = c.loop-at.at in
    let room = length c.loop-at.bytes - at in
    let inv = c.loop-at.invariant in
    record {
      long = search rules;
      within = search rules;
      next = subst (Consumes _ _) (take-put_mid at room c.in_ok-n.n c.loop-at.bytes c.read.new.buf inv.within c.in_ok-n.ensures.bound.0) (Consumes-trans _ _ _ _ _ inv.next c.in_ok-n.ensures.bytes.0);
    }
