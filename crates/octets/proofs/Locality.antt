-- Where the fault of some bytes is settled: bytes that agree up to the end of the item that has it have the same fault.
-- Lists that agree up to e have the same numbers below e, and are or are not as long as any x up to e: so an item that ends by e is judged alike.
use Rattle.std.proofs.Common.{◌≡◌, ℕ, suc, ◌+◌, ◌<◌, ◌≤◌, min, true, false, cond, eqb, ltb, List, length, get_or, take, sym, refl, ap, ◌∙◌, inl, inr, arith}
use Rattle.std.proofs.lemmas.List.{get_or-take, length-take, take-take}
use Rattle.std.proofs.lemmas.Bool.{cases_lt, lt-ltb, le-ltb}
use Rattle.std.proofs.lemmas.Bool.Decides.{nat_tests}
use Rattle.octets.specs.Reading.{Reading, got, fault, fine, next, item}
use Rattle.octets.specs.Words.{word_at}
use Rattle.octets.proofs.Reading.{not-fine}

abbrev pub Agree : ℕ → List ℕ → List ℕ → Type 0
Agree e cs bs = take e cs ≡ take e bs

pub agree_at : (e : ℕ) (cs bs : List ℕ) → Agree e cs bs → (i : ℕ) → i < e → get_or cs i 0 ≡ get_or bs i 0
agree_at e cs bs a i h = sym (get_or-take e cs i 0 h) ∙ ap (λ l. get_or l i 0) a ∙ get_or-take e bs i 0 h

pub agree-word : (e : ℕ) (cs bs : List ℕ) → Agree e cs bs → (i : ℕ) → i + 2 ≤ e → word_at cs i ≡ word_at bs i
unfolding word_at
agree-word e cs bs a i h = rw (agree_at e cs bs a i (omega arith), agree_at e cs bs a (i + 1) (omega arith))

pub agree-long : (e : ℕ) (cs bs : List ℕ) → Agree e cs bs → (x : ℕ) → x ≤ e → ltb (length cs) x ≡ ltb (length bs) x
agree-long e cs bs a x h =
    let m : min e (length cs) ≡ min e (length bs) = sym (length-take e cs) ∙ ap length a ∙ length-take e bs in
    elim (cases_lt (length cs) x)
    [ inl l ↦ lt-ltb (length cs) x l ∙ sym (lt-ltb (length bs) x (omega arith)) | inr l ↦ le-ltb (length cs) x l ∙ sym (le-ltb (length bs) x (omega arith)) ]

pub same_item : (len len' at end number number' : ℕ) → ltb len end ≡ ltb len' end → number ≡ number' → item len at end number ≡ item len' at end number'
unfolding item
same_item len len' at end number number' l e = rw (l, e)

pub agree_less : (d e : ℕ) (cs bs : List ℕ) → d ≤ e → Agree e cs bs → Agree d cs bs
agree_less d e cs bs h a = sym (take-take d e cs h) ∙ ap (take d) a ∙ take-take d e bs h

-- THE ITEM WITH THE FAULT

-- S has a fault at byte b; from `least` on it is settled where that item ends
pub record Spot (S : List ℕ → Reading (Unit {0})) (bs : List ℕ) (width least number b : ℕ) : Type 0 where
  pub end : ℕ
  pub after : b ≤ end
  pub near : end ≤ b + width
  pub past : least ≤ end
  pub same : (cs : List ℕ) → Agree end cs bs → S cs ≡ fault number b

fault-at : (len at end number told b : ℕ) → item len at end number ≡ fault told b → at ≡ b
unfolding item
fault-at len at end number told b e =
    elim (ltb len end) as (λ v. cond v (fault 1 at) (cond (eqb number 0) fine (fault number at)) ≡ fault told b → at ≡ b) [
      | true ↦ λ h. cc
      | false ↦ elim (eqb number 0) as (λ w. cond w fine (fault number at) ≡ fault told b → at ≡ b) [ true ↦ λ h. absurd (not-fine (sym h)) | false ↦ λ h. cc ]
    ] e

pub spot-item : (S : List ℕ → Reading (Unit {0})) (bs : List ℕ) (width at end stop number told b least : ℕ)
    → S bs ≡ item (length bs) at end number → at ≤ stop → stop ≤ at + width → least ≤ stop
    → ((cs : List ℕ) → Agree stop cs bs → S cs ≡ S bs) → S bs ≡ fault told b → Spot S bs width least told b
spot-item S bs width at end stop number told b least is low high past keeps e =
    let here : at ≡ b = fault-at (length bs) at end number told b (sym is ∙ e) in
    record { end = stop; after = omega arith; near = omega arith; past = past; same = λ cs a. keeps cs a ∙ e }

-- a fault of what follows S, or one of S itself
pub spot-next : (S U : List ℕ → Reading (Unit {0})) (bs : List ℕ) (width least mid told b : ℕ) → least ≤ mid → ((cs : List ℕ) → Agree mid cs bs → S cs ≡ S bs)
    → (S bs ≡ fault told b → Spot S bs width least told b) → (U bs ≡ fault told b → Spot U bs width mid told b)
    → next (S bs) (U bs) ≡ fault told b → Spot (λ cs. next (S cs) (U cs)) bs width least told b
spot-next S U bs width least mid told b h keeps first then' e = by (S bs) refl e
  where
    by : (r : Reading (Unit {0})) → S bs ≡ r → next r (U bs) ≡ fault told b → Spot (λ cs. next (S cs) (U cs)) bs width least told b
    by (got x) is f =
        let s = then' f in
        record {
          end = s.end;
          after = s.after;
          near = s.near;
          past = omega (arith, s.past);
          same = λ cs a. let before : S cs ≡ fine = keeps cs (agree_less mid s.end cs bs s.past a) ∙ is in rw (before, s.same cs a);
        }
    by (fault number at) is f =
        let s = first (is ∙ f) in
        record { end = s.end; after = s.after; near = s.near; past = s.past; same = λ cs a. rw (s.same cs a) }

-- what is the same from `least` on has the fault at the same spot
pub spot-like : (S U : List ℕ → Reading (Unit {0})) (bs : List ℕ) (width least told b : ℕ) → ((cs : List ℕ) → Agree least cs bs → U cs ≡ S cs) → Spot S bs width least told b → Spot U bs width least told b
spot-like S U bs width least told b like s =
    record { end = s.end; after = s.after; near = s.near; past = s.past; same = λ cs a. like cs (agree_less least s.end cs bs s.past a) ∙ s.same cs a }

-- THE END OF THE BYTES

-- bytes that are left over behind `at`
abbrev pub end_at : (at : ℕ) → List ℕ → Reading (Unit {0})
end_at at bs = item (length bs) at at (cond (ltb at (length bs)) 1 0)

pub same_end : (e : ℕ) (cs bs : List ℕ) → Agree e cs bs → (at : ℕ) → at < e → end_at at cs ≡ end_at at bs
same_end e cs bs a at h =
    same_item (length cs) (length bs) at at (cond (ltb at (length cs)) 1 0) (cond (ltb at (length bs)) 1 0) (agree-long e cs bs a at (omega arith))
    (ap (λ b. cond b 1 0) (let l : ltb (length cs) (suc at) ≡ ltb (length bs) (suc at) = agree-long e cs bs a (suc at) (omega arith) in grind (arith, nat_tests)))
