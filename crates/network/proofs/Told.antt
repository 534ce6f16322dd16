-- What the parts of the reader tell, put together to what the whole tells.
use Rattle.std.proofs.Common.{◌≡◌, ℕ, ◌<◌, List, Option, Some, None, Result, Ok, Err, MatchOption, MatchResult, sym, refl, ap, subst, ◌∙◌}
use Rattle.std.specs.Option.{ok_or}
use Rattle.octets.specs.Reading.{Reading, got, fault, fine, next}
use Rattle.network.specs.Format.{head_item, link_items, links_end, counts_item, receiver_items, end_item, fault_in}
use Rattle.network.specs.Faults.{number}
use Rattle.network.specs.Values.{Answers, Settled, Refuses, Names}
use Rattle.network.specs.declared.fault.Fault.{Fault}
use Rattle.network.specs.declared.fault.Fault.TheVariants.{Malformed}
use Rattle.network.specs.declared.fault.ReadError.{ReadError}
use Rattle.network.specs.declared.fault.ReadError.TheVariants.{Faulty, Memory}
use Rattle.network.proofs.Locality.{local}
use Rattle.network.proofs.Names.{some_number}

-- a fault of the first part
refuses-first : (a b : Reading (Unit {0})) (e : ReadError) → Refuses a e → Refuses (next a b) e
refuses-first a b (Faulty f at) t = rw t
refuses-first a b Memory t = absurd t

-- a fault of the second part, where the first is good
refuses-second : (a b : Reading (Unit {0})) (e : ReadError) → a ≡ fine → Refuses b e → Refuses (next a b) e
refuses-second a b (Faulty f at) g t = rw (g, t)
refuses-second a b Memory g t = absurd t

module _ (bs : List ℕ) where
  -- the items in the groups in which the program judges them
  abbrev after_links : Reading (Unit {0})
  after_links = next (counts_item bs) (next (receiver_items bs) (end_item bs))

  grouped : next (head_item bs) (next (next (link_items bs) (links_end bs)) after_links) ≡ fault_in bs
  unfolding fault_in
  grouped = ap (next (head_item bs)) (assoc (link_items bs) (links_end bs) after_links)
    where
      assoc : (a b c : Reading (Unit {0})) → next (next a b) c ≡ next a (next b c)
      assoc (got x) b c = refl
      assoc (fault n at) b c = refl

  pub head-refuses : (e : ReadError) → Refuses (head_item bs) e → Refuses (fault_in bs) e
  head-refuses e t = rw (sym grouped) (refuses-first (head_item bs) _ e t)

  pub links-refuse : (e : ReadError) → head_item bs ≡ fine → Refuses (next (link_items bs) (links_end bs)) e → Refuses (fault_in bs) e
  links-refuse e h t = rw (sym grouped) (refuses-second (head_item bs) _ e h (refuses-first (next (link_items bs) (links_end bs)) after_links e t))

  after-links : (e : ReadError) → head_item bs ≡ fine → next (link_items bs) (links_end bs) ≡ fine → Refuses after_links e → Refuses (fault_in bs) e
  after-links e h l t = rw (sym grouped) (refuses-second (head_item bs) _ e h (refuses-second (next (link_items bs) (links_end bs)) after_links e l t))

  pub counts-refuse : (e : ReadError) → head_item bs ≡ fine → next (link_items bs) (links_end bs) ≡ fine → Refuses (counts_item bs) e → Refuses (fault_in bs) e
  counts-refuse e h l t = after-links e h l (refuses-first (counts_item bs) _ e t)

  pub receivers-refuse : (e : ReadError) → head_item bs ≡ fine → next (link_items bs) (links_end bs) ≡ fine → counts_item bs ≡ fine
      → Refuses (next (receiver_items bs) (end_item bs)) e → Refuses (fault_in bs) e
  receivers-refuse e h l n t = after-links e h l (refuses-second (counts_item bs) _ e n t)

  pub all-fine : head_item bs ≡ fine → next (link_items bs) (links_end bs) ≡ fine → counts_item bs ≡ fine → next (receiver_items bs) (end_item bs) ≡ fine → fault_in bs ≡ fine
  all-fine h l n r = sym grouped ∙ rw (h, l, n, r)

-- what the whole tells is what is told of the net, and it is settled
pub refusal-answers : (bs : List ℕ) (e : ReadError) → Refuses (fault_in bs) e → Answers bs (Err e)
refusal-answers bs (Faulty f at) t = rw t
refusal-answers bs Memory t = absurd t

pub refusal-settled : (bs : List ℕ) (e : ReadError) → Refuses (fault_in bs) e → Settled bs e
refusal-settled bs (Faulty f at) t = local bs (number f) at (rw t)
refusal-settled bs Memory t = absurd t

-- what a part tells of an item that is cut short
pub short-told : {A : Type 0} (v : Reading (Unit {0})) (at : ℕ) (o : Option A) (Q : Type 0) (P : A → Type 0) (e : ReadError)
    → MatchOption o Q P → ok_or o (Faulty Malformed at) ≡ Err e → (Q → v ≡ fault 1 at) → Refuses v e
short-told v at None Q P e m r h = let is : Faulty Malformed at ≡ e = cc in subst (Refuses v) is (h m)
short-told v at (Some x) Q P e m r h = absurd (cc)

-- what a part tells of an item with a fault of its own
pub judged-told : (v : Reading (Unit {0})) (n at : ℕ) (r : Result (Unit {0}) Fault) (e : ReadError) (P : Unit {0} → Type 0) (Made : Fault → Type 0)
    → Names n r → MatchResult r P Made → ((x : Unit {0}) → P x → ⊥) → ((f : Fault) → Made f → e ≡ Faulty f at) → ((told : ℕ) → n ≡ told → 0 < told → v ≡ fault told at) → Refuses v e
judged-told v n at (Ok x) e P Made m r never is h = absurd (never x r)
judged-told v n at (Err f) e P Made m r never is h = subst (Refuses v) (sym (is f r)) (h (number f) m (some_number f))

-- an item of which no fault was told has none
pub judged-fine : (n : ℕ) (r : Result (Unit {0}) Fault) (P : Unit {0} → Type 0) → Names n r → MatchResult r P (λ f. ⊥) → n ≡ 0
judged-fine n (Ok x) P m r = m
judged-fine n (Err f) P m r = absurd r
