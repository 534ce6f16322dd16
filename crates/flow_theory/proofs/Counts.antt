-- Used links are counted by where they begin and where they end, for every set of nodes at once: no sum over nodes is needed.
use Rattle.std.proofs.Common.{◌≡◌, ℕ, zero, suc, ◌+◌, ◌<◌, Bool, true, false, cond, ◌&&◌, List, [], ◌∷◌, length, set, refl, arith}
use Rattle.std.proofs.lemmas.Bool.{true≢false, false≢true}
use Rattle.network.specs.Network.{Link, link_at}
use Rattle.flow_theory.specs.Flow.{is_used, turn}

-- the used links that pass a test
abbrev pub tally : (Link → Bool) → List Link → List Bool → ℕ
tally t [] us = 0
tally t (l ∷ ls) [] = 0
tally t (l ∷ ls) (u ∷ us) = cond (u && t l) 1 0 + tally t ls us

tally-more : (t : Link → Bool) (ls : List Link) (us : List Bool) (k : ℕ) → k < length ls → length us ≡ length ls → is_used us k ≡ false → tally t ls (set us k true) ≡ cond (t (link_at ls k)) 1 0 + tally t ls us
tally-more t [] us k l n e = absurd (omega arith)
tally-more t (x ∷ ls) [] k l n e = absurd (omega arith)
tally-more t (x ∷ ls) (true ∷ us) zero l n e = absurd (true≢false e)
tally-more t (x ∷ ls) (false ∷ us) zero l n e = omega arith
tally-more t (x ∷ ls) (u ∷ us) (suc k) l n e = let r = tally-more t ls us k (omega arith) (omega arith) e in omega arith

pub tally-less : (t : Link → Bool) (ls : List Link) (us : List Bool) (k : ℕ) → k < length ls → length us ≡ length ls → is_used us k ≡ true → tally t ls us ≡ cond (t (link_at ls k)) 1 0 + tally t ls (set us k false)
tally-less t [] us k l n e = absurd (omega arith)
tally-less t (x ∷ ls) [] k l n e = absurd (omega arith)
tally-less t (x ∷ ls) (false ∷ us) zero l n e = absurd (false≢true e)
tally-less t (x ∷ ls) (true ∷ us) zero l n e = omega arith
tally-less t (x ∷ ls) (u ∷ us) (suc k) l n e = let r = tally-less t ls us k (omega arith) (omega arith) e in omega arith

pub tally-none : (t : Link → Bool) (ls : List Link) (us : List Bool) → ((k : ℕ) → is_used us k ≡ false) → tally t ls us ≡ 0
tally-none t [] us e = refl
tally-none t (l ∷ ls) [] e = refl
tally-none t (l ∷ ls) (true ∷ us) e = absurd (true≢false (e 0))
tally-none t (l ∷ ls) (false ∷ us) e = omega (arith, tally-none t ls us (λ k. e (suc k)))

abbrev pub begins : List Link → (ℕ → Bool) → List Bool → ℕ
begins ls s us = tally (λ l. s l.from) ls us

abbrev pub ends : List Link → (ℕ → Bool) → List Bool → ℕ
ends ls s us = tally (λ l. s l.to) ls us

-- the used links make up m paths from 0 to p
abbrev pub Conserved : List Link → (p m : ℕ) → List Bool → Type 0
Conserved ls p m us = (s : ℕ → Bool) → begins ls s us + cond (s p) m 0 ≡ ends ls s us + cond (s 0) m 0

-- the used links make up m paths from 0 to p and one from q to p
abbrev pub Pending : List Link → (p m q : ℕ) → List Bool → Type 0
Pending ls p m q us = (s : ℕ → Bool) → begins ls s us + cond (s p) (suc m) 0 ≡ ends ls s us + cond (s 0) m 0 + cond (s q) 1 0

cond-suc : (b : Bool) (m : ℕ) → cond b (suc m) 0 ≡ cond b m 0 + cond b 1 0
cond-suc true m = omega arith
cond-suc false m = omega arith

module _ (ls : List Link) (p m : ℕ) (us : List Bool) where
  pub pending-p : Conserved ls p m us → Pending ls p m p us
  pending-p c s = omega (arith, c s, cond-suc (s p) m)

  pub conserved-p : Pending ls p m p us → Conserved ls p m us
  conserved-p c s = omega (arith, c s, cond-suc (s p) m)

  pub pending-0 : Conserved ls p (suc m) us → Pending ls p m 0 us
  pending-0 c s = omega (arith, c s, cond-suc (s 0) m)

  pub conserved-0 : Pending ls p m 0 us → Conserved ls p (suc m) us
  conserved-0 c s = omega (arith, c s, cond-suc (s 0) m)

  module _ (k : ℕ) (l : k < length ls) (n : length us ≡ length ls) where
    pub turn-used : is_used us k ≡ true → Pending ls p m (link_at ls k).from us → Pending ls p m (link_at ls k).to (turn k us)
    turn-used e c s = rw e (omega (arith, c s, tally-less (λ x. s x.from) ls us k l n e, tally-less (λ x. s x.to) ls us k l n e))

    pub turn-unused : is_used us k ≡ false → Pending ls p m (link_at ls k).to us → Pending ls p m (link_at ls k).from (turn k us)
    turn-unused e c s = rw e (omega (arith, c s, tally-more (λ x. s x.from) ls us k l n e, tally-more (λ x. s x.to) ls us k l n e))
