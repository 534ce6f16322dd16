-- The instances are computed: what is claimed of each of two or three places is checked at each.
use Rattle.std.proofs.Common.{ℕ, zero, suc, ◌<◌, refl, arith, lit<}
use Rattle.std.proofs.lemmas.Bool.{eqb-true}
use Rattle.gf.specs.Polynomial.{horner, xtime, mul}
use Rattle.gf.proofs.Fields.{byte_field}
use Rattle.linear.specs.Vectors.{at, row, table, plus, scale, mix}
use Rattle.linear.specs.Lowest.{lowest}
use Rattle.linear.specs.Dual.{Inverse, renew}
use Rattle.linear.specs.Transport.{none, and}
use Rattle.linear.specs.Choice.{serves_all}
use Rattle.linear.proofs.Independence.{inverse-independent}
use Rattle.linear.proofs.Reading.{mixes-delivered}
use Rattle.linear_examples.specs.Instances.{vectors, duals, message, Vectors, DualRows, Packets, Coefficients, Met}

two : (P : ℕ → Type 0) → P 0 → P 1 → (k : ℕ) → k < 2 → P k
two P p q zero l = p
two P p q (suc zero) l = q
two P p q (suc (suc k)) l = absurd (omega arith)

three : (P : ℕ → Type 0) → P 0 → P 1 → P 2 → (k : ℕ) → k < 3 → P k
three P p q r zero l = p
three P p q r (suc k) l = two (λ k. P (suc k)) q r k (omega arith)

four : (P : ℕ → ℕ → Type 0) → P 0 0 → P 0 1 → P 1 0 → P 1 1 → (i k : ℕ) → i < 2 → k < 2 → P i k
four P a b c d i k li lk = two (λ i. P i k) (two (P 0) a b k lk) (two (P 1) c d k lk) i li

dual : Inverse byte_field 2 (row duals) (row vectors)
unfolding mul horner xtime
dual = record {
  small = four _ (lit< tt) (lit< tt) (lit< tt) (lit< tt);
  one = four _ refl refl refl refl;
  other = four _ refl refl refl refl;
}

vectors-met : Vectors
vectors-met = record {
  not-zero = λ e. omega arith;
  zero = refl;
  elements = two _ (two _ (lit< tt) (lit< tt)) (two _ (lit< tt) (lit< tt));
  independent = inverse-independent byte_field 2 (row duals) (row vectors) dual;
}

dual-rows-met : DualRows
unfolding mul horner xtime table plus scale lowest renew
dual-rows-met = record {
  dual = dual;
  small = two _ (lit< tt) (lit< tt);
  serves-yes = refl;
  serves-no = refl;
  renew-is = refl;
}

message-small : (k : ℕ) → k < 2 → (i : ℕ) → i < 3 → at (row message k) i < 256
message-small = two _ (three _ (lit< tt) (lit< tt) (lit< tt)) (three _ (lit< tt) (lit< tt) (lit< tt))

packets-met : Packets
unfolding mul horner xtime table plus scale mix
packets-met = record {
  good = record {
    many = refl;
    long = two _ refl refl;
    small = λ k i lk li. message-small k lk i li;
  };
  mixes = and (three _ refl refl refl) (and (three _ refl refl refl) none);
  delivers = mixes-delivered byte_field 3 2 (row vectors);
  square = record { many = refl; long = two _ refl refl; small = four _ (lit< tt) (lit< tt) (lit< tt) (lit< tt) };
  reads = refl;
}

coefficients-met : Coefficients
unfolding mul horner xtime table plus scale mix lowest serves_all
coefficients-met = record {
  served = refl;
  forbids = refl;
  unserved = refl;
  trial = refl;
  room = lit< tt;
  lowest-is = refl;
  once = λ k s t _ _ _ _ _ es et. omega (arith, eqb-true s (suc k) es, eqb-true t (suc k) et);
}

pub met : Met
met = record { vectors-met = vectors-met; dual-rows-met = dual-rows-met; packets-met = packets-met; coefficients-met = coefficients-met }
