-- One more receiver on a link: products row by row, and coefficients place by place, where those of other names get t times 0 added.
use Rattle.std.proofs.Common.{◌≡◌, ℕ, ◌+◌, ◌<◌, ◌≤◌, true, false, cond, List, map, length, get_or, set, sym, refl, ap, ◌∙◌, inl, inr, arith, length-set, get_or-set_other, get_or-set_same, ext_get_or}
use lib.Bits.{bit_xor, xor_zero_r}
use lib.ListN.{length-map}
use Rattle.std.proofs.lemmas.Bool.{cases_eq, cond-true, cond-false, eq-eqb, ne_eqb}
use Rattle.gf.proofs.Fields.{byte_field}
use Rattle.gf_bytes.specs.Byte.{times}
use Rattle.gf_bytes.proofs.Done.{Done}
use Rattle.linear.specs.Vectors.{at, plus, scale}
use Rattle.linear.proofs.Sums.{times_none, times-one}
use Rattle.linear.proofs.Lists.{get_d_map, at-plus, at-scale, length-plus, length-scale}
use Rattle.coding_theory.specs.Coding.{message, link, same, trial}
use Rattle.coding_steps.specs.declared.carrier.Carrier.{Carrier as Named}
use Rattle.coding_steps.specs.declared.carrier.Carrier.TheVariants.{Message, Link as Over}
use Rattle.coding_steps.specs.Carriers.{carrier}

module _ (f : ℕ → ℕ) (i : ℕ) (old new : List ℕ) (d : Done f i old new) where
  -- the next place is as it is to be
  pub done-same : get_or old i 0 ≡ f i → Done f (i + 1) old new
  done-same e = record {
    front = λ k lk.
        elim (cases_eq k i) [
          | inl q ↦ ap (λ n. get_or new n 0) q ∙ d.rest i (omega arith) ∙ e ∙ ap f (sym q)
          | inr ne ↦ d.front k (omega arith)
        ];
    rest = λ k lk. d.rest k (omega arith);
    same = d.same;
  }

  -- it is written
  pub done-set : (x : ℕ) → i < length old → x ≡ f i → Done f (i + 1) old (set new i x)
  done-set x l e = record {
    front = λ k lk.
        elim (cases_eq k i) [
          | inl q ↦ ap (λ n. get_or (set new i x) n 0) q ∙ get_or-set_same new i x 0 (omega (arith, d.same)) ∙ e ∙ ap f (sym q)
          | inr ne ↦ get_or-set_other new i k x 0 ne ∙ d.front k (omega arith)
        ];
    rest = λ k lk. get_or-set_other new i k x 0 (λ q. omega arith) ∙ d.rest k (omega arith);
    same = length-set new i x ∙ d.same;
  }

-- two packets are the same just where their carriers are
same-is : (a b : Named) → a ≡ b → same (carrier a) (carrier b) ≡ true
same-is (Message i) b e = ap (λ x. same (message i) (carrier x)) (sym e) ∙ eq-eqb i i refl
same-is (Over i) b e = ap (λ x. same (link i) (carrier x)) (sym e) ∙ eq-eqb i i refl

same-not : (a b : Named) → (a ≡ b → ⊥) → same (carrier a) (carrier b) ≡ false
same-not (Message i) (Message j) ne = ne_eqb i j (λ e. ne (ap Message e))
same-not (Message i) (Over j) ne = refl
same-not (Over i) (Message j) ne = refl
same-not (Over i) (Over j) ne = ne_eqb i j (λ e. ne (ap Over e))

module _ (cs : List ℕ) (hands : List Named) (packet : Named) (t : ℕ) where
  abbrev trials : List ℕ
  trials = trial (carrier packet) (map carrier hands)

  abbrev pub added_at : ℕ → ℕ
  added_at k = bit_xor (at cs k) (times t (at trials k))

  module _ (k : ℕ) (d : Named) (l : k < length hands) where
    trial-at : at trials k ≡ cond (same (carrier (get_or hands k d)) (carrier packet)) 1 0
    trial-at =
        get_d_map (λ n. cond (same n (carrier packet)) 1 0) (map carrier hands) k (carrier d) 0 (omega (arith, length-map hands carrier))
        ∙ ap (λ n. cond (same n (carrier packet)) 1 0) (get_d_map carrier hands k d (carrier d) l)

    pub added-here : t < 256 → get_or hands k d ≡ packet → bit_xor (at cs k) t ≡ added_at k
    added-here lt e =
        ap (bit_xor (at cs k)) (sym (ap (times t) (trial-at ∙ cond-true _ _ _ (same-is (get_or hands k d) packet e)) ∙ times-one byte_field t lt))

    pub added-there : (get_or hands k d ≡ packet → ⊥) → at cs k ≡ added_at k
    added-there ne =
        sym (ap (bit_xor (at cs k)) (ap (times t) (trial-at ∙ cond-false _ _ _ (same-not (get_or hands k d) packet ne)) ∙ times_none byte_field t) ∙ xor_zero_r (at cs k))

  pub added-all : (new : List ℕ) (n : ℕ) → length cs ≡ length hands → length hands ≤ n → Done added_at n cs new → new ≡ plus cs (scale byte_field t trials)
  added-all new n lc ln d =
      ext_get_or 0 new (plus cs (scale byte_field t trials))
      (d.same ∙ lc ∙ sym long ∙ sym (length-plus cs (scale byte_field t trials) (lc ∙ sym long)))
      (λ k lk. d.front k (omega (arith, d.same)) ∙ sym (at-plus cs _ k ∙ ap (bit_xor (at cs k)) (at-scale byte_field t trials k)))
    where
      long : length (scale byte_field t trials) ≡ length hands
      long = length-scale byte_field t trials ∙ length-map (map carrier hands) _ ∙ length-map hands carrier
