-- The code's step on dual rows is that of the definition: place by place, row by row. An inverse is the only number with the product 1.
use Rattle.std.proofs.Common.{◌≡◌, ℕ, ◌+◌, ◌<◌, ◌≤◌, min, eqb, List, [], map, length, get_or, set, sym, ap, ◌∙◌, ap₂, inl, inr, arith, length-set, get_or-set_other, get_or-set_same}
use lib.Bits.{bit_xor}
use lib.ListN.{length-map}
use Rattle.std.proofs.lemmas.List.{map-set}
use Rattle.std.proofs.lemmas.Bool.{cases_eq, cond-true, cond-false, eq-eqb, ne_eqb}
use Rattle.gf.proofs.Fields.{byte_field, byte_laws}
use Rattle.gf_bytes.specs.Byte.{times}
use Rattle.gf_bytes.specs.Vector.{dot_of, SumOf, MultipleOf}
use Rattle.gf_bytes.specs.declared.vector.Vector.{Vector}
use Rattle.linear.specs.Vectors.{at, row, dot}
use Rattle.linear.specs.Dual.{inverse, renew}
use Rattle.linear.proofs.Sums.{cancel, by-same}
use Rattle.linear.proofs.Lists.{get_d-table, get_d_map, at-plus, at-scale}
use Rattle.linear.proofs.Lowest.{lowest-least}
use Rattle.linear.proofs.Dual.{inverse-undoes}
use Rattle.coding_steps.specs.Rows.{bytes_of, AllCounted, SameRows}

pub bytes-at : (vs : List Vector) (i : ℕ) (d : Vector) → i < length vs → row (bytes_of vs) i ≡ (get_or vs i d).bytes
bytes-at vs i d l = get_d_map (λ v. v.bytes) vs i d [] l

pub count_at : (vs : List Vector) (i : ℕ) (d : Vector) → i < length vs → get_or (map (λ v. v.count) vs) i 0 ≡ (get_or vs i d).count
count_at vs i d l = get_d_map (λ v. v.count) vs i d 0 l

-- the code's product of two vectors is that of the definition
pub product_is : (h : ℕ) (x y : Vector) → x.count ≡ h → y.count ≡ h → dot_of (min x.count y.count) x.bytes y.bytes ≡ dot byte_field h x.bytes y.bytes
product_is h x y ex ey = let n : min x.count y.count ≡ h = omega arith in ap (λ m. dot_of m x.bytes y.bytes) n

pub inverse-is : (a r : ℕ) → 0 < a → a < 256 → r < 256 → times a r ≡ 1 → r ≡ inverse byte_field a
inverse-is a r pos la lr e =
    cancel byte_field r (inverse byte_field a) a lr below la (λ z. omega arith)
    (byte_laws.comm r a ∙ e ∙ sym (inverse-undoes byte_field a (λ z. omega arith) la) ∙ byte_laws.comm a (inverse byte_field a))
  where
    below : inverse byte_field a < 256
    below =
        let w = byte_laws.undo a pos la in
        let le : inverse byte_field a ≤ w.0 = lowest-least (λ u. eqb (times a u) 1) 256 0 w.0 (omega arith) (eq-eqb _ _ w.2) in
        omega (arith, w.1)

module _ (h j : ℕ) (v : List ℕ) (d : List (List ℕ)) where
  abbrev u : ℕ
  u = inverse byte_field (dot byte_field h (row d j) v)

  renew-here : (i k : ℕ) → i < h → i ≡ j → at (row (renew byte_field h j v d) i) k ≡ times u (at (row d j) k)
  unfolding renew
  renew-here i k li e = ap (λ x. at x k) (get_d-table h i _ [] li ∙ cond-true _ _ _ (eq-eqb i j e)) ∙ at-scale byte_field u (row d j) k

  renew-there : (i k : ℕ) → i < h → (i ≡ j → ⊥)
      → at (row (renew byte_field h j v d) i) k ≡ bit_xor (at (row d i) k) (times (dot byte_field h (row d i) v) (times u (at (row d j) k)))
  unfolding renew
  renew-there i k li ne =
      ap (λ x. at x k) (get_d-table h i _ [] li ∙ cond-false _ _ _ (ne_eqb i j ne))
      ∙ at-plus (row d i) _ k
      ∙ ap (bit_xor (at (row d i) k)) (at-scale byte_field (dot byte_field h (row d i) v) _ k ∙ ap (times (dot byte_field h (row d i) v)) (at-scale byte_field u (row d j) k))

-- renewed rows depend on the first h places alone
pub renew-same : (h j : ℕ) (v v' : List ℕ) (d d' : List (List ℕ)) → j < h → ((k : ℕ) → k < h → at v k ≡ at v' k) → SameRows h d d'
    → SameRows h (renew byte_field h j v d) (renew byte_field h j v' d')
renew-same h j v v' d d' lj ev ed i k li lk =
    elim (cases_eq i j) [
      | inl q ↦ renew-here h j v d i k li q ∙ ap₂ times (ap (inverse byte_field) (product j lj)) (ed j k lj lk) ∙ sym (renew-here h j v' d' i k li q)
      | inr ne ↦
          renew-there h j v d i k li ne
          ∙ ap₂ bit_xor (ed i k li lk) (ap₂ times (product i li) (ap₂ times (ap (inverse byte_field) (product j lj)) (ed j k lj lk)))
          ∙ sym (renew-there h j v' d' i k li ne)
    ]
  where
    product : (n : ℕ) → n < h → dot byte_field h (row d n) v ≡ dot byte_field h (row d' n) v'
    product n ln = by-same byte_field h (at (row d n)) (at (row d' n)) (at v) (at v') (λ m lm. ed n m ln lm) ev

-- the rows before row i are done, and the others are as they were
pub record Front (h : ℕ) (target : List (List ℕ)) (before : List Vector) (i : ℕ) (out : List Vector) : Type 0 where
  pub long : length out ≡ length before
  pub counts : (n : ℕ) → n < i → get_or (map (λ v. v.count) out) n 0 ≡ h
  pub same : (n k : ℕ) → n < i → k < h → at (row (bytes_of out) n) k ≡ at (row target n) k
  pub rest : (n : ℕ) (d : Vector) → i ≤ n → get_or out n d ≡ get_or before n d

pub front-more : (h : ℕ) (target : List (List ℕ)) (before : List Vector) (i : ℕ) (out : List Vector) (x : Vector) → Front h target before i out → i < length before → x.count ≡ h
    → ((k : ℕ) → k < h → at x.bytes k ≡ at (row target i) k) → Front h target before (i + 1) (set out i x)
front-more h target before i out x f li ex same = record {
  long = length-set out i x ∙ f.long;
  counts = λ n ln.
      elim (cases_eq n i) [
        | inl e ↦ ap (λ q. get_or q n 0) (map-set (λ v. v.count) out i x) ∙ ap (λ m. get_or (set (map (λ v. v.count) out) i x.count) m 0) e
            ∙ get_or-set_same (map (λ v. v.count) out) i x.count 0 (omega (arith, length-map out (λ v. v.count), f.long)) ∙ ex
        | inr ne ↦ ap (λ q. get_or q n 0) (map-set (λ v. v.count) out i x) ∙ get_or-set_other (map (λ v. v.count) out) i n x.count 0 ne ∙ f.counts n (omega arith)
      ];
  same = λ n k ln lk.
      elim (cases_eq n i) [
        | inl e ↦ ap (λ q. at (row q n) k) (map-set (λ v. v.bytes) out i x) ∙ ap (λ m. at (row (set (bytes_of out) i x.bytes) m) k) e
            ∙ ap (λ q. at q k) (get_or-set_same (bytes_of out) i x.bytes [] (omega (arith, length-map out (λ v. v.bytes), f.long)))
            ∙ same k lk ∙ ap (λ m. at (row target m) k) (sym e)
        | inr ne ↦ ap (λ q. at (row q n) k) (map-set (λ v. v.bytes) out i x) ∙ ap (λ q. at q k) (get_or-set_other (bytes_of out) i n x.bytes [] ne) ∙ f.same n k (omega arith) lk
      ];
  rest = λ n d ln. get_or-set_other out i n x d (λ q. omega arith) ∙ f.rest n d (omega arith);
}

module _ (j : ℕ) (v : Vector) (rows : List Vector) where
  abbrev h : ℕ
  h = length rows

  module _ (counted : AllCounted h rows) (lj : j < h) (cv : v.count ≡ h) where
    pub row-counted : (i : ℕ) (x : Vector) → i < h → x ≡ get_or rows i x → x.count ≡ h
    row-counted i x li is = ap (λ y. y.count) is ∙ sym (count_at rows i x li) ∙ counted i li

    row-bytes : (i : ℕ) (x : Vector) → i < h → x ≡ get_or rows i x → row (bytes_of rows) i ≡ x.bytes
    row-bytes i x li is = bytes-at rows i x li ∙ ap (λ y. y.bytes) (sym is)

    pub dot-is : (i : ℕ) (x : Vector) → i < h → x ≡ get_or rows i x → dot_of (min x.count v.count) x.bytes v.bytes ≡ dot byte_field h (row (bytes_of rows) i) v.bytes
    dot-is i x li is =
        product_is h x v (row-counted i x li is) cv
        ∙ ap (λ q. dot byte_field h q v.bytes) (sym (row-bytes i x li is))

    module _ (by : ℕ) (new : Vector) (y : Vector) (is-y : y ≡ get_or rows j y)
        (is-by : by ≡ inverse byte_field (dot byte_field h (row (bytes_of rows) j) v.bytes))
        (is-new : MultipleOf by y.bytes new.bytes) where
      -- a vector has 32 places, of which the coefficients are some
      within : h ≤ 32
      within = omega (arith, v.within)

      new-at : (k : ℕ) → k < h → at new.bytes k ≡ times (inverse byte_field (dot byte_field h (row (bytes_of rows) j) v.bytes)) (at (row (bytes_of rows) j) k)
      new-at k lk = is-new k (omega (arith, within)) ∙ ap₂ (λ b q. times b (at q k)) is-by (sym (row-bytes j y lj is-y))

      pub here : (i k : ℕ) → i < h → i ≡ j → k < h → at new.bytes k ≡ at (row (renew byte_field h j v.bytes (bytes_of rows)) i) k
      here i k li e lk = new-at k lk ∙ sym (renew-here h j v.bytes (bytes_of rows) i k li e)

      pub there : (i : ℕ) (t : ℕ) (scaled x x' : Vector) → i < h → (i ≡ j → ⊥) → x ≡ get_or rows i x → t ≡ dot_of (min x.count v.count) x.bytes v.bytes
          → MultipleOf t new.bytes scaled.bytes → SumOf x.bytes scaled.bytes x'.bytes
          → (k : ℕ) → k < h → at x'.bytes k ≡ at (row (renew byte_field h j v.bytes (bytes_of rows)) i) k
      there i t scaled x x' li ne is et es ex k lk =
          ex k (omega (arith, within))
          ∙ ap₂ bit_xor (ap (λ q. at q k) (sym (row-bytes i x li is))) (es k (omega (arith, within)) ∙ ap₂ times (et ∙ dot-is i x li is) (new-at k lk))
          ∙ sym (renew-there h j v.bytes (bytes_of rows) i k li ne)
