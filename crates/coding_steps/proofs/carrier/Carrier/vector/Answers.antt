use Rattle.std.proofs.Common.{◌≡◌, ◌<◌, ◌≤◌, ◌⊎◌, length, set, replicate, sym, ap, ◌∙◌, subst, arith}
use Rattle.std.proofs.lemmas.Option.{MatchOption-at_some}
use Rattle.linear.specs.Vectors.{at, units}
use Rattle.linear.proofs.Lists.{units-at}
use Rattle.coding_theory.specs.Coding.{on_carrier}
use Rattle.coding_steps.specs.Rows.{bytes_of}
use Rattle.coding_steps.specs.Carriers.{carrier, Known}
use Rattle.coding_steps.proofs.Renewal.{count_at, bytes-at}
use Rattle.coding_steps.proofs.AtHand.{unit-at}
use Rattle.coding_steps.proofs.carrier.Carrier.vector.Goals as goal

pub returns-in-Message : goal.returns-in-Message
returns-in-Message c =
    let h = c.args.h in
    let i = c.in-Message.i in
    let got = MatchOption-at_some ((32 < h) ⊎ (h ≤ i)) (λ v. (i < h) × (v.count ≡ h) × (v.bytes ≡ set (replicate 32 0) i 1)) c.unwrap.result c.unwrap.ensures c.unit.ensures in
    record {
      count = got.1;
      bytes = λ x l. ap (λ q. at q x) got.2 ∙ unit-at 32 i x (omega (arith, got.0, c.requires.rate.0)) (omega (arith, c.requires.rate.0))
          ∙ sym (ap (λ q. at (on_carrier (units h) (bytes_of c.args.vectors.now) (carrier q)) x) c.in-Message.is ∙ units-at h i x got.0 l);
    }

pub returns-in-Link : goal.returns-in-Link
returns-in-Link c =
    let vs = c.args.vectors.now in
    let h = c.args.h in
    let i = c.in-Link.k in
    let l : i < length vs = subst (λ q. Known h (length vs) (carrier q)) c.in-Link.is c.requires.known in
    let x = c.index-vectors-k.result in
    record {
      count = ap (λ v. v.count) c.index-vectors-k.is ∙ sym (count_at vs i x l) ∙ c.requires.rate.1 i l;
      bytes = λ k lk. ap (λ v. at v.bytes k) c.index-vectors-k.is ∙ ap (λ q. at q k) (sym (bytes-at vs i x l))
          ∙ ap (λ q. at (on_carrier (units h) (bytes_of vs) (carrier q)) k) (sym c.in-Link.is);
    }
