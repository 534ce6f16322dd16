use Rattle.std.proofs.Common.{◌≡◌, ℕ, ◌+◌, ◌*◌, List, length, get_or, sym, refl, ap, arith}
use Rattle.std.proofs.lemmas.Bool.Decides.{nat_tests}
use Rattle.network.specs.Format.{receivers_in}
use Rattle.octets.proofs.Reading.{item-short, item-fine, item-told}
use Rattle.network.proofs.reader.Headed.read_counts.Goals as goal

-- the second of the two bytes, as the program reads it
second : (bs : List ℕ) (n : ℕ) → receivers_in bs n ≡ get_or bs (5 + 4 * n + 1) 0
second bs n = ap (λ i. get_or bs i 0) (omega arith)

pub returns-then-self-at : goal.returns-then-self-at
returns-then-self-at c =
    let n : ℕ = c.args.self.now.links in
    record { tells = rw (sym c.args.self.now.links_is) (item-short (length c.args.self.now.bytes.now) (5 + 4 * n) (7 + 4 * n) _ (omega arith)); counts = tt }

pub returns-then-rate-lt1 : goal.returns-then-rate-lt1
returns-then-rate-lt1 c =
    let n : ℕ = c.args.self.now.links in
    let s = second c.args.self.now.bytes.now n in
    record {
      tells = rw (sym c.args.self.now.links_is) (item-told (length c.args.self.now.bytes.now) (5 + 4 * n) (7 + 4 * n) _ 2 (omega arith) (grind (arith, nat_tests)) (omega arith));
      counts = tt;
    }

pub returns : goal.returns
returns c =
    let n : ℕ = c.args.self.now.links in
    let s = second c.args.self.now.bytes.now n in
    record {
      tells = rw (sym c.args.self.now.links_is) (item-fine (length c.args.self.now.bytes.now) (5 + 4 * n) (7 + 4 * n) _ (omega arith) (grind (arith, nat_tests)));
      counts = (refl, sym s, (omega arith, omega arith, omega arith, omega arith), omega arith);
    }
