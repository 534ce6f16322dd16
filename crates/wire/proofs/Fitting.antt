-- A plan that fits has counts that two bytes hold.
use Rattle.std.proofs.Common.{◌≡◌, ℕ, ◌+◌, ◌<◌, ◌≤◌, Bool, true, false, cond, eqb, List, [], ◌∷◌, map, length, ap, arith}
use Rattle.std.specs.List.{AllByRecursion}
use Rattle.network.specs.Network.{Link, Multicast, Accepted}
use Rattle.wire.specs.Plan.{feeding, hand_at, hands}

pub feeding-few : (p : ℕ) (ls : List Link) → feeding p ls ≤ length ls
unfolding feeding
feeding-few p [] = omega arith
feeding-few p (l ∷ ls) = let f = feeding-few p ls in by (eqb p l.to) f
  where
    by : (t : Bool) → feeding p ls ≤ length ls → cond t 1 0 + feeding p ls ≤ length (l ∷ ls)
    by true f = omega arith
    by false f = omega arith

pub hand-few : (m : Multicast) → Accepted m → (p : ℕ) → hand_at m p ≤ 1024
hand-few m ok p = by (eqb p 0)
  where
    by : (t : Bool) → cond t m.rate (feeding p m.network.links) ≤ 1024
    by true = omega (arith, ok.rates.1)
    by false = omega (arith, feeding-few p m.network.links, ok.limits.2)

few-hands : (m : Multicast) → Accepted m → (ls : List Link) (cs : List (List ℕ)) → map length cs ≡ map (λ l. hand_at m l.from) ls → AllByRecursion (λ row. length row < 65536) cs
few-hands m ok ls [] e = tt
few-hands m ok [] (c ∷ cs) e = absurd (let z = ap length e in omega arith)
few-hands m ok (l ∷ ls) (c ∷ cs) e =
    let first : length c ≡ hand_at m l.from = cc in
    let rest : map length cs ≡ map (λ l. hand_at m l.from) ls = cc in
    (omega (arith, first, hand-few m ok l.from), few-hands m ok ls cs rest)

pub short-rows : (m : Multicast) → Accepted m → (cs : List (List ℕ)) → map length cs ≡ hands m → AllByRecursion (λ row. length row < 65536) cs
short-rows m ok cs e = few-hands m ok m.network.links cs e
