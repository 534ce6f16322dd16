-- There are q ^ n packets and (q ^ n) ^ h messages. With w links out of the set of the cut, and w < h, there are fewer lists of packets
-- that can cross it, (q ^ n) ^ w. So for two different messages the same packets cross it, and then the receiver gets the same.
use Rattle.std.proofs.Common.{◌≡◌, ◌^◌, ◌<◌, List, [], sym, refl, ap, ◌∙◌, arith}
use native.Mathlib.Nat.{pow-zero}
use Rattle.network_cuts.specs.Scheme.{Packet, got}
use Rattle.network_cuts.specs.Cut.{out}
use Rattle.network_cuts.specs.Across.{IsPacket, Message, Collision, Alike, NoneReads}
use Rattle.network_cuts.proofs.Numbering.{Numbering, symbols, tuples, power-more, collide}
use Rattle.network_cuts.proofs.Crossing.{crossed, crossed-tuple, outside, same-carry}

pub alike : Alike
alike z h p cut n q some more f honest =
    record { one = t.one; two = t.two; first = t.first; second = t.second; differ = t.differ; same = same t.one t.two t.same }
  where
    crossing : List Packet → List Packet
    crossing m = crossed cut.side f m 0 [] z.links []

    packets : Numbering (IsPacket n q) (q ^ n)
    packets = tuples (symbols q) (omega arith) n

    many : 1 < q ^ n
    many = let r : q ^ 0 < q ^ n = power-more q 0 n (omega arith) (omega arith) in omega (arith, pow-zero q)

    t : Collision (Message n q h) crossing
    t =
        let pos : 0 < q ^ n = omega (arith, many) in
        collide (tuples packets pos h) (tuples packets pos (out cut.side z.links)) (power-more (q ^ n) _ h many cut.few) crossing
        (λ m is. crossed-tuple n q cut.side f honest m is.each 0 [] z.links [] tt)

    same : (m m' : List Packet) → crossing m ≡ crossing m' → got z f p m ≡ got z f p m'
    same m m' e =
        rw (outside cut.side cut.source p cut.receiver)
        (same-carry cut.side cut.source f m m' 0 [] z.links [] [] refl refl (λ _ _. refl) e p cut.receiver)

pub none_reads : NoneReads
none_reads z h p cut n q some more f honest read reads =
    let t = alike z h p cut n q (omega arith) (omega arith) f honest in
    t.differ (sym (reads t.one t.first) ∙ ap read t.same ∙ reads t.two t.second)
