-- Nodes, each by what it takes in.
use Rattle.std.proofs.Common.{◌≡◌, ℕ, suc, ◌<◌, false, List, [], ◌∷◌, map, length, sym, refl, subst, arith}
use Rattle.std.specs.List.{AllWithin}
use Rattle.std.proofs.lemmas.Bool.{ne_eqb}
use Rattle.network_cuts.specs.Scheme.{Packet}
use Rattle.relay_theory.specs.Relay.{is_in, Answer}
use Rattle.relay_node.specs.declared.node.Node.{Node}
use Rattle.relay_node.specs.declared.node.Out.{Out}
use Rattle.run.specs.Taking.{Took}

pub took-at : (one two after : Node) (f : Node → Answer (List Packet)) → one ≡ two → Took one after (f one) → Took two after (f two)
took-at one two after f e t = subst (λ n. Took n after (f n)) e t

-- a list of nodes that has some
pub some-node : (ns : List Node) → 0 < length ns → Node
some-node [] l = absurd (omega arith)
some-node (n ∷ ns) l = n

-- a link that is none of those that go out
pub goes-not : (k : ℕ) (os : List Out) → AllWithin (λ o. o.link ≡ k → ⊥) os 0 (length os) → is_in k (map (λ o. o.link) os) ≡ false
unfolding is_in
goes-not k [] h = refl
goes-not k (o ∷ os) h = rw (ne_eqb k o.link (λ e. h 0 o (omega arith) (omega arith) (sym e))) (goes-not k os (λ j d a b. h (suc j) d (omega arith) (omega arith)))
