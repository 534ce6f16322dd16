-- Before the first message nothing has come in anywhere, and the start of a run is such a state.
use Rattle.std.proofs.Common.{◌≡◌, ℕ, ◌+◌, ◌<◌, List, [], ◌∷◌, ◌++◌, length, get_or, replicate, Ok, Err, Result, IsErrAnd, vec_items, sym, refl, ap, ◌∙◌, subst, inl, inr, arith}
use lib.ListN.{length-replicate, get_or-replicate}
use Rattle.std.proofs.lemmas.List.{get_or_append_left, get_or_push, length_push}
use Rattle.std.proofs.lemmas.Bool.{cases_eq, lt-ltb, cond-true}
use Rattle.network.specs.Network.{Network, Multicast, Accepted}
use Rattle.network_cuts.specs.Scheme.{Scheme}
use Rattle.wire.specs.Plan.{Reader, Plan, served, unserved}
use Rattle.relay_theory.specs.Relay.{fresh}
use Rattle.run_theory.specs.Run.{start}
use Rattle.relay_node.specs.Nodes.{At, refusal}
use Rattle.relay_memory.specs.Values.{state}
use Rattle.relay_node.specs.NodeErrors.{number}
use Rattle.relay_node.specs.declared.node.Node.{Node}
use Rattle.relay_node.specs.declared.node_error.NodeError.{NodeError}
use Rattle.relay_node.specs.declared.node_error.NodeError.TheVariants.{Memory}
use Rattle.run.specs.Stands.{busy, Stands}
use Rattle.run.specs.Starting.{Ready, Begins, Started}
use Rattle.run.proofs.Taking.{some-node}
use Rattle.run.specs.declared.player.Player.{Player}

pub ready-push : (m : Multicast) (q : Plan) (ns ms : List Node) (n : Node) (k : ℕ) → length ns ≡ k → ms ≡ ns ++ n ∷ [] → Ready m q ns → At m q k n × (state n.slots ≡ fresh) → Ready m q ms
ready-push m q ns ms n k long e r new p d l =
    let many : length ms ≡ length ns + 1 = ap length e ∙ length_push ns n in
    elim (cases_eq p k) [
      | inl h ↦
          let is : get_or ms p d ≡ n = ap (λ xs. get_or xs p d) e ∙ get_or_push ns n d p (omega arith) in
          subst (λ (u : Node). At m q p u × (state u.slots ≡ fresh)) (sym is) (subst (λ i. At m q i n × (state n.slots ≡ fresh)) (sym h) new)
      | inr h ↦
          let is : get_or ms p d ≡ get_or ns p d = ap (λ xs. get_or xs p d) e ∙ get_or_append_left ns (n ∷ []) d p (omega arith) in
          subst (λ (u : Node). At m q p u × (state u.slots ≡ fresh)) (sym is) (r p d (omega arith))
    ]

busy-none : (z : Network) (f : Scheme) (k : ℕ) → busy z f k [] ≡ 0
unfolding busy
busy-none z f k = refl

module _ (m : Multicast) (ok : Accepted m) (y : Player) (every : length (vec_items y.nodes) ≡ m.network.nodes) (none : y.round ≡ 0) (counts : vec_items y.counts ≡ replicate (length m.network.links) 0) where
  some : 0 < m.network.nodes
  some = omega (arith, ok.sound.some)

  stands : (cs : List (List ℕ)) (rs : List Reader) → Ready m (served cs rs) (vec_items y.nodes) → Stands m cs rs y start
  stands cs rs r =
      record {
        fitted = record { every = every; works = λ p d l. (r p d (omega (arith, every))).0; lines = ap length counts ∙ length-replicate _ _ };
        rests = (([], refl), refl);
        number = none;
        source = λ d. rw none (r 0 d (omega (arith, every, some))).1;
        states = λ p d o l. (r p d (omega (arith, every))).1;
        last = λ p d msgs msg o l a e. absurd (let n = ap length e ∙ length_push msgs msg in omega arith);
        counts = λ k l. ap (λ ns. get_or ns k 0) counts ∙ get_or-replicate _ k 0 0 l ∙ sym (busy-none m.network _ k);
      }

  pub started : (q : Plan) → Ready m q (vec_items y.nodes) → Begins m q y
  started (served cs rs) r = stands cs rs r
  started (unserved p side) r = absurd (r 0 (some-node (vec_items y.nodes) (omega (arith, every, some))) (omega (arith, every, some))).0

-- nodes that are there have no reason not to be
pub fit : (m : Multicast) (q : Plan) (ns : List Node) → Ready m q ns → 0 < length ns → 0 < m.network.nodes → refusal m q 0 ≡ 0
fit m (served cs rs) ns r l o = cond-true _ 0 2 (lt-ltb 0 m.network.nodes o)
fit m (unserved p side) ns r l o = absurd (r 0 (some-node ns l) l).0

-- there is no memory, where nothing is wrong else
pub no-memory : (m : Multicast) (q : Plan) (r : Result Player NodeError) → refusal m q 0 ≡ 0 → IsErrAnd r (λ e. e ≡ Memory) → Started m q r
no-memory m q (Ok y) z h = absurd h
no-memory m q (Err e) z h = z ∙ sym (ap number h)
