use Rattle.std.proofs.Common.{◌≡◌, ℕ, ◌+◌, ◌≤◌, [], map, length, take, vec_items, sym, ap, ◌∙◌, subst, ap₂, arith}
use lib.ListN.{length-map}
use Rattle.std.proofs.lemmas.List.{take-map}
use Rattle.linear.specs.Vectors.{at, units}
use Rattle.network.specs.Network.{link_at}
use Rattle.network.specs.Links.{link_of, links_of}
use Rattle.network.specs.Values.{graph}
use Rattle.network.proofs.Sound.{sound, links-long, begins-at}
use Rattle.coding_theory.specs.Coding.{on_carrier, at_hand}
use Rattle.coding_steps.specs.Rows.{bytes_of}
use Rattle.coding_steps.specs.Carriers.{carrier, Known}
use Rattle.coding.specs.Aims.{aim_of, aims_on}
use Rattle.coding.proofs.Linked.{Turn}
use Rattle.coding.proofs.Turns.{turn-none, turn-off, packet_known, row_counted, turn-found, turn_more, all-chosen, all-carried}
use Rattle.coding.proofs.Receivers.{inside, is-there, on_none, on_one}
use Rattle.coding.proofs.coder.Coder.choose.Goals.{in-Some+in_ok-serve, in_default}
use Rattle.coding.proofs.coder.Coder.choose.Goals as goal

pub loop-receiver-init : goal.loop-receiver-init
loop-receiver-init c =
    let s = c.args.self.now in
    let z = s.network.now in
    let e : ℕ = length (vec_items s.vectors) in
    let n : c.len-e.result ≡ e = c.len-e.ensures ∙ s.vectors.ok.0 in
    let from : c.index.result.now.from ≡ (link_at (graph z).links e).from =
    sym (begins-at z c.len-e.result c.index.result.now (omega (arith, links-long z, c.requires)) c.index.ensures) ∙ ap (λ m. (link_at (graph z).links m).from) n in
    let before : links_of (take c.len-e.result c.deref.result.now) ≡ take e (graph z).links =
    ap (λ q. links_of (take c.len-e.result q)) c.deref.ensures.value ∙ sym (take-map link_of c.len-e.result (vec_items z.links)) ∙ ap (λ m. take m (graph z).links) n in
    let hands = vec_items c.in_ok-hands.hands in
    let is-hands : map carrier hands ≡ at_hand s.h (link_at (graph z).links e).from (take e (graph z).links) = c.in_ok-hands.ensures ∙ ap₂ (at_hand s.h) from before in
    let k = c.in_ok-choice.choice in
    record {
      hands = ap (λ v. map carrier (vec_items v)) c.in_ok-choice.ensures.hands ∙ is-hands;
      turn = subst (λ rows. Turn (graph z) s.h (aims_on (vec_items s.receivers)) e 0 (vec_items k.coefficients) k.vector rows) (sym c.in_ok-choice.ensures.rows)
          (subst (λ cs. Turn (graph z) s.h (aims_on (vec_items s.receivers)) e 0 cs k.vector []) (sym c.in_ok-choice.ensures.coefficients)
          (turn-none (graph z) (sound z) s.h (aims_on (vec_items s.receivers)) s.served e c.requires hands is-hands k.vector c.in_ok-choice.ensures.vector.0 c.in_ok-choice.ensures.vector.1));
    }

pub vector-added-requires-clause-known : goal.vector-added-requires-clause-known
vector-added-requires-clause-known c =
    let s = c.args.self.now in
    let z = s.network.now in
    let p = c.receiver-item.result in
    let i = c.loop-receiver.receiver-index in
    let items = c.deref-receiver-items.result.now in
    let all = c.deref-receiver-items.ensures.value in
    let here = on_one s c.requires i p items all c.loop-receiver-test.true c.receiver-item.is c.len-e.result (c.len-e.ensures ∙ s.vectors.ok.0) c.deref-in-loop-receiver.result.now c.deref-in-loop-receiver.ensures.value
    c.in-Some.j c.in-Some.ensures.0 c.in-Some.ensures.1 in
    subst (λ q. Known s.h (length q) (carrier c.index-packet.result.now)) (sym c.deref-in-Some.ensures.value)
    (packet_known (graph z) (sound z) s.h (aims_on (vec_items s.receivers)) s.served (length (vec_items s.vectors)) c.requires (vec_items s.vectors) (vec_items s.receivers) s.state
    i (inside s c.requires i p items all c.loop-receiver-test.true c.receiver-item.is) p (is-there s c.requires i p items all c.loop-receiver-test.true c.receiver-item.is) c.in-Some.j here.1 here.0 c.index-packet.result.now c.index-packet.ensures)

pub serve-requires-clause-counted : goal.serve-requires-clause-counted
serve-requires-clause-counted c =
    let s = c.args.self.now in
    let z = s.network.now in
    let p = c.receiver-item.result in
    let i = c.loop-receiver.receiver-index in
    let items = c.deref-receiver-items.result.now in
    let all = c.deref-receiver-items.ensures.value in
    let k = c.loop-receiver.choice in
    let here = on_one s c.requires i p items all c.loop-receiver-test.true c.receiver-item.is c.len-e.result (c.len-e.ensures ∙ s.vectors.ok.0) c.deref-in-loop-receiver.result.now c.deref-in-loop-receiver.ensures.value
    c.in-Some.j c.in-Some.ensures.0 c.in-Some.ensures.1 in (
      row_counted (graph z) (sound z) s.h (aims_on (vec_items s.receivers)) s.served (length (vec_items s.vectors)) c.requires (vec_items s.vectors) (vec_items s.receivers) s.state
          i (inside s c.requires i p items all c.loop-receiver-test.true c.receiver-item.is) p (is-there s c.requires i p items all c.loop-receiver-test.true c.receiver-item.is) c.in-Some.j here.1 here.0 c.index-packet.result.now c.index-packet.ensures
          (vec_items k.coefficients) k.vector (vec_items k.rows) c.loop-receiver.invariant.turn (vec_items k.hands) c.loop-receiver.invariant.hands c.index-in-Some.result.now c.index-in-Some.ensures,
      c.vector-added.ensures.count ∙ sym c.loop-receiver.invariant.turn.count,
    )

pub serve-requires-clause-found : goal.serve-requires-clause-found
serve-requires-clause-found c =
    let s = c.args.self.now in
    let z = s.network.now in
    let p = c.receiver-item.result in
    let i = c.loop-receiver.receiver-index in
    let items = c.deref-receiver-items.result.now in
    let all = c.deref-receiver-items.ensures.value in
    let k = c.loop-receiver.choice in
    let here = on_one s c.requires i p items all c.loop-receiver-test.true c.receiver-item.is c.len-e.result (c.len-e.ensures ∙ s.vectors.ok.0) c.deref-in-loop-receiver.result.now c.deref-in-loop-receiver.ensures.value
    c.in-Some.j c.in-Some.ensures.0 c.in-Some.ensures.1 in
    turn-found (graph z) (sound z) s.h (aims_on (vec_items s.receivers)) s.served (length (vec_items s.vectors)) c.requires (vec_items s.vectors) (vec_items s.receivers) s.state
    i (inside s c.requires i p items all c.loop-receiver-test.true c.receiver-item.is) p (is-there s c.requires i p items all c.loop-receiver-test.true c.receiver-item.is) c.in-Some.j here.1 here.0 c.index-packet.result.now c.index-packet.ensures
    (vec_items k.coefficients) k.vector (vec_items k.rows) c.loop-receiver.invariant.turn (vec_items k.hands) c.loop-receiver.invariant.hands c.index-in-Some.result.now c.index-in-Some.ensures c.vector-added.result
    (λ x l. c.vector-added.ensures.bytes x l ∙ ap (λ q. at (on_carrier (units s.h) (bytes_of q) (carrier c.index-packet.result.now)) x) c.deref-in-Some.ensures.value)

pub loop-receiver-preserved : goal.loop-receiver-preserved
loop-receiver-preserved c =
    let s = c.args.self.now in
    let z = s.network.now in
    let e : ℕ = length (vec_items s.vectors) in
    let p = c.receiver-item.result in
    let i = c.loop-receiver.receiver-index in
    let items = c.deref-receiver-items.result.now in
    let all = c.deref-receiver-items.ensures.value in
    let k = c.loop-receiver.choice in
    let inv = c.loop-receiver.invariant in
    let there = is-there s c.requires i p items all c.loop-receiver-test.true c.receiver-item.is in
    let li = inside s c.requires i p items all c.loop-receiver-test.true c.receiver-item.is in
    elim c.match-place.branch [
      | in-Some+in_ok-serve w ↦
          let here = on_one s c.requires i p items all c.loop-receiver-test.true c.receiver-item.is c.len-e.result (c.len-e.ensures ∙ s.vectors.ok.0) c.deref-in-loop-receiver.result.now c.deref-in-loop-receiver.ensures.value
          w.in-Some.j w.in-Some.ensures.0 w.in-Some.ensures.1 in
          let x = w.index-in-Some.result.now in
          let k' = w.serve.new.self in
          rw w.choice-is
          (record {
            hands = ap (λ v. map carrier (vec_items v)) w.in_ok-serve.ensures.hands ∙ inv.hands;
            turn = subst (λ rows. Turn (graph z) s.h (aims_on (vec_items s.receivers)) e (i + 1) (vec_items k'.coefficients) k'.vector rows) (sym w.in_ok-serve.ensures.rows)
                (turn_more (graph z) (sound z) s.h (aims_on (vec_items s.receivers)) s.served e c.requires (vec_items s.vectors) (vec_items s.receivers) s.state
                i li p there w.in-Some.j here.1 here.0 w.index-packet.result.now w.index-packet.ensures
                (vec_items k.coefficients) k.vector (vec_items k.rows) inv.turn (vec_items k.hands) inv.hands x w.index-in-Some.ensures w.vector-added.result
                (λ y l. w.vector-added.ensures.bytes y l ∙ ap (λ q. at (on_carrier (units s.h) (bytes_of q) (carrier w.index-packet.result.now)) y) w.deref-in-Some.ensures.value)
                (vec_items k'.coefficients) k'.vector w.in_ok-serve.ensures.served);
          })
      | in_default w ↦
          let none = on_none s c.requires i p items all c.loop-receiver-test.true c.receiver-item.is c.len-e.result (c.len-e.ensures ∙ s.vectors.ok.0) c.deref-in-loop-receiver.result.now c.deref-in-loop-receiver.ensures.value w.in_default.ensures in
          rw w.choice-is
          (record {
            hands = inv.hands;
            turn = turn-off (graph z) (sound z) s.h (aims_on (vec_items s.receivers)) s.served e c.requires (vec_items s.vectors) (vec_items s.receivers) s.state i li p there
                (vec_items k.coefficients) k.vector (vec_items k.rows) none inv.turn;
          })
    ]

pub returns : goal.returns
returns c =
    let s = c.args.self.now in
    let z = s.network.now in
    let k = c.loop-receiver.choice in
    let as' = aims_on (vec_items s.receivers) in
    let ln : length as' ≤ c.loop-receiver.receiver-index = omega (arith, ap length c.deref-receiver-items.ensures.value, length-map (vec_items s.receivers) (λ p. aim_of p.aim.now)) in (
      all-chosen (graph z) (sound z) s.h as' s.served (length (vec_items s.vectors)) c.requires c.loop-receiver.receiver-index (vec_items k.coefficients) k.vector (vec_items k.rows) ln c.loop-receiver.invariant.turn,
      all-carried (graph z) (sound z) s.h as' s.served (length (vec_items s.vectors)) c.requires c.loop-receiver.receiver-index (vec_items k.coefficients) k.vector (vec_items k.rows) ln c.loop-receiver.invariant.turn,
    )
