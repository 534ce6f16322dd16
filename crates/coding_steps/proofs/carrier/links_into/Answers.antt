use Rattle.std.proofs.Common.{◌≡◌, ◌<◌, map, length, get_or, vec_items, sym, ap, ◌∙◌, arith}
use Rattle.std.proofs.Math.ListN.{length-map, get_or-map}
use Rattle.std.proofs.lemmas.List.{take_all}
use Rattle.network.specs.Network.{link_at}
use Rattle.network.specs.Links.{link_of, links_of}
use Rattle.coding_theory.specs.Coding.{incoming}
use Rattle.coding_steps.specs.Carriers.{carrier}
use Rattle.coding_steps.proofs.AtHand.{into-here, into-there}
use Rattle.coding_steps.proofs.carrier.links_into.Goals.{then-link-node+in_ok-push, else-link-node}
use Rattle.coding_steps.proofs.carrier.links_into.Goals as goal

pub loop-k-init : goal.loop-k-init
unfolding incoming
loop-k-init c = ap (map carrier) c.new-hands.ensures.items

pub loop-k-preserved : goal.loop-k-preserved
loop-k-preserved c =
    let joined = c.args.links.now in
    let ls = links_of joined in
    let k = c.loop-k.k in
    let lk : k < length ls = omega (arith, length-map joined link_of) in
    let to : (link_at ls k).to ≡ (get_or joined k (record { from = 0; to = 0 })).to = ap (λ l. l.to) (get_or-map link_of joined k (record { from = 0; to = 0 })) in
    elim c.if-link-node.branch [
      | then-link-node+in_ok-push w ↦
          rw w.hands-is
          (ap (map carrier) w.in_ok-push.ensures.items ∙ into-here c.args.node ls k lk (vec_items c.loop-k.hands) c.loop-k.invariant (to ∙ w.if-link-node.true))
      | else-link-node w ↦ rw w.hands-is (into-there c.args.node ls k lk (vec_items c.loop-k.hands) c.loop-k.invariant (λ e. w.if-link-node.false (sym to ∙ e)))
    ]

pub returns : goal.returns
returns c =
    c.loop-k.invariant ∙ ap (incoming c.args.node 0) (take_all c.loop-k.k (links_of c.args.links.now) (omega (arith, length-map c.args.links.now link_of)))
