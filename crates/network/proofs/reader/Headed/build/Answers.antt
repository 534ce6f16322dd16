use Rattle.std.proofs.Common.{◌≡◌, ℕ, ◌<◌, List, map, get_or, vec_items, vec_len, ap, ap₂, ◌∙◌, refl, arith}
use Rattle.std.specs.List.{range_with_len}
use Rattle.network.specs.Links.{begin_of, end_of, links_of}
use Rattle.network.specs.Format.{nodes_in, links_in, from_in, to_in, link_in, rate_in, receivers_in, receiver_in, net_in}
use Rattle.network.proofs.Judged.{judged}
use Rattle.network.proofs.Columns.{length-column, column-at, within-like, apart-like, order-like, fed-like, placed-like, rising-like, within_in, apart_in, order-in, fed-in, placed-in, rising-in, links-read, length-read, read-at}
use Rattle.network.proofs.reader.Headed.build.Goals as goal

pub read_links-requires : goal.read_links-requires
read_links-requires c = let w = (judged c.args.self.now.bytes.now c.requires.fine).whole in omega (arith, w, c.args.self.now.links_is)

pub read_receivers-requires : goal.read_receivers-requires
read_receivers-requires c = let w = (judged c.args.self.now.bytes.now c.requires.fine).whole in omega (arith, w, c.args.self.now.links_is, c.requires.counts.1)

pub invariant_of-network : goal.invariant_of-network
invariant_of-network c =
    let bs : List ℕ = c.args.self.now.bytes.now in
    let j = judged bs c.requires.fine in
    let links = c.in_ok-links.links in
    let n : ℕ = c.args.self.now.links in
    let nodes-is : c.args.self.now.nodes ≡ nodes_in bs = c.args.self.now.nodes_is in
    let n-is : n ≡ links_in bs = c.args.self.now.links_is in
    let long : vec_len links ≡ links_in bs = omega (arith, links.ok.0, length-read bs n (vec_items links) c.in_ok-links.ensures) in
    let e : (k : ℕ) → k < links_in bs → begin_of (vec_items links) k ≡ from_in bs k = λ k h. ap (λ l. l.from) (read-at bs n (vec_items links) c.in_ok-links.ensures k (omega arith)) in
    let g : (k : ℕ) → k < links_in bs → end_of (vec_items links) k ≡ to_in bs k = λ k h. ap (λ l. l.to) (read-at bs n (vec_items links) c.in_ok-links.ensures k (omega arith)) in record {
      limits = rw (nodes-is, long) j.limits;
      within = rw (nodes-is, long) (within-like (links_in bs) (from_in bs) (to_in bs) _ _ e g (nodes_in bs) (within_in bs j));
      apart = rw long (apart-like (links_in bs) (from_in bs) (to_in bs) _ _ e g (apart_in bs j));
      order = rw long (order-like (links_in bs) (from_in bs) (to_in bs) _ _ e g (order-in bs j));
      fed = rw long (fed-like (links_in bs) (from_in bs) (to_in bs) _ _ e g (fed-in bs j));
    }

pub invariant_of-result : goal.invariant_of-result
invariant_of-result c =
    let bs : List ℕ = c.args.self.now.bytes.now in
    let j = judged bs c.requires.fine in
    let at : ℕ → ℕ = receiver_in bs (links_in bs) in
    let receivers = c.in_ok-receivers.receivers in
    let n = c.args.counts.receivers in
    let nodes-is : c.args.self.now.nodes ≡ nodes_in bs = c.args.self.now.nodes_is in
    let rate-is : c.args.counts.rate ≡ rate_in bs (links_in bs) = c.requires.counts.0 in
    let n-is : n ≡ receivers_in bs (links_in bs) = c.requires.counts.1 in
    let places : vec_items receivers ≡ map at (range_with_len 0 n) =
    c.in_ok-receivers.ensures ∙ ap (λ m. map (receiver_in bs m) (range_with_len 0 n)) c.args.self.now.links_is in
    let long : vec_len receivers ≡ receivers_in bs (links_in bs) = omega (arith, receivers.ok.0, length-column at n (vec_items receivers) places) in
    let e : (i : ℕ) → i < receivers_in bs (links_in bs) → get_or (vec_items receivers) i 0 ≡ at i = λ i h. column-at at n (vec_items receivers) places i (omega arith) in record {
      rates = rw (rate-is, long) j.rates;
      placed = rw (nodes-is, long) (placed-like (receivers_in bs (links_in bs)) at _ e (nodes_in bs) (placed-in bs j));
      rising = rw long (rising-like (receivers_in bs (links_in bs)) at _ e (rising-in bs j));
    }

pub returns : goal.returns
unfolding net_in
returns c =
    let bs : List ℕ = c.args.self.now.bytes.now in
    let links : links_of (vec_items c.in_ok-links.links) ≡ map (link_in bs) (range_with_len 0 (links_in bs)) =
    ap links_of c.in_ok-links.ensures ∙ links-read _ (link_in bs) (λ k. refl) (range_with_len 0 c.args.self.now.links) ∙ ap (λ n. map (link_in bs) (range_with_len 0 n)) c.args.self.now.links_is in
    let receivers : vec_items c.in_ok-receivers.receivers ≡ map (receiver_in bs (links_in bs)) (range_with_len 0 (receivers_in bs (links_in bs))) =
    c.in_ok-receivers.ensures ∙ ap₂ (λ m n. map (receiver_in bs m) (range_with_len 0 n)) c.args.self.now.links_is c.requires.counts.1 in
    rw (c.args.self.now.nodes_is, links, c.requires.counts.0, receivers)
