-- The same by what the program reads: the links of the net, and nodes by their places.
use Rattle.std.proofs.Common.{◌≡◌, ℕ, ◌+◌, ◌-◌, ◌^◌, ◌<◌, true, cond, length, get_or, set, vec_items, vec_len, sym, subst, arith}
use Rattle.std.proofs.lemmas.List.{get_or_read_under}
use Rattle.network.specs.Network.{Multicast, link_at}
use Rattle.network.specs.Values.{value}
use Rattle.network.specs.declared.net.Multicast.{Multicast as Net}
use Rattle.network.specs.declared.net.Link.{Link}
use Rattle.network.proofs.Sound.{links-long, accepted, begins-at, ends-at}
use Rattle.network_cuts.specs.Scheme.{Packet}
use Rattle.relay_theory.specs.Relay.{is_in, at_source}
use Rattle.relay_node.specs.Steps.{take_packet}
use Rattle.relay_memory.specs.Values.{state, over_in}
use Rattle.relay_node.specs.Values.{goes, scheme}
use Rattle.relay_node.specs.declared.node.Node.{Node}
use Rattle.run.specs.Playing.{Crosses}
use Rattle.run.specs.Stands.{Midway}
use Rattle.run.specs.Taking.{Took}
use Rattle.run.specs.Zero.{zeros}
use Rattle.run.specs.declared.player.Player.{Player}
use Rattle.run.proofs.Pass.{right-packet, passed_on}

-- both ends are places of the net
module _ (net : Net) (k : ℕ) (x : Link) (l : k < vec_len net.network.links) (e : x ≡ get_or (vec_items net.network.links) k x) where
  pub begins-within : x.from < net.network.nodes
  begins-within = rw (sym (begins-at net.network k x l e)) ((accepted net).sound.within k (omega (arith, links-long net.network))).0

  pub ends-within : x.to < net.network.nodes
  ends-within = rw (sym (ends-at net.network k x l e)) ((accepted net).sound.within k (omega (arith, links-long net.network))).1

abbrev pub Sends : Player → (k : ℕ) → Packet → (q : ℕ) → Type 0
Sends y k packet q =
    (d : Node) → is_in k (goes (get_or (vec_items y.nodes) q d)) ≡ true
    → packet ≡ at_source (scheme (get_or (vec_items y.nodes) q d)) k (over_in (get_or (vec_items y.nodes) q d).slots y.round).came

-- a node that was read at its place
pub sends-at : (y : Player) (k : ℕ) (packet : Packet) (q : ℕ) (n : Node) → q < vec_len y.nodes → n ≡ get_or (vec_items y.nodes) q n
    → (is_in k (goes n) ≡ true → packet ≡ at_source (scheme n) k (over_in n.slots y.round).came) → Sends y k packet q
sends-at y k packet q n l e h d =
    subst (λ (u : Node). is_in k (goes u) ≡ true → packet ≡ at_source (scheme u) k (over_in u.slots y.round).came)
    (get_or_read_under (vec_items y.nodes) q _ n d e l y.nodes.ok.0) h

abbrev pub Receives : (y y' : Player) (k : ℕ) → Packet → (p : ℕ) → Type 0
Receives y y' k packet p =
    (d₀ : Node) × (after : Node) × (vec_items y'.nodes ≡ set (vec_items y.nodes) p after)
    × Took (get_or (vec_items y.nodes) p d₀) after
    (take_packet (get_or (vec_items y.nodes) p d₀).source (vec_items (get_or (vec_items y.nodes) p d₀).slots.ins) (state (get_or (vec_items y.nodes) p d₀).slots) k y.round packet)

pub crossed : (net : Net) (k : ℕ) (y y' : Player) (packet : Packet) (q p : ℕ) → k < vec_len net.network.links → (link_at (value net).network.links k).from ≡ q → (link_at (value net).network.links k).to ≡ p
    → y.round < 2 ^ 32 → y'.round ≡ y.round → Sends y k packet q → Receives y y' k packet p
    → (get_or (vec_items y.counts) k 0 < 2 ^ 64 - 1 → vec_items y'.counts ≡ set (vec_items y.counts) k (get_or (vec_items y.counts) k 0 + cond (zeros packet) 0 1))
    → Crosses (value net) k (k + 1) y y'
crossed net k y y' packet q p l eq ep early same sends receives counted cs rs c msg now w =
    let ok = accepted net in
    let h : k < length (value net).network.links = omega (arith, links-long net.network) in
    let t = subst (Receives y y' k packet) (sym ep) receives in
    let is = right-packet (value net) ok cs rs c msg k h y now w t.0 packet (subst (Sends y k packet) (sym eq) sends) in
    (_, passed_on (value net) ok cs rs c msg k h y now w t.0 y' packet is same early t.1 t.2 t.3 counted)

-- links that follow each other
pub crosses-none : (m : Multicast) (a b : ℕ) (y : Player) → a ≡ b → Crosses m a b y y
crosses-none m a b y e cs rs c msg now w = (now, subst (λ i. Midway m cs rs c msg i y now) e w)

pub crosses-to : (m : Multicast) (a b d : ℕ) (y y' : Player) → b ≡ d → Crosses m a b y y' → Crosses m a d y y'
crosses-to m a b d y y' e h cs rs c msg now w = let t = h cs rs c msg now w in (t.0, subst (λ i. Midway m cs rs c msg i y' t.0) e t.1)

pub crosses_both : (m : Multicast) (a b d : ℕ) (y y' y'' : Player) → Crosses m a b y y' → Crosses m b d y' y'' → Crosses m a d y y''
crosses_both m a b d y y' y'' h k cs rs c msg now w = let t = h cs rs c msg now w in k cs rs c msg t.0 t.1
