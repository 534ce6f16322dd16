-- What the program's values stand for. Defines, in this order:
--   Alike    two nodes that differ at most in what came in
--   goes     the links that go out
--   coefficients_of   those of one of them
--   scheme   what a node sends over each link out of it, by what came in
--   reading  what a receiver reads
-- Assumes nothing.
use Rattle.std.specs.Prelude.{◌≡◌, ℕ, cond, List, [], ◌∷◌, map, vec_items, ◌==◌}
use Rattle.gf.proofs.Fields.{byte_field}
use Rattle.linear.specs.Vectors.{row as row_at, mixed}
use Rattle.linear.specs.Reading.{read_by}
use Rattle.network_cuts.specs.Scheme.{Packet, Scheme}
use Rattle.relay_node.specs.declared.node.Node.{Node}
use Rattle.relay_node.specs.declared.node.Out.{Out}

pub record Alike (before after : Node) : Type 0 where
  pub source : after.source ≡ before.source
  pub ins : after.slots.ins ≡ before.slots.ins
  pub width : after.slots.width ≡ before.slots.width
  pub outs : after.outs ≡ before.outs
  pub current : after.current ≡ before.current
  pub rows : after.rows ≡ before.rows

-- the links that go out
abbrev pub goes : Node → List ℕ
goes d = map (λ o. o.link) (vec_items d.outs)

-- the coefficients of the first that is link k
unfoldable pub coefficients_of : ℕ → List Out → List ℕ
coefficients_of k [] = []
coefficients_of k (o ∷ os) = cond (k == o.link) (vec_items o.coefficients) (coefficients_of k os)

-- what the links out of a node carry: each link's mix of the packets that came in
abbrev pub scheme : Node → Scheme
scheme d k bs = mixed byte_field 1024 (coefficients_of k (vec_items d.outs)) bs

-- the message that a receiver reads from the packets that came in
abbrev pub reading : Node → List Packet → List Packet
reading d bs = read_by byte_field 1024 (map vec_items (vec_items d.rows)) (map (λ i. row_at bs i) (vec_items d.current))
