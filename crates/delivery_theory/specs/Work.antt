-- A plan at work: what each link carries, and what each receiver reads from what came in. Defines, in this order:
--   working      the scheme of a plan: each link carries the mix of what is at hand by its coefficients, in packets of 1024 bytes
--   place        where a link stands in a list of links
--   read_from    what a receiver reads from what came in over all its links
--   reader_for   the reader of the receiver at a node; one without rows where there is none
--   reading      what the receivers of a net read
-- Assumes nothing.
use Rattle.std.specs.Prelude.{ℕ, ◌+◌, cond, List, [], ◌∷◌, map, ◌==◌}
use Rattle.gf.proofs.Fields.{byte_field}
use Rattle.linear.specs.Vectors.{row}
use Rattle.linear.specs.Reading.{read_by}
use Rattle.network.specs.Network.{Multicast}
use Rattle.network_cuts.specs.Scheme.{Packet, Scheme}
use Rattle.wire.specs.Plan.{Reader}
use Rattle.coding_theory.specs.Coding.{linear}
use Rattle.run_theory.specs.Run.{ins}

abbrev pub working : List (List ℕ) → Scheme
working cs = linear byte_field 1024 cs

unfoldable pub place : ℕ → List ℕ → ℕ
place k [] = 0
place k (j ∷ js) = cond (k == j) 0 (1 + place k js)

-- links: all that come in, in the order in which their packets stand in bs; those that the reader doesn't name are not used
abbrev pub read_from : (links : List ℕ) → Reader → List Packet → List Packet
read_from links r bs = read_by byte_field 1024 r.rows (map (λ k. row bs (place k links)) r.links)

unfoldable pub reader_for : ℕ → List ℕ → List Reader → Reader
reader_for p [] rs = record { links = []; rows = [] }
reader_for p (q ∷ qs) [] = record { links = []; rows = [] }
reader_for p (q ∷ qs) (r ∷ rs) = cond (p == q) r (reader_for p qs rs)

abbrev pub reading : Multicast → List Reader → ℕ → List Packet → List Packet
reading m rs p bs = read_from (ins m.network p) (reader_for p m.receivers rs) bs
