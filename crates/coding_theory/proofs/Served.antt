-- The whole: at the end each receiver's dual rows, transposed, read every message from the packets on its current carriers, and no others do.
use Rattle.std.proofs.Common.{◌≡◌, ℕ, ◌<◌, List, [], length, refl, arith}
use Rattle.gf.specs.Field.{Field}
use Rattle.linear.specs.Vectors.{row}
use Rattle.linear.specs.Reading.{Square, Delivers}
use Rattle.linear.specs.Transport.{Both, none, Message}
use Rattle.linear.proofs.Transport.{both_at, both-length}
use Rattle.linear.proofs.Independence.{inverse-independent}
use Rattle.linear.proofs.Reading.{rows-read, only-rows}
use Rattle.network.specs.Network.{Network, Sound}
use Rattle.network_cuts.specs.Scheme.{Packet, carried}
use Rattle.coding_theory.specs.Coding.{linear, rows, on_carrier, Receiver, current_at, Coded, code}
use Rattle.std.specs.List.{All}
use Rattle.std.proofs.lemmas.List.Elements.{All-weaker}
use Rattle.coding_theory.specs.Paths.{Aim, Given}
use Rattle.coding_theory.specs.Promise.{Ends, Reads, Reader, Served, AllAtOnce}
use Rattle.coding_theory.proofs.Paths.{under-over}
use Rattle.coding_theory.proofs.Pass.{Rows, Vectors, Kept}
use Rattle.coding_theory.proofs.Loop.{Fine, fine}
use Rattle.coding_theory.proofs.Carry.{Is, along-is, is-on}

module _ (F : Field) (z : Network) (g : Sound z) (h : ℕ) (as' : List Aim) (few : length as' < F.size) (given : All (Given z.links h) as') where
  open F use {size, times, laws}
  open laws use {more}

  c : Coded
  c = code F z h as'

  f : Fine F h as' z.links z.links c
  unfolding c
  f = fine F h as' few z g given

  sent : ℕ → List Packet → List Packet
  sent n m = carried z (linear F n c.coefficients) m

  module _ (n : ℕ) (m : List Packet) (msg : Message F n h m) where
    all-is : Both (Is F n h m) (sent n m) c.vectors
    unfolding c sent
    all-is = along-is F n h m msg z.links [] (record { coefficients = []; vectors = []; receivers = _ }) [] 0 c.coefficients refl refl refl none

  module _ (r : Receiver) (s : Kept F z.links h (length z.links) c.vectors r) where
    ends : (j : ℕ) → j < h → Ends z.links h (length z.links) (current_at r j) r.aim.node
    ends j lj = under-over z.links h (length z.links) r.aim.node (row r.aim.paths j) (current_at r j) (s.under j lj) (omega arith)

    delivers : (n : ℕ) → Delivers F n h (Vectors F h c.vectors r) (λ m j. on_carrier m (sent n m) (current_at r j))
    delivers n m msg j lj = is-on F n h m msg z.links (sent n m) c.vectors (all-is n m msg) f.vectors (current_at r j) r.aim.node (ends j lj)

    read : (n : ℕ) → Square F h (rows h r) × Reads F n z h c r (rows h r)
    unfolding sent
    read n = rows-read F n h (Rows F r) (Vectors F h c.vectors r) (λ m j. on_carrier m (sent n m) (current_at r j)) s.dual (delivers n)

    only : (n : ℕ) (qs : List (List ℕ)) → 0 < n → Square F h qs → Reads F n z h c r qs → qs ≡ rows h r
    unfolding sent
    only n qs pos = only-rows F n h (Rows F r) (Vectors F h c.vectors r) (λ m j. on_carrier m (sent n m) (current_at r j)) pos s.dual (delivers n) qs

    reader : Reader F z h c r
    reader = record {
      independent = inverse-independent F h (Rows F r) (Vectors F h c.vectors r) s.dual;
      lead = ends;
      square = (read 0).0;
      reads = λ n. (read n).1;
      only = only;
    }

  served-here : Served F z h as' c
  unfolding sent
  served-here = record {
    all = f.aims;
    each-link = (f.coefficients, f.vectors);
    vectors = λ n m msg e le i li. both_at (Is F n h m) (sent n m) c.vectors [] [] (all-is n m msg) e (omega (arith, f.vectors, both-length (Is F n h m) (sent n m) c.vectors (all-is n m msg))) i li;
    readers = All-weaker (Kept F z.links h (length z.links) c.vectors) (Reader F z h c) (λ r s. reader r s) c.receivers f.kept;
  }

  served : Served F z h as' (code F z h as')
  unfolding c
  served = served-here

pub all-at-once : AllAtOnce
all-at-once F z g h as' few given = served F z g h as' few given
