-- Where the code's loop over the receivers stands: what it reads there is of the receiver whose turn it is.
use Rattle.std.proofs.Common.{◌≡◌, ℕ, ◌<◌, ◌≤◌, List, map, length, get_or, vec_items, Vec, Global, ap, ◌∙◌, arith}
use lib.ListN.{length-map}
use Rattle.network.specs.Values.{graph}
use Rattle.network.proofs.Sound.{sound}
use Rattle.coding_theory.specs.Coding.{place}
use Rattle.coding.specs.Aims.{aim_of, aims_on}
use Rattle.coding.specs.Passing.{place_on}
use Rattle.coding.specs.declared.coder.Coder.{Coder}
use Rattle.coding.specs.declared.receiver.Receiver.{Receiver as Pending}
use Rattle.coding.proofs.Turns.{stands}

module _ (s : Coder) (le : length (vec_items s.vectors) < length (graph s.network.now).links) (i : ℕ) (p : Pending)
    (items : List Pending) (all : items ≡ vec_items s.receivers) (li : i < length items) (is : p ≡ get_or items i p) where
  pub inside : i < length (aims_on (vec_items s.receivers))
  inside = omega (arith, ap length all, length-map (vec_items s.receivers) (λ p. aim_of p.aim.now))

  pub is-there : p ≡ get_or (vec_items s.receivers) i p
  is-there = is ∙ ap (λ q. get_or q i p) all

  many : length (vec_items p.rows) ≡ s.h
  many = (stands (graph s.network.now) (sound s.network.now) s.h (aims_on (vec_items s.receivers)) s.served (length (vec_items s.vectors)) le (vec_items s.vectors) (vec_items s.receivers) s.state i inside p is-there).many

  -- n: the number of the link; paths: the receiver's
  module _ (n : ℕ) (is-n : n ≡ length (vec_items s.vectors)) (paths : List (Vec ℕ Global)) (own : paths ≡ vec_items p.aim.now.paths) where
    place-is : place n (map vec_items paths) ≡ place_on (length (vec_items s.vectors)) p
    place-is = ap (λ m. place m (map vec_items paths)) is-n ∙ ap (λ q. place (length (vec_items s.vectors)) (map vec_items q)) own

    level : length paths ≡ s.h
    level = omega (arith, ap length own, p.paths, many)

    pub on_none : length paths ≤ place n (map vec_items paths) → s.h ≤ place_on (length (vec_items s.vectors)) p
    on_none l = omega (arith, level, place-is)

    pub on_one : (j : ℕ) → j < length paths → j ≡ place n (map vec_items paths) → (j < s.h) × (j ≡ place_on (length (vec_items s.vectors)) p)
    on_one j l e = (omega (arith, level), e ∙ place-is)
