-- The turn of link e in a network: what the definition holds there (`Fine`) gives what the code needs of each receiver on whose path the
-- link lies: the name of the packet of its trial set, which is at hand, the vector of that packet, and that some t serves all so far.
use Rattle.std.proofs.Common.{◌≡◌, ℕ, suc, ◌+◌, ◌<◌, true, false, cond, ltb, List, [], ◌∷◌, ◌++◌, length, get_or, take, drop, sym, ap, ◌∙◌, append-nil, arith, take-append-drop, length-take, drop-cons}
use lib.ListN.{length-map}
use Rattle.std.proofs.lemmas.List.{take_more}
use Rattle.std.proofs.lemmas.Bool.{cond-true, cond-false}
use Rattle.gf.proofs.Fields.{byte_field}
use Rattle.gf_bytes.specs.declared.vector.Vector.{Vector}
use Rattle.linear.specs.Vectors.{at, units, mix}
use Rattle.linear.proofs.Lists.{get_d_map}
use Rattle.network.specs.Network.{Link, Network, link_at, Sound}
use Rattle.network_cuts.specs.Scheme.{hand}
use Rattle.std.specs.List.{All}
use Rattle.std.proofs.lemmas.List.Elements.{All-weaker, All-take}
use Rattle.coding_theory.specs.Paths.{Aim}
use Rattle.coding_theory.specs.Coding.{place, Carrier, message, link, on_carrier, at_hand, trial, Receiver, current_at, Want, wants, Coded}
use Rattle.coding_theory.specs.Promise.{Ends}
use Rattle.coding_theory.proofs.Choose.{Wanted}
use Rattle.coding_theory.proofs.Pass.{Kept, ends_on, trial-vector, can-be}
use Rattle.coding_theory.proofs.Loop.{On, Fine, fine-at, far_from, want, wants-each, wants-few}
use Rattle.coding_steps.specs.Carriers.{Known}
use Rattle.coding.specs.Served.{Served}
use Rattle.coding.specs.State.{up_to}
use Rattle.coding.proofs.Choosing.{wants-push, Chosen}

-- LINK e

-- what the code holds when the first i receivers have had their turn
abbrev pub Turn : Network → ℕ → List Aim → ℕ → ℕ → List ℕ → Vector → List Vector → Type 0
Turn z h as' e i cs v rows =
    let p : ℕ = (link_at z.links e).from in
    let ls : List Link = take e z.links in
    Chosen h (hand p (units h) ls (up_to z h as' e).vectors) (at_hand h p ls) (wants h (length ls) (at_hand h p ls) (take i (up_to z h as' e).receivers)) cs v rows

module _ (z : Network) (g : Sound z) (h : ℕ) (as' : List Aim) (s : Served z h as') (e : ℕ) (le : e < length z.links) where
  abbrev pub before : List Link
  before = take e z.links

  abbrev pub l : Link
  l = link_at z.links e

  abbrev pub state : Coded
  state = up_to z h as' e

  abbrev pub names : List Carrier
  names = at_hand h l.from before

  abbrev pub hands : List (List ℕ)
  hands = hand l.from (units h) before state.vectors

  pub so_far : length before ≡ e
  so_far = omega (arith, length-take e z.links)

  whole : z.links ≡ before ++ l ∷ drop (suc e) z.links
  whole = sym (take-append-drop e z.links) ∙ ap (λ q. before ++ q) (drop-cons z.links e (record { from = 0; to = 0 }) le)

  few : length as' < 256
  few = omega (arith, s.few)

  pub fine : Fine byte_field h as' z.links before state
  fine = fine-at byte_field h as' few z g s.given before (l ∷ drop (suc e) z.links) whole

  pub all : length state.receivers ≡ length as'
  all = sym (length-map state.receivers (λ r. r.aim)) ∙ ap length fine.aims

  -- the wants of the first i receivers
  abbrev pub wanting : ℕ → List Want
  wanting i = wants h (length before) names (take i state.receivers)

  pub all_wanted : (i : ℕ) → All (Wanted byte_field h hands) (wanting i)
  all_wanted i =
      wants-each h (length before) names (Wanted byte_field h hands) (take i state.receivers)
      (All-weaker (Kept byte_field z.links h (length before) state.vectors) (λ r. On h (length before) names r → Wanted byte_field h hands (want h (length before) names r))
      (λ q k t. can-be byte_field h z.links before l (drop (suc e) z.links) whole state.vectors fine.vectors q k t (far_from z g before l (drop (suc e) z.links) whole) fine.small)
      (take i state.receivers) (All-take (Kept byte_field z.links h (length before) state.vectors) i state.receivers fine.kept))

  module _ (i : ℕ) (li : i < length as') (r₀ : Receiver) where
    abbrev pub r : Receiver
    r = get_or state.receivers i r₀

    abbrev pub j : ℕ
    j = place (length before) r.aim.paths

    lr : i < length state.receivers
    lr = omega (arith, all)

    kept : Kept byte_field z.links h (length before) state.vectors r
    kept = fine.kept i r₀ lr

    pub aim-is : (a : Aim) → r.aim ≡ get_or as' i a
    aim-is a = sym (get_d_map (λ r. r.aim) state.receivers i r₀ a lr) ∙ ap (λ q. get_or q i a) fine.aims

    wanting-more : wanting (i + 1) ≡ wanting i ++ cond (ltb j h) (want h (length before) names r ∷ []) []
    wanting-more = ap (wants h (length before) names) (take_more state.receivers i r₀ lr) ∙ wants-push h (length before) names (take i state.receivers) r

    pub wanting-off : ltb j h ≡ false → wanting (i + 1) ≡ wanting i
    wanting-off f = wanting-more ∙ ap (λ q. wanting i ++ q) (cond-false _ _ _ f) ∙ append-nil (wanting i)

    module _ (t : ltb j h ≡ true) where
      pub wanting-on : wanting (i + 1) ≡ wanting i ++ want h (length before) names r ∷ []
      wanting-on = wanting-more ∙ ap (λ q. wanting i ++ q) (cond-true _ _ _ t)

      ends : Ends z.links h (length before) (current_at r j) l.from
      ends = ends_on byte_field h z.links before l (drop (suc e) z.links) whole state.vectors fine.vectors r kept t

      far : (k : ℕ) → k < length before → (link_at before k).to ≡ 0 → ⊥
      far = far_from z g before l (drop (suc e) z.links) whole

      -- what carries the packet is one of the message or a link so far
      pub known : Known h e (current_at r j)
      known = by (current_at r j) ends
        where
          by : (c : Carrier) → Ends z.links h (length before) c l.from → Known h e c
          by (message i) x = x.0
          by (link k) x = omega (arith, x.0, so_far)

      pub trial-gives : (x : ℕ) → x < h → at (mix byte_field (trial (current_at r j) names) hands) x ≡ at (on_carrier (units h) state.vectors (current_at r j)) x
      trial-gives = trial-vector byte_field h z.links before l (drop (suc e) z.links) whole state.vectors fine.vectors r kept t far fine.small

      pub wanted : Wanted byte_field h hands (want h (length before) names r)
      wanted = can-be byte_field h z.links before l (drop (suc e) z.links) whole state.vectors fine.vectors r kept t far fine.small

      pub room : 1 + length (wanting i) < 256
      room = omega (arith, wants-few h (length before) names (take i state.receivers), length-take i state.receivers, all, s.few)
