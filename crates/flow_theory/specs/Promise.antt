-- What is promised of the paths or the cut that are found. Each promise is a type; a proof of the type is the theorem. Defines, in this order:
--   Leads, AllLead     links that lead from one node to another
--   joined, Absent, Different    no link twice
--   Paths              h paths that share no link
--   Stands, PathsOrCut     either h paths are found, or a cut
--   NotBoth            where there is a cut, there are no such paths
--   Reached, FirstFound    which nodes the search reaches, and by which walks
--   OnlyOne            there is only one such walk
-- Assumes nothing.
use Rattle.std.specs.Prelude.{◌≡◌, ℕ, ◌<◌, Bool, true, List, [], ◌∷◌, ◌++◌, length, ◌≢◌}
use Rattle.network.specs.Network.{Link, Network, Sound, link_at}
use Rattle.network_cuts.specs.Cut.{Cut, out}
use Rattle.flow_theory.specs.Flow.{Way, is_reached, links_to, reached, Found, paths, cut, paths_or_cut}
use Rattle.flow_theory.specs.Order.{Walk, First}

-- links, given by their numbers, each beginning where the one before it ends, lead from a node q to a node p
abbrev pub Leads : List Link → (q p : ℕ) → List ℕ → Type 0
Leads ls q p [] = q ≡ p
Leads ls q p (k ∷ ks) = (k < length ls) × ((link_at ls k).from ≡ q) × Leads ls (link_at ls k).to p ks

abbrev pub AllLead : List Link → (q p : ℕ) → List (List ℕ) → Type 0
AllLead ls q p [] = Unit {0}
AllLead ls q p (w ∷ ws) = Leads ls q p w × AllLead ls q p ws

abbrev pub joined : List (List ℕ) → List ℕ
joined [] = []
joined (x ∷ xs) = x ++ joined xs

abbrev pub Absent : ℕ → List ℕ → Type 0
Absent k [] = Unit {0}
Absent k (x ∷ xs) = (k ≢ x) × Absent k xs

abbrev pub Different : List ℕ → Type 0
Different [] = Unit {0}
Different (x ∷ xs) = Absent x xs × Different xs

-- h paths from the source to p; no link is in two of them, nor twice in one
pub record Paths (z : Network) (h p : ℕ) (ws : List (List ℕ)) : Type 0 where
  pub many : length ws ≡ h
  pub lead : AllLead z.links 0 p ws
  pub apart : Different (joined ws)

-- a cut stands with as many paths as links lead out of it, so none is narrower
abbrev pub Stands : Network → (h p : ℕ) → Found → Type 0
Stands z h p (paths ws) = Paths z h p ws
Stands z h p (cut side) = (c : Cut z h p) × (c.side ≡ side) × (ws : List (List ℕ)) × Paths z (out side z.links) p ws

-- Either h paths are found that share no link, or a cut of fewer than h links.
abbrev pub PathsOrCut : Type 0
PathsOrCut = (z : Network) → Sound z → (h p : ℕ) → 0 < p → p < z.nodes → Stands z h p (paths_or_cut z h p)

-- Where there is a cut, there are no such paths; so paths are found wherever there are any.
abbrev pub NotBoth : Type 0
NotBoth = (z : Network) (h p : ℕ) (ws : List (List ℕ)) → Paths z h p ws → Cut z h p → ⊥

-- a node is reached where a walk leads there, and only there; the walk found is the first of the shortest, and no link is twice in it
pub record Reached (ls : List Link) (us : List Bool) (ws : List Way) : Type 0 where
  pub walks : (q : ℕ) → is_reached q ws ≡ true → First ls us (links_to q ws) q × Different (links_to q ws)
  pub found : (q : ℕ) (ks : List ℕ) → Walk ls us ks q → is_reached q ws ≡ true

-- Whatever links are used, the search finds the first of the shortest walks to each node that can be reached.
abbrev pub FirstFound : Type 0
FirstFound = (z : Network) → Sound z → (us : List Bool) → Reached z.links us (reached z us)

-- No other walk is the first of the shortest.
abbrev pub OnlyOne : Type 0
OnlyOne = (ls : List Link) (us : List Bool) (q : ℕ) (js ks : List ℕ) → First ls us js q → First ls us ks q → js ≡ ks
