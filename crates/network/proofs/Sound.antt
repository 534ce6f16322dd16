-- Every value of the program is an accepted net: its invariants, which speak of its own links, say so of the links that these stand for.
use Rattle.std.proofs.Common.{◌≡◌, ℕ, ◌<◌, length, get_or, vec_items, vec_len, sym, ap, ◌∙◌, inl, inr, arith}
use Rattle.std.proofs.lemmas.Bool.{cases_Bool}
use Rattle.std.proofs.lemmas.List.{get_or_read_under}
use Rattle.std.proofs.Math.ListN.{length-map, get_or-map}
use Rattle.network.specs.Network.{link_at, Fed, Sound, Accepted}
use Rattle.network.specs.Links.{link_of, begin_of, end_of}
use Rattle.network.specs.Format.{among}
use Rattle.network.specs.Values.{graph, value}
use Rattle.network.specs.declared.net.Link.{Link as Joined}
use Rattle.network.specs.declared.net.Network.{Network as Graph}
use Rattle.network.specs.declared.net.Multicast.{Multicast as Net}
use Rattle.network.proofs.Items.{among-found, none-among}
use Rattle.network.proofs.Columns.{within-like, apart-like, order-like, fed-like}

-- if it is not so that no link comes into a node, one is found
found : (n : ℕ) (from to : ℕ → ℕ) → Fed n from to → (k : ℕ) → k < n → (from k ≡ 0 → ⊥) → (j : ℕ) × (j < n) × (to j ≡ from k)
found n from to fed k h z =
    elim (cases_Bool (among to n (from k))) [
      | inl e ↦ let s = among-found to n (from k) e in (s.0, s.1, sym s.2)
      | inr e ↦ absurd (fed k h z (λ j l q. none-among to n (from k) j e l (sym q)))
    ]

-- the links of a network
module _ (z : Graph) where
  pub links-long : vec_len z.links ≡ length (graph z).links
  links-long = omega (arith, z.links.ok.0, length-map (vec_items z.links) link_of)

  pub link_is : (k : ℕ) → link_at (graph z).links k ≡ link_of (get_or (vec_items z.links) k (record { from = 0; to = 0 }))
  link_is k = get_or-map link_of (vec_items z.links) k (record { from = 0; to = 0 })

  pub from_is : (k : ℕ) → (link_at (graph z).links k).from ≡ begin_of (vec_items z.links) k
  from_is k = ap (λ l. l.from) (link_is k)

  pub to_is : (k : ℕ) → (link_at (graph z).links k).to ≡ end_of (vec_items z.links) k
  to_is k = ap (λ l. l.to) (link_is k)

  -- what the program reads at k stands for link k
  pub link-read : (k : ℕ) (l : Joined) → k < vec_len z.links → l ≡ get_or (vec_items z.links) k l → link_at (graph z).links k ≡ link_of l
  link-read k l h e = link_is k ∙ ap link_of (sym (get_or_read_under (vec_items z.links) k (vec_len z.links) l (record { from = 0; to = 0 }) e h z.links.ok.0))

  pub begins-at : (k : ℕ) (l : Joined) → k < vec_len z.links → l ≡ get_or (vec_items z.links) k l → (link_at (graph z).links k).from ≡ l.from
  begins-at k l h e = ap (λ x. x.from) (link-read k l h e)

  pub ends-at : (k : ℕ) (l : Joined) → k < vec_len z.links → l ≡ get_or (vec_items z.links) k l → (link_at (graph z).links k).to ≡ l.to
  ends-at k l h e = ap (λ x. x.to) (link-read k l h e)

  pub sound : Sound (graph z)
  sound =
      record {
        some = z.limits.0;
        within = rw (sym links-long) (within-like (vec_len z.links) (begin_of (vec_items z.links)) (end_of (vec_items z.links)) _ _ (λ k _. from_is k) (λ k _. to_is k) z.nodes z.within);
        apart = rw (sym links-long) (apart-like (vec_len z.links) (begin_of (vec_items z.links)) (end_of (vec_items z.links)) _ _ (λ k _. from_is k) (λ k _. to_is k) z.apart);
        order = rw (sym links-long) (order-like (vec_len z.links) (begin_of (vec_items z.links)) (end_of (vec_items z.links)) _ _ (λ k _. from_is k) (λ k _. to_is k) z.order);
      }

  fed-links : (k : ℕ) → k < length (graph z).links → ((link_at (graph z).links k).from ≡ 0 → ⊥)
      → (j : ℕ) × (j < length (graph z).links) × ((link_at (graph z).links j).to ≡ (link_at (graph z).links k).from)
  fed-links =
      rw (sym links-long)
      (found (vec_len z.links) (λ k. (link_at (graph z).links k).from) (λ k. (link_at (graph z).links k).to)
      (fed-like (vec_len z.links) (begin_of (vec_items z.links)) (end_of (vec_items z.links)) _ _ (λ k _. from_is k) (λ k _. to_is k) z.fed))

pub accepted : (m : Net) → Accepted (value m)
accepted m =
    let r : vec_len m.receivers ≡ length (vec_items m.receivers) = omega (arith, m.receivers.ok.0) in
    record {
      limits = rw (sym (links-long m.network)) m.network.limits;
      sound = sound m.network;
      fed = fed-links m.network;
      rates = rw (sym r) m.rates;
      placed = rw (sym r) m.placed;
      rising = rw (sym r) m.rising;
    }
