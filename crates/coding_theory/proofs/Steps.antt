-- How long the lists are, and how the links are gone along: a front of them first, and what was put down stays.
use Rattle.std.proofs.Common.{◌≡◌, ℕ, ◌-◌, ltb, List, [], ◌∷◌, ◌++◌, map, length, sym, ap, ◌∙◌, append_assoc, append-nil}
use lib.ListN.{length-map}
use Rattle.std.proofs.lemmas.Bool.{cond_both}
use Rattle.gf.specs.Field.{Field}
use Rattle.linear.specs.Vectors.{units, plus, scale, mix, mixed}
use Rattle.linear.specs.Lowest.{lowest}
use Rattle.linear.specs.Dual.{serves}
use Rattle.linear.specs.Choice.{serves_all}
use Rattle.linear.proofs.Lists.{length-plus, length-scale}
use Rattle.network.specs.Network.{Link}
use Rattle.network_cuts.specs.Scheme.{hand}
use Rattle.coding_theory.specs.Coding.{place, Carrier, at_hand, Receiver, Want, wants, next, choose, Coded, chosen, one_more, along}
use Rattle.std.specs.List.{All}
use Rattle.std.proofs.lemmas.List.Elements.{All-nil, All-cons, All-head, All-tail}

pub wants-long : (h e : ℕ) (names : List Carrier) (rs : List Receiver) → All (λ w. length w.trial ≡ length names) (wants h e names rs)
unfolding wants
wants-long h e names [] = All-nil (λ w. length w.trial ≡ length names)
wants-long h e names (r ∷ rs) =
    cond_both (ltb (place e r.aim.paths) h) _ _ (All (λ w. length w.trial ≡ length names)) (λ _. All-cons (λ w. length w.trial ≡ length names) _ (wants h e names rs) (length-map names _) (wants-long h e names rs)) (λ _. wants-long h e names rs)

module _ (F : Field) (h : ℕ) where
  open F use {size}

  next-long : (n : ℕ) (hands : List (List ℕ)) (done : List (List ℕ)) (cs : List ℕ) (w : Want) → length w.trial ≡ n → length cs ≡ n → length (next F h hands done cs w) ≡ n
  unfolding next
  next-long n hands done cs w lw lc =
      cond_both (serves F h (mix F cs hands) w.test) cs (plus cs (scale F t w.trial)) (λ x. length x ≡ n) (λ _. lc)
      (λ _. length-plus cs (scale F t w.trial) (lc ∙ sym (length-scale F t w.trial ∙ lw)) ∙ length-scale F t w.trial ∙ lw)
    where
      t : ℕ
      t = lowest (λ t. serves_all F h (mix F (plus cs (scale F t w.trial)) hands) (w.test ∷ done)) (size - 1) 1

  pub choose-long : (n : ℕ) (hands : List (List ℕ)) (ws : List Want) (done : List (List ℕ)) (cs : List ℕ) → All (λ w. length w.trial ≡ n) ws → length cs ≡ n
      → length (choose F h hands done cs ws) ≡ n
  unfolding choose
  choose-long n hands [] done cs a lc = lc
  choose-long n hands (w ∷ ws) done cs a lc =
      choose-long n hands ws (w.test ∷ done) (next F h hands done cs w) (All-tail (λ w. length w.trial ≡ n) w ws a) (next-long n hands done cs w (All-head (λ w. length w.trial ≡ n) w ws a) lc)

  -- a coefficient for each carrier at hand
  pub chosen-long : (before : List Link) (l : Link) (c : Coded) → length (chosen F h before l c) ≡ length (at_hand h l.from before)
  unfolding chosen
  chosen-long before l c =
      choose-long (length (at_hand h l.from before)) (hand l.from (units h) before c.vectors) (wants h (length before) (at_hand h l.from before) c.receivers) []
      (map (λ n. 0) (at_hand h l.from before)) (wants-long h (length before) (at_hand h l.from before) c.receivers) (length-map (at_hand h l.from before) (λ n. 0))

  pub along-append : (mid before after : List Link) (c : Coded) → along F h before (mid ++ after) c ≡ along F h (before ++ mid) after (along F h before mid c)
  unfolding along
  along-append [] before after c = ap (λ b. along F h b after c) (sym (append-nil before))
  along-append (l ∷ mid) before after c =
      along-append mid (before ++ l ∷ []) after (one_more F h before l c)
      ∙ ap (λ b. along F h b after (along F h (before ++ l ∷ []) mid (one_more F h before l c))) (append_assoc before (l ∷ []) mid)

  pub along-coefficients : (after before : List Link) (c : Coded) → (rest : List (List ℕ)) × ((along F h before after c).coefficients ≡ c.coefficients ++ rest)
  unfolding along one_more
  along-coefficients [] before c = ([], sym (append-nil c.coefficients))
  along-coefficients (l ∷ after) before c =
      let r = along-coefficients after (before ++ l ∷ []) (one_more F h before l c) in
      (chosen F h before l c ∷ r.0, r.1 ∙ append_assoc c.coefficients (chosen F h before l c ∷ []) r.0)

  pub along-vectors : (after before : List Link) (c : Coded) → (rest : List (List ℕ)) × ((along F h before after c).vectors ≡ c.vectors ++ rest)
  unfolding along one_more
  along-vectors [] before c = ([], sym (append-nil c.vectors))
  along-vectors (l ∷ after) before c =
      let r = along-vectors after (before ++ l ∷ []) (one_more F h before l c) in
      (_ ∷ r.0, r.1 ∙ append_assoc c.vectors (mixed F h (chosen F h before l c) (hand l.from (units h) before c.vectors) ∷ []) r.0)
