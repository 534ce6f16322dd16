-- What the answer of `code` means. Defines, in this order:
--   Away     no receiver is at the source
--   Decodes  links and rows of a receiver are the definition's
--   Means    so are the coefficients of all links, and all receivers
-- Assumes nothing.
use Rattle.std.specs.Prelude.{◌≡◌, ℕ, ◌<◌, List, map, length, vec_items, ◌≢◌, slice_index, slice_index_or}
use Rattle.std.specs.List.{All}
use Rattle.coding_theory.specs.Paths.{Aim}
use Rattle.coding_theory.specs.Coding.{link, Receiver, current_at, Coded, rows}
use Rattle.wire.specs.declared.plan.Coded.{Coded as Answer}
use Rattle.wire.specs.declared.plan.Decoder.{Decoder}

abbrev pub Away : List Aim → Type 0
Away as' = All (λ a. a.node ≢ 0) as'

pub record Decodes (h : ℕ) (d : Decoder) (r : Receiver) : Type 0 where
  pub many : length (vec_items d.links) ≡ h
  pub links : (j : ℕ) → j < h → current_at r j ≡ link (slice_index (vec_items d.links) j)
  pub decoding : map vec_items (vec_items d.rows) ≡ rows h r

pub record Means (h : ℕ) (x : Answer) (c : Coded) : Type 0 where
  pub coefficients : map vec_items (vec_items x.coefficients) ≡ c.coefficients
  pub all : length (vec_items x.receivers) ≡ length c.receivers
  pub receivers : (i : ℕ) (d : Decoder) (r : Receiver) → i < length c.receivers → Decodes h (slice_index_or (vec_items x.receivers) i d) (slice_index_or c.receivers i r)
