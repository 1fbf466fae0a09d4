-- Projection: the rows that a place's rows make. Assumes nothing.
use mathlib.Core.Path.{◌≡◌, refl, sym, ap, ◌∙◌}
use mathlib.Core.Bool.{true}
use mathlib.Core.List.{List, [], ◌∷◌, map, flat_map}
use Prim.Native.Nat.{ℕ, ◌≤◌}
use native.Mathlib.Omega.{arith}
use lib.ListN.{length, get_or, replicate, length-map}
use borrow.Author.Tests.{lt-ltb}
use Rattle.model.specs.Row.{Row, set_of, max_width, Wide}
use Rattle.model.specs.Algebra.{columns_of, project_rows}
use Rattle.model.specs.Areas.{padded, stride}
use Rattle.model.specs.Network.{columns_below}
use Rattle.rows.proofs.Padding.{field_padded}
use Rattle.places.specs.Places.{relation_in, Place, Stored, Makes}
use Rattle.std.specs.Prelude.{Option}
use Rattle.places.proofs.Puts.{put_up_to, put_all, made_is, made_wide, model_makes}
use Rattle.rows.specs.Rows.{first_rows}
use Rattle.columns.specs.Columns.{joined_field, masked_row, masked_rows}
use Rattle.columns.proofs.Rows.{columns-same, joined_length}

-- the row that a projection makes of a row
abbrev pub projected : List ℕ → Row → List Row
projected columns r = masked_row columns r ∷ []

pub wide_projected : (columns : List ℕ) → length columns ≤ max_width → (r : Row) → length r ≡ stride → Wide stride (projected columns r)
wide_projected columns h r e = (joined_length stride columns r (replicate stride 0) h, tt)

each_map : (f : Row → Row) (l : List Row) → flat_map (λ r. f r ∷ []) l ≡ map f l
unfolding flat_map
each_map f [] = refl
each_map f (r ∷ l) = ap (λ (m : List Row). f r ∷ m) (each_map f l)

pub project_all : (columns s : List ℕ) (n : ℕ) → put_up_to (projected columns) [] s n ≡ masked_rows columns (first_rows s n)
project_all columns s n = put_all (projected columns) s n ∙ ap set_of (each_map (masked_row columns) (first_rows s n))

module _ (columns : List ℕ) (w : ℕ) (s : List ℕ) (n : ℕ) (pl : Place w s n) (below : columns_below w columns ≡ true) where
  project-row : (r : Row) → length r ≡ w → projected columns (padded stride r) ≡ map (padded stride) (columns_of columns r ∷ [])
  project-row r e =
      ap (λ (l : List ℕ). padded stride l ∷ [])
      (columns-same w columns (joined_field stride (padded stride r) (replicate stride 0)) (λ c. get_or r c 0) below
      (λ c h. rw (lt-ltb c stride (omega (arith, pl.narrow))) (field_padded stride r c (rw e h))))

  columns-wide : (r : Row) → length r ≡ w → Wide (length columns) (columns_of columns r ∷ [])
  columns-wide r e = (length-map columns (λ c. get_or r c 0), tt)

  project_is : masked_rows columns (first_rows s n) ≡ map (padded stride) (project_rows columns (relation_in w s n))
  unfolding project_rows
  project_is =
      ap set_of (sym (each_map (masked_row columns) (first_rows s n)))
      ∙ made_is (projected columns) (λ r. columns_of columns r ∷ []) w (length columns) s n pl project-row columns-wide
      ∙ ap (λ (l : List Row). map (padded stride) (set_of l)) (each_map (columns_of columns) (relation_in w s n))

  project-wide : Wide (length columns) (project_rows columns (relation_in w s n))
  unfolding project_rows
  project-wide =
      rw (← each_map (columns_of columns) (relation_in w s n)) (made_wide (projected columns) (λ r. columns_of columns r ∷ []) w (length columns) s n pl project-row columns-wide)

  pub project_makes : length columns ≤ max_width → (out : List ℕ) (made : Option ℕ) → Stored (masked_rows columns (first_rows s n)) out made → Makes (project_rows columns (relation_in w s n)) out made
  project_makes few = model_makes (masked_rows columns (first_rows s n)) (project_rows columns (relation_in w s n)) (length columns) few project-wide project_is
