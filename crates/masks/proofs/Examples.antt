-- Computed examples of masks, of their first 4 columns. Each says in its comment what it pins. Assumes nothing.
use mathlib.Core.Path.{◌≡◌, refl}
use mathlib.Core.List.{[], ◌∷◌, map}
use mathlib.Core.Bool.{true, false}
use lib.ListN.{take}
use Rattle.model.specs.Areas.{stride}
use Rattle.masks.specs.Masks.{pair_columns, columns_from, among, keeping, is_used, used_columns, leaves_column, leaves_rows}
use Rattle.masks.specs.declared.Joining.{Joining}

-- the right columns of the first two pairs, and of no third one
pair_columns_lem : pair_columns (1 ∷ 0 ∷ 3 ∷ 2 ∷ 9 ∷ 9 ∷ []) 2 1 ≡ 0 ∷ 2 ∷ []
pair_columns_lem = refl

-- the first is taken, the end is not
columns-from : columns_from 2 5 (1 ∷ 4 ∷ 2 ∷ 5 ∷ []) ≡ 2 ∷ 0 ∷ []
columns-from = refl

-- the last and the first are among them, another is not
among_them : map (among (3 ∷ 1 ∷ 0 ∷ [])) (0 ∷ 2 ∷ 3 ∷ []) ≡ true ∷ false ∷ true ∷ []
among_them = refl

-- columns 3 and 0 kept beside column 1, which was; column 2 stays masked
kept_beside : take 4 (keeping (3 ∷ 0 ∷ []) (stride ∷ 1 ∷ stride ∷ stride ∷ [])) ≡ 0 ∷ 1 ∷ stride ∷ 3 ∷ []
unfolding keeping
kept_beside = refl

-- left rows of 2 fields; left column 1 is to equal right column 0; given are left column 1, right columns 2 and 0
abbrev example : Joining
example = record { split = 2; p = 1; pairs = 1 ∷ 0 ∷ 3 ∷ 3 ∷ []; n = 3; columns = 1 ∷ 4 ∷ 2 ∷ 3 ∷ [] }

-- a given column that is no pair's, and neither a pair nor a column past those that there are
is_used_lem : map (is_used example 1 2 6) (0 ∷ 1 ∷ 2 ∷ 3 ∷ []) ≡ true ∷ false ∷ true ∷ false ∷ []
is_used_lem = refl

-- of the left side column 1 alone
used_left : take 4 (used_columns example 0 0 2) ≡ stride ∷ 1 ∷ stride ∷ stride ∷ []
unfolding used_columns
used_left = refl

-- of the right side columns 0 and 2
used_right : take 4 (used_columns example 1 2 6) ≡ 0 ∷ stride ∷ 2 ∷ stride ∷ []
unfolding used_columns
used_right = refl

-- column 0 is kept, column 1 is masked with a field there, column 2 is masked and empty
leaves-columns : map (leaves_column (0 ∷ stride ∷ stride ∷ []) ((7 ∷ 0 ∷ 0 ∷ []) ∷ (7 ∷ 8 ∷ 0 ∷ []) ∷ [])) (0 ∷ 1 ∷ 2 ∷ []) ≡ true ∷ false ∷ true ∷ []
leaves-columns = refl

-- one column of one row is enough to be no mask that leaves the rows
leaves-not : map (leaves_rows (0 ∷ stride ∷ [])) (((7 ∷ 0 ∷ []) ∷ []) ∷ ((7 ∷ 0 ∷ []) ∷ (7 ∷ 8 ∷ []) ∷ []) ∷ []) ≡ true ∷ false ∷ []
leaves-not = refl
