-- Masks: a column of rows followed by zeros for each word of a row. A column is kept, or, at the stride, masked by 0.
use Rattle.std.specs.Prelude.{◌≡◌, Bool, true, cond, not, ◌&&◌, ◌||◌, List, map, ℕ, ◌+◌, ◌-◌, ◌*◌, ◌≤◌, eqb, leb, ltb, length, take, get_or}
use Rattle.model.specs.Row.{Row, all_of, some_of, keep, numbers_below, max_width}
use Rattle.model.specs.Network.{columns_below, pairs_below}
use Rattle.model.specs.Areas.{stride}
use Rattle.nodes.specs.Nodes.{pairs_of}
use Rattle.row_checks.specs.RowChecks.{zero_field}
use Rattle.masks.specs.declared.Joining.{Joining}

-- a join's columns are inside the words of its rows
pub record JoinFits (how : Joining) : Type 0 where
  pub split : how.split ≤ max_width
  pub pairs-long : 2 * how.p ≤ length how.pairs
  pub pairs : pairs_below stride stride (pairs_of how.p how.pairs) ≡ true
  pub few : how.n ≤ max_width
  pub columns-long : how.n ≤ length how.columns
  pub columns : columns_below (how.split + stride) (take how.n how.columns) ≡ true

-- the columns of pairs on a side: 0 is the left one, 1 the right one
abbrev pub pair_columns : List ℕ → ℕ → ℕ → List ℕ
pair_columns pairs p side = map (λ j. get_or pairs (2 * j + side) 0) (numbers_below p)

-- those columns that are from the first up to the end, counted from the first
abbrev pub columns_from : ℕ → ℕ → List ℕ → List ℕ
columns_from first end columns = map (λ c. c - first) (keep (λ c. leb first c && ltb c end) columns)

-- a column is among some
abbrev pub among : List ℕ → ℕ → Bool
among columns k = some_of (eqb k) columns

-- a mask made to keep some columns, and as it was in the others
unfoldable pub keeping : List ℕ → List ℕ → List ℕ
keeping columns used = map (λ k. cond (among columns k) k (get_or used k 0)) (numbers_below stride)

-- a join uses column k of a side, whose columns are from the first up to the end
abbrev pub is_used : Joining → ℕ → ℕ → ℕ → ℕ → Bool
is_used how side first end k =
    among (pair_columns how.pairs how.p side) k || among (columns_from first end (take how.n how.columns)) k

-- the mask that keeps what a join uses of that side, and nothing else
unfoldable pub used_columns : Joining → ℕ → ℕ → ℕ → List ℕ
used_columns how side first end = map (λ k. cond (is_used how side first end k) k stride) (numbers_below stride)

-- a mask leaves column k of some rows as it is: it keeps the column, or every field there is 0
abbrev pub leaves_column : List ℕ → List Row → ℕ → Bool
leaves_column used l k = not (eqb (get_or used k 0) stride) || zero_field k l

-- a mask leaves rows as they are
abbrev pub leaves_rows : List ℕ → List Row → Bool
leaves_rows used l = all_of (leaves_column used l) (numbers_below stride)
