-- Rows in words: what the functions of this crate read and leave. A row of the order stands in words with zeros up to
-- the stride.
use Rattle.std.specs.Prelude.{◌≡◌, List, [], ◌∷◌, ◌++◌, length, get_or, drop, replicate, Result, Ok, Err}
use Rattle.std.specs.declared.cmp.Ordering.{Ordering as Outcome}
use Rattle.std.specs.declared.cmp.Ordering.TheVariants.{Less, Equal, Greater}
use Prim.Native.Nat.{ℕ, zero, suc, ◌+◌, ◌*◌, ◌≤◌, ◌<◌, Ordering}
use Rattle.model.specs.Row.{Row, order}
use Rattle.model.specs.Areas.{stride, fields}

-- row j of some words, where a row takes w words
unfoldable pub row_at : ℕ → List ℕ → ℕ → Row
row_at w s j = fields w s (j * w)

-- n rows of w words each, from row j on
unfoldable pub rows_from : ℕ → List ℕ → ℕ → ℕ → List Row
rows_from w s j zero = []
rows_from w s j (suc n) = row_at w s j ∷ rows_from w s (suc j) n

-- the first n rows of some words
abbrev pub first_rows : List ℕ → ℕ → List Row
first_rows s n = rows_from stride s 0 n

-- the rows' words, one row after the other
abbrev pub words : List Row → List ℕ
words [] = []
words (r ∷ l) = r ++ words l

-- s with the rows' words at its front
unfoldable pub stored : List Row → List ℕ → List ℕ
stored l s = words l ++ drop (length (words l)) s

-- ---- comparing

-- an answer of `compare_rows` as an outcome of the order of rows
abbrev pub order_of : Outcome → Ordering
order_of Less = Ordering.lt
order_of Equal = Ordering.eq
order_of Greater = Ordering.gt

-- the two words from an index on as one number, of which the second is the lower part
pub record Paired (s : List ℕ) (i n : ℕ) : Type 0 where
  pub is : n ≡ get_or s i 0 * 4294967296 + get_or s (i + 1) 0
  pub low : get_or s (i + 1) 0 < 4294967296

-- ---- searching

-- the same place, one row further on
abbrev pub later : Result ℕ ℕ → Result ℕ ℕ
later (Ok p) = Ok (suc p)
later (Err p) = Err (suc p)

-- where a row stands before, at or behind a first row
abbrev pub locate_by : Ordering → Result ℕ ℕ → Result ℕ ℕ
locate_by Ordering.lt f = Err zero
locate_by Ordering.eq f = Ok zero
locate_by Ordering.gt f = later f

-- where a row stands in an ascending list (Ok), or where it belongs (Err)
abbrev pub locate : Row → List Row → Result ℕ ℕ
locate r [] = Err zero
locate r (s ∷ l) = locate_by (order r s) (locate r l)

-- ---- rows in words that were 0

-- at most so many rows stand in so many words that were 0, with their count
pub record Standing (most size : ℕ) (l : List Row) (out : List ℕ) (n : ℕ) : Type 0 where
  pub count : n ≡ length l
  pub few : n ≤ most
  pub is : out ≡ stored l (replicate size 0)
