-- Keys of rows: the fields in some columns as one number.
use Rattle.std.specs.Prelude.{◌≡◌, List, [], ◌∷◌, map, cond, ℕ, ◌+◌, ◌*◌, ◌<◌, eqb, get_or}
use Rattle.model.specs.Row.{Row, numbers_below, max_rows}
use Rattle.model.specs.Algebra.{Pair}
use Rattle.model.specs.Areas.{padded, stride}
use Rattle.rows.specs.Rows.{row_at}

-- a pair's column on a side, left 0 or right 1
abbrev pub side_column : ℕ → Pair → ℕ
side_column side p = cond (eqb side 0) p.left p.right

-- the columns of pairs on a side
abbrev pub side_columns : ℕ → List Pair → List ℕ
side_columns side pairs = map (side_column side) pairs

-- a row's fields in some columns as one number, the first the lowest
abbrev pub key_of : List ℕ → Row → ℕ
key_of [] r = 0
key_of (c ∷ columns) r = get_or r c 0 + 4294967296 * key_of columns r

-- each of these fields is below 2^32
abbrev pub FieldsFit : List ℕ → Row → Type 0
FieldsFit [] r = Unit {0}
FieldsFit (c ∷ columns) r = (get_or r c 0 < 4294967296) × FieldsFit columns r

-- a number is a row's key
pub record Keyed (columns : List ℕ) (r : Row) (key : ℕ) : Type 0 where
  pub is : key ≡ key_of columns r
  pub fit : FieldsFit columns r

-- numbers are the keys of the first n rows, then zeros
pub record KeyedRows (columns : List ℕ) (s : List ℕ) (n : ℕ) (keys : List ℕ) : Type 0 where
  pub are : keys ≡ padded max_rows (map (λ i. key_of columns (row_at stride s i)) (numbers_below n))
  pub fit : (i : ℕ) → i < n → FieldsFit columns (row_at stride s i)
