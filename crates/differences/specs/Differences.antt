-- Two places of rows compared: the numbers of the rows that stand in one of them alone.
use Rattle.std.specs.Prelude.{◌≡◌, false, List, map, ℕ, ◌+◌, ◌*◌, ◌≤◌, ◌<◌, length, get_or, take, drop}
use Rattle.model.specs.Row.{Row, max_rows}
use Rattle.model.specs.Areas.{stride}
use Rattle.rows.specs.Rows.{row_at, first_rows}
use Rattle.merges.specs.Merges.{kept_by}
use Rattle.differences.specs.declared.Sizes.{Sizes}

-- how many numbers of rows two places can have that came or went: 128
abbrev pub picks_size : ℕ
picks_size = 2 * max_rows

-- the rows of some words with these numbers
abbrev pub chosen : List ℕ → List ℕ → List Row
chosen s numbers = map (row_at stride s) numbers

-- some words have a row of each of these numbers
abbrev pub Within : List ℕ → List ℕ → Type 0
Within s numbers = (k : ℕ) → k < length numbers → get_or numbers k 0 * stride + stride ≤ length s

-- of the first n rows of some words those that are not among other rows, by their numbers
pub record Told (s : List ℕ) (n : ℕ) (others : List Row) (numbers : List ℕ) : Type 0 where
  pub rows : chosen s numbers ≡ kept_by false (first_rows s n) others
  pub below : (k : ℕ) → k < length numbers → get_or numbers k 0 < n

-- the new rows that came and the old ones that went, by their numbers
pub record Compares (old : List ℕ) (m : ℕ) (new : List ℕ) (n : ℕ) (picks : List ℕ) (sizes : Sizes) : Type 0 where
  pub long : length picks ≡ picks_size
  pub gained-few : sizes.gained ≤ n
  pub lost-few : sizes.lost ≤ m
  pub came : Told new n (first_rows old m) (take sizes.gained picks)
  pub gone : Told old m (first_rows new n) (take sizes.lost (drop max_rows picks))
