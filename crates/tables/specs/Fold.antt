-- Events on the rows of one table, in words.
use Rattle.std.specs.Prelude.{◌≡◌, true, false, cond, List, [], ◌∷◌, ℕ, ◌+◌, ◌*◌, ◌≤◌, eqb, length}
use Rattle.model.specs.Row.{Row, Relation, ascending, insert_row, delete_row, max_width}
use Rattle.model.specs.Record.{Bytes, kind_at, field_at, is_broken, offsets}
use Rattle.model.specs.Batch.{row_in, folded_rows, max_events}
use Rattle.model.specs.Areas.{padded, folded_size, stride}
use Rattle.rows.specs.Rows.{first_rows, Standing}

-- at most 128 rows of words, as many as a table can have while a batch is folded
abbrev pub StandsFolded : List Row → List ℕ → ℕ → Type 0
StandsFolded rows words n = Standing folded_rows folded_size rows words n

-- rows of words, ascending
pub record Table (words : List ℕ) (n : ℕ) : Type 0 where
  pub stands : StandsFolded (first_rows words n) words n
  pub asc : ascending (first_rows words n) ≡ true

-- the event at an offset on some rows, its own row of a width, in the form of those rows
abbrev pub act_in : (Row → Row) → Bytes → ℕ → ℕ → List Row → List Row
act_in form bs at w rows = cond (eqb (kind_at bs at) 32) (insert_row (form (row_in bs (at + 6) w)) rows)
    (delete_row (form (row_in bs (at + 6) w)) rows)

-- the events at some offsets, those on one table, in order
abbrev pub fold_in : (Row → Row) → Bytes → ℕ → ℕ → List ℕ → List Row → List Row
fold_in form bs t w [] rows = rows
fold_in form bs t w (at ∷ ats) rows = fold_in form bs t w ats
    (cond (eqb (field_at bs at 0) t) (act_in form bs at w rows) rows)

-- on rows in words, each with zeros up to the stride
abbrev pub act_on : Bytes → ℕ → ℕ → List Row → List Row
act_on bs at w rows = act_in (padded stride) bs at w rows

-- a table's events on such rows
abbrev pub fold_at : Bytes → ℕ → ℕ → List ℕ → List Row → List Row
fold_at bs t w ats rows = fold_in (padded stride) bs t w ats rows

-- on a relation
abbrev pub fold_rows : Bytes → ℕ → ℕ → List ℕ → Relation → Relation
fold_rows bs t w ats rel = fold_in (λ r. r) bs t w ats rel

-- records that can be folded: whole, and with a row of the width where they are on the table
abbrev pub Events : Bytes → ℕ → ℕ → List ℕ → Type 0
Events bs t w [] = Unit {0}
Events bs t w (at ∷ ats) = (is_broken bs at ≡ false) × (at + 6 ≤ length bs)
    × (field_at bs at 0 ≡ t → at + 6 + 4 * w ≤ length bs) × Events bs t w ats

-- a batch that can be folded
pub record Foldable (bs : Bytes) (t w : ℕ) : Type 0 where
  pub narrow : w ≤ max_width
  pub few : length (offsets bs) ≤ max_events
  pub events : Events bs t w (offsets bs)
