-- Masked rows in no order: the slot of a row, and what a place holds of them.
use Rattle.std.specs.Prelude.{◌≡◌, List, [], ◌∷◌, ℕ, ◌+◌, ◌*◌, ◌%◌, ◌≤◌, length}
use Rattle.model.specs.Row.{Row, set_of, max_rows}
use Rattle.model.specs.Areas.{place_size}
use Rattle.rows.specs.Rows.{first_rows}
use Rattle.columns.specs.Columns.{masked_rows}

-- the slot of some fields more behind those with a slot
abbrev pub slot_from : ℕ → Row → ℕ
slot_from slot [] = slot
slot_from slot (x ∷ r) = slot_from ((slot * 9 + x) % max_rows) r

-- the slot of a row
unfoldable pub row_slot : Row → ℕ
row_slot r = slot_from 0 r

-- the first rows of a place are some masked rows, in any order and any number of times
pub record MaskedSet (columns : List ℕ) (rows : List Row) (out : List ℕ) (n : ℕ) : Type 0 where
  pub few : n ≤ length rows
  pub size : length out ≡ place_size
  pub same : set_of (first_rows out n) ≡ masked_rows columns rows
