-- A row put in and a row taken out: what the functions of this crate answer and leave.
use Rattle.std.specs.Prelude.{◌≡◌, Bool, true, false, cond, List, [], ◌∷◌, ◌++◌, ℕ, leb, length, replicate}
use Rattle.std.specs.Prelude.{Option, None, Some}
use Rattle.model.specs.Row.{Row, member, insert_row, delete_row}
use Rattle.model.specs.Areas.{stride}
use Rattle.rows.specs.Rows.{stored}

-- what inserting says: whether the row is new, or none where it is missing and there are as many rows as there may be
unfoldable pub insert_answer : ℕ → Row → List Row → Option Bool
insert_answer capacity r l = cond (member r l) (Some false) (cond (leb capacity (length l)) None (Some true))

-- the words after it
abbrev pub insert_words : Option Bool → Row → List Row → List ℕ → List ℕ
insert_words (Some true) r l s = stored (insert_row r l) s
insert_words (Some false) r l s = s
insert_words None r l s = s

-- the words after removing: the rows that are left, and zeros in the place that became unused
abbrev pub remove_words : Bool → Row → List Row → List ℕ → List ℕ
remove_words true r l s = stored (delete_row r l ++ (replicate stride 0 ∷ [])) s
remove_words false r l s = s

-- inserting, with its answer and the words it leaves
pub record Inserts (capacity : ℕ) (r : Row) (l : List Row) (before after : List ℕ) (answer : Option Bool) : Type 0 where
  pub says : answer ≡ insert_answer capacity r l
  pub leaves : after ≡ insert_words answer r l before

-- removing, with its answer and the words it leaves
pub record Removes (r : Row) (l : List Row) (before after : List ℕ) (answer : Bool) : Type 0 where
  pub says : answer ≡ member r l
  pub leaves : after ≡ remove_words answer r l before
