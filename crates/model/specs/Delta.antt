-- Net changes and delta-union: document 01, "Records" (last sentence) and "The plain station"; document 000's
-- delta-sets.
use Rattle.std.specs.Prelude.{Bool, ◌&&◌, not, ℕ, get_or}
use mathlib.Core.List.{List, [], zip_with}
use Rattle.model.specs.Row.{Relation, is_empty}
use Rattle.model.specs.Algebra.{union_rows, difference_rows}

-- a net change of one relation, document 000's delta-set: rows gained and rows lost
pub record Change : Type 0 where
  pub gained : Relation
  pub lost : Relation

-- nothing gained and nothing lost
abbrev pub no_change : Change
no_change = record { gained = []; lost = [] }

-- "gained rows are then those in its fresh evaluation on the copy and not on the old tables, its lost rows the reverse"
unfoldable pub net_change : Relation → Relation → Change
unfolding difference_rows
net_change old new = record { gained = difference_rows new old; lost = difference_rows old new }

-- the same for every node
unfoldable pub net_changes : List Relation → List Relation → List Change
unfolding net_change zip_with
net_changes old new = zip_with net_change old new

-- "a nonempty change"
abbrev pub is_changed : Change → Bool
is_changed c = not (is_empty c.gained && is_empty c.lost)

-- the change of node i, none past the last
abbrev pub change_at : List Change → ℕ → Change
change_at changes i = get_or changes i no_change

-- "Two successive net changes fold by document 000's delta-union"
unfoldable pub delta_union : Change → Change → Change
unfolding union_rows difference_rows
delta_union first second =
    record {
      gained = union_rows (difference_rows first.gained second.lost)
          (difference_rows second.gained first.lost);
      lost = union_rows (difference_rows first.lost second.gained) (difference_rows second.lost first.gained);
    }
