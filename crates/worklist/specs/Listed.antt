-- The derived nodes with an input that changed, and the list of the due ones by level, then number.
use Rattle.std.specs.Prelude.{Bool, false, ◌&&◌, ◌||◌, cond, ℕ, zero, suc, ◌+◌, ◌-◌, eqb, ltb, get_or, take, drop}
use mathlib.Core.List.{List, ◌∷◌, ◌++◌, flat_map}
use Rattle.std.proofs.Math.Seq.{slice}
use Rattle.model.specs.Row.{keep, count_from, numbers_below}
use Rattle.network.specs.declared.Slot.{Slot}
use Rattle.network.specs.Reading.{slot_node}
use Rattle.model.specs.Network.{left_of, right_of}

-- a derived node has an input that changed
abbrev pub input_changed : Slot → List Bool → Bool
input_changed slot changed = get_or changed (left_of (slot_node slot)) false || get_or changed (right_of (slot_node slot)) false

-- a due node of a level
abbrev pub is_of_level : List ℕ → List Bool → ℕ → ℕ → Bool
is_of_level levels due level i = eqb (get_or levels i 0) level && get_or due i false

-- the due nodes of one level, ascending
abbrev pub level_list : List ℕ → List Bool → ℕ → ℕ → List ℕ
level_list levels due n level = keep (is_of_level levels due level) (numbers_below n)

-- the due nodes of the levels above 0, by level, then number
abbrev pub due_list : List ℕ → List Bool → ℕ → List ℕ
due_list levels due n = flat_map (level_list levels due n) (count_from 1 (n - 1))

-- there is an entry before an index, and it is above a level
abbrev pub is_above : List ℕ → ℕ → List ℕ → ℕ → Bool
is_above levels level entries zero = false
is_above levels level entries (suc at) = ltb level (get_or levels (get_or entries at 0) 0)

-- where a node of a level belongs among k entries: behind the last of them that is not above the level
abbrev pub place_for : List ℕ → ℕ → List ℕ → ℕ → ℕ
place_for levels level entries zero = zero
place_for levels level entries (suc k) = cond (is_above levels level entries (suc k)) (place_for levels level entries k)
    (suc k)

-- a node put in at an index of k entries: those from there on move one place up
abbrev pub put_at : ℕ → ℕ → ℕ → List ℕ → List ℕ
put_at at k i entries = take at entries ++ (i ∷ (slice at k entries ++ drop (k + 1) entries))
