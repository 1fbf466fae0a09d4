-- Relational algebra on sets: the column "rows" of document 01's table of kinds, what it says of joins, and document
-- 02's kind 10.
use Rattle.std.specs.Prelude.{Bool, true, false, not, ◌&&◌, eqb, get_or}
use mathlib.Core.List.{List, [], ◌∷◌, ◌++◌, map, flat_map}
use Prim.Native.Nat.{ℕ, compare, Ordering}
use Rattle.model.specs.Row.{Row, Relation, member, set_of, keep, some_of}

-- ---- comparisons

-- "Comparisons": one line for each code, with what it says of less, equal, greater
abbrev pub comparisons : List (List Bool)
comparisons =
    (false ∷ true ∷ false ∷ [])  -- 0 equal
    ∷ (true ∷ false ∷ true ∷ [])  -- 1 unequal
    ∷ (true ∷ false ∷ false ∷ [])  -- 2 less
    ∷ (true ∷ true ∷ false ∷ [])  -- 3 at most
    ∷ (false ∷ false ∷ true ∷ [])  -- 4 greater
    ∷ (false ∷ true ∷ true ∷ [])  -- 5 at least
    ∷ []

-- the column of the table for an outcome
abbrev pub outcome_column : Ordering → ℕ
outcome_column Ordering.lt = 0
outcome_column Ordering.eq = 1
outcome_column Ordering.gt = 2

-- the comparison of that code holds of two fields with that outcome
unfoldable pub holds_of : ℕ → Ordering → Bool
holds_of code outcome = get_or (get_or comparisons code []) (outcome_column outcome) false

-- how a select compares two fields, left and right. The order of rows is another definition.
unfoldable pub compare_fields : ℕ → ℕ → Ordering
compare_fields left right = compare left right

-- ---- select

-- what a select compares its column with: a constant (kind 2) or another column (kind 3)
pub data Operand : Type 0 where
  constant : ℕ → Operand
  column : ℕ → Operand

-- the number that an operand is for a row: the constant, or the row's field
abbrev pub operand_in : Operand → Row → ℕ
operand_in (constant v) r = v
operand_in (column c) r = get_or r c 0

-- a row passes the test of a column, a comparison and an operand: "the first-named column is on the left"
abbrev pub passes : ℕ → ℕ → Operand → Row → Bool
passes c code operand r = holds_of code (compare_fields (get_or r c 0) (operand_in operand r))

-- ---- rows made of rows

-- the fields of the named columns, in that order
abbrev pub columns_of : List ℕ → Row → Row
columns_of columns r = map (λ c. get_or r c 0) columns

-- a pair of columns: the left row's, the right row's
pub record Pair : Type 0 where
  pub left : ℕ
  pub right : ℕ

-- "agree on all p pairs"
abbrev pub agree : List Pair → Row → Row → Bool
agree [] l r = true
agree (p ∷ pairs) l r = eqb (get_or l p.left 0) (get_or r p.right 0) && agree pairs l r

-- ---- the operators

-- kind 2: "input rows that pass"; kind 3: "the same, two columns compared"
unfoldable pub select_rows : ℕ → ℕ → Operand → Relation → Relation
unfolding holds_of compare_fields
select_rows c code operand input = keep (passes c code operand) input

-- kind 4: "named columns, in order, repeats allowed"
unfoldable pub project_rows : List ℕ → Relation → Relation
project_rows columns input = set_of (map (columns_of columns) input)

-- one left row with each right row that agrees: "writes the right row after the left, and gives the named columns of
-- that"
unfoldable pub join_one : List Pair → List ℕ → Relation → Row → List Row
join_one pairs columns right l = map (λ r. columns_of columns (l ++ r)) (keep (agree pairs l) right)

-- kind 5: "each pair of a left and a right row that agree on all p pairs"
unfoldable pub join_rows : List Pair → List ℕ → Relation → Relation → Relation
unfolding join_one flat_map
join_rows pairs columns left right = set_of (flat_map (join_one pairs columns right) left)

-- kind 6: union
unfoldable pub union_rows : Relation → Relation → Relation
union_rows left right = set_of (left ++ right)

-- kind 7: "left without right"
unfoldable pub difference_rows : Relation → Relation → Relation
difference_rows left right = keep (λ r. not (member r right)) left

-- kind 8: intersection
unfoldable pub intersect_rows : Relation → Relation → Relation
intersect_rows left right = keep (λ r. member r right) left

-- kind 10: "the left rows for which no right row agrees on all pairs"
unfoldable pub unmatched_rows : List Pair → Relation → Relation → Relation
unmatched_rows pairs left right = keep (λ l. not (some_of (agree pairs l) right)) left
