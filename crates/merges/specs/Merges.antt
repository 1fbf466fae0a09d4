-- One pass over two ascending lists: what the functions of this crate and of those above it leave.
use Rattle.std.specs.Prelude.{◌≡◌, Bool, List, [], ◌∷◌, ◌++◌, length}
use Rattle.std.specs.Bool.{beq}
use Prim.Native.Nat.{ℕ, ◌+◌, Ordering}
use Rattle.model.specs.Row.{Row, order, member, keep}
use Rattle.rows.specs.Rows.{first_rows}
use Rattle.places.specs.Places.{Stands}

-- how a row compares with the first of a list; with none it is less
abbrev pub order_first : Row → List Row → Ordering
order_first r [] = Ordering.lt
order_first r (s ∷ l) = order r s

-- the rows of l that are in r, or those that are not
abbrev pub kept_by : Bool → List Row → List Row → List Row
kept_by wanted l r = keep (λ x. beq (member x r) wanted) l

-- some rows stand behind those that stood in a place
pub record Appends (more : List Row) (before : List ℕ) (count : ℕ) (after : List ℕ) (total : ℕ) : Type 0 where
  pub sum : total ≡ count + length more
  pub stands : Stands (first_rows after total) after total
  pub is : first_rows after total ≡ first_rows before count ++ more
