-- Select: the rows that pass, kept from a place. Assumes nothing.
use mathlib.Core.Path.{◌≡◌, refl, ap₂}
use mathlib.Core.List.{List}
use Prim.Native.Nat.{ℕ}
use lib.ListN.{length}
use Rattle.model.specs.Algebra.{holds_of, compare_fields, operand_in, passes, select_rows}
use Rattle.model.specs.Row.{Row}
use Rattle.model.specs.Areas.{padded, stride}
use Rattle.rows.proofs.Padding.{field_padded}
use Rattle.nodes.specs.Nodes.{operand_of}
use Rattle.nodes.specs.declared.Operand.{Operand}
use Rattle.nodes.specs.declared.Operand.TheVariants.{Constant, Column}
use Rattle.places.specs.Places.{relation_in, Place, Fills, Kept}
use Rattle.places.proofs.Places.{kept_fills}
use Rattle.selections.specs.Selections.{OperandIn, Selects}

-- an operand is the same for a row and its words
operand_padded : (w : ℕ) (o : Operand) (r : Row) → length r ≡ w → OperandIn w o → operand_in (operand_of o) (padded stride r) ≡ operand_in (operand_of o) r
operand_padded w (Constant v) r e h = refl
operand_padded w (Column c) r e h = field_padded stride r c (rw e h)

-- kinds 2 and 3
pub select_fills : (w column code : ℕ) (o : Operand) (s : List ℕ) (n : ℕ) (out : List ℕ) (m : ℕ) → Place w s n → Selects w column o → Kept (passes column code (operand_of o)) s n out m →
    Fills (select_rows column code (operand_of o) (relation_in w s n)) out m
unfolding select_rows
select_fills w column code o s n out m pl x k =
    kept_fills w s n (passes column code (operand_of o)) (passes column code (operand_of o)) out m pl
    (λ r e. ap₂ (λ (y z : ℕ). holds_of code (compare_fields y z)) (field_padded stride r column (rw e x.first)) (operand_padded w o r e x.second)) k
