-- Select on places: columns inside rows.
use Rattle.std.specs.Prelude.{ℕ, ◌<◌}
use Rattle.nodes.specs.declared.Operand.{Operand}
use Rattle.nodes.specs.declared.Operand.TheVariants.{Constant, Column}

-- an operand's column is inside rows of a width
abbrev pub OperandIn : ℕ → Operand → Type 0
OperandIn w (Constant v) = Unit {0}
OperandIn w (Column c) = c < w

-- a select's columns are inside rows of a width
pub record Selects (w column : ℕ) (operand : Operand) : Type 0 where
  pub first : column < w
  pub second : OperandIn w operand
