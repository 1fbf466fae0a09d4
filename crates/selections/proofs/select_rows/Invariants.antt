use Rattle.nodes.specs.Nodes.{code_of, operand_of}
use Rattle.model.specs.Algebra.{passes}
use Rattle.places.specs.Places.{Kept}
use Rattle.selections.proofs.select_rows.Given as goal

abbrev pub invariant-loop-i : goal.invariant-loop-i
invariant-loop-i l = Kept (passes l.column (code_of l.comparison) (operand_of l.operand)) l.input l.i l.out l.count
