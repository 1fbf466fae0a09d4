use mathlib.Core.Path.{sym, ap, ap₂, ◌∙◌}
use Prim.Native.Nat.{ℕ}
use Rattle.model.specs.Algebra.{holds_of, compare_fields}
use Rattle.nodes.specs.Nodes.{code_of}
use Rattle.places.proofs.Places.{row_cell}
use Rattle.selections.proofs.passes_row.Goals as goal

pub returns : goal.returns
returns c =
    let a = c.args in
    let left = row_cell a.input.now a.i a.column c.requires.1 in
    c.holds.ensures
    ∙ ap (holds_of (code_of a.comparison)) (c.compare_values.ensures ∙ ap₂ (λ (x y : ℕ). compare_fields x y) (sym left) c.operand_in-right.ensures)
