use mathlib.Core.Path.{sym}
use Rattle.places.proofs.Places.{row_cell}
use Rattle.selections.proofs.operand_in.Goals as goal

pub returns-in-Column : goal.returns-in-Column
returns-in-Column c =
    let a = c.args in
    let b = rw c.in-Column.is at c.requires.1 in
    rw c.in-Column.is (sym (row_cell a.input.now a.i c.in-Column.other b))
