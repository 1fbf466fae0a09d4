use mathlib.Core.Path.{◌≡◌, sym, ◌∙◌}
use Rattle.nodes.specs.Nodes.{code_of, operand_of}
use Rattle.model.specs.Algebra.{passes}
use Rattle.places.specs.Places.{Kept}
use Rattle.places.proofs.Places.{kept_start, kept_no, kept_copied}
use Rattle.selections.proofs.Selects.{select_fills}
use native.Mathlib.Omega.{arith}
use Rattle.selections.proofs.select_rows.Goals as goal
use Rattle.selections.proofs.select_rows.Goals.{then-passes_row, else-passes_row}

pub loop-i-init : goal.loop-i-init
loop-i-init c = let a = c.args in kept_start (passes a.column (code_of a.comparison) (operand_of a.operand)) a.input.now a.out.now c.requires.4

pub loop-i-preserved : goal.loop-i-preserved
loop-i-preserved c =
    let a = c.args in
    let l = c.loop-i in
    elim c.if-passes_row.branch [
      | then-passes_row w ↦ rw (w.out-is, w.count-is)
          (kept_copied (passes a.column (code_of a.comparison) (operand_of a.operand)) a.input.now l.i l.out w.copy_run.new.dst l.count
          (sym c.passes_row.ensures ∙ w.if-passes_row.true) (omega arith) (omega arith) l.invariant w.copy_run.ensures)
      | else-passes_row w ↦ rw (w.out-is, w.count-is)
          (kept_no (passes a.column (code_of a.comparison) (operand_of a.operand)) a.input.now l.i l.out l.count
          (sym c.passes_row.ensures ∙ w.if-passes_row.false) l.invariant)
    ]

pub returns : goal.returns
returns c =
    let a = c.args in
    let e : c.loop-i.i ≡ a.n = omega arith in
    let k : Kept (passes a.column (code_of a.comparison) (operand_of a.operand)) a.input.now a.n c.loop-i.out c.loop-i.count = rw (← e) c.loop-i.invariant in
    λ w pl x. select_fills w a.column (code_of a.comparison) a.operand a.input.now a.n c.loop-i.out c.loop-i.count pl x k
