use mathlib.Core.Path.{refl, ◌∙◌}
use Prim.Native.Nat.{◌+◌, ◌*◌}
use native.Mathlib.Omega.{arith}
use lib.ListN.{length-set, get_or, replicate}
use Rattle.columns.proofs.Rows.{both_field, column-below, row-filled}
use Rattle.columns.specs.Columns.{joined_field}
use Rattle.rows.specs.Rows.{row_at}
use Rattle.model.specs.Areas.{stride}
use Rattle.columns.proofs.columns_row.Goals as goal

pub loop-k-preserved : goal.loop-k-preserved
loop-k-preserved c =
    let a = c.args in
    let b = column-below (a.split + stride) a.columns.now a.n c.loop-k.k c.requires.5 (omega arith) (omega arith) in
    let l = c.loop-k in
    let field = both_field a.left.now a.right.now a.i a.j a.split (get_or a.columns.now l.k 0)
    (replicate (2 * stride) 0) c.copy_run.new.dst
    c.copy_run-2.new.dst c.requires.0 c.requires.1 c.requires.2 b
    refl c.copy_run.ensures c.copy_run-2.ensures in (
      row-filled (joined_field a.split (row_at stride a.left.now a.i) (row_at stride a.right.now a.j)) a.columns.now l.k
          l.row (get_or c.copy_run-2.new.dst (get_or a.columns.now l.k 0) 0) (omega arith) (omega arith) l.invariant.0 field,
      length-set l.row l.k (get_or c.copy_run-2.new.dst (get_or a.columns.now l.k 0) 0) ∙ l.invariant.1,
    )
