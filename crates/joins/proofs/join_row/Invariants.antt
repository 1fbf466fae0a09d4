use Prim.Native.Nat.{◌-◌}
use Rattle.model.specs.Areas.{stride}
use Rattle.rows.specs.Rows.{first_rows, row_at}
use Rattle.joins.proofs.Walk.{Walked}
use Rattle.joins.proofs.join_row.Given as goal

abbrev pub invariant-loop-at : goal.invariant-loop-at
invariant-loop-at l = Walked l.how (row_at stride l.left l.i) l.key l.right l.m l.keys (first_rows l.initial.out l.count) l.at l.out l.rows

abbrev pub decreases-loop-at : goal.decreases-loop-at
decreases-loop-at l = l.m - l.at
