use mathlib.Core.Bool.{false}
use mathlib.Core.Path.{◌≡◌}
use Rattle.model.specs.Row.{some_of}
use Rattle.model.specs.Algebra.{agree}
use Rattle.model.specs.Areas.{stride}
use Rattle.nodes.specs.Nodes.{pairs_of}
use Rattle.rows.specs.Rows.{row_at, first_rows}
use Rattle.places.specs.Places.{Kept}
use Rattle.unmatched.proofs.Unmatched.{unmet}
use Rattle.unmatched.proofs.unmatched_rows.Given as goal

abbrev pub invariant-loop-j : goal.invariant-loop-j
invariant-loop-j l = some_of (agree (pairs_of l.p l.pairs) (row_at stride l.left l.i)) (first_rows l.right l.j) ≡ false

abbrev pub invariant-rows : goal.invariant-rows
invariant-rows l = Kept (unmet (pairs_of l.p l.pairs) (first_rows l.right l.m)) l.left l.i l.out l.count
