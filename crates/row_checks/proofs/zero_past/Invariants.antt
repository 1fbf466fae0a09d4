use Prim.Native.Nat.{◌-◌}
use mathlib.Core.Path.{◌≡◌}
use Rattle.model.specs.Areas.{stride}
use Rattle.rows.specs.Rows.{first_rows}
use Rattle.row_checks.specs.RowChecks.{zero_past}
use Rattle.row_checks.proofs.zero_past.Given as goal

abbrev pub invariant-loop-c : goal.invariant-loop-c
invariant-loop-c l = zero_past l.fn.width (first_rows l.words l.n) ≡ zero_past l.c (first_rows l.words l.n)

abbrev pub decreases-loop-c : goal.decreases-loop-c
decreases-loop-c l = stride - l.c
