use mathlib.Core.Path.{◌≡◌}
use lib.ListN.{length}
use Rattle.columns.proofs.Rows.{filled}
use Rattle.columns.specs.Columns.{joined_field}
use Rattle.rows.specs.Rows.{row_at}
use Rattle.model.specs.Areas.{stride}
use Rattle.columns.proofs.columns_row.Given as goal

abbrev pub invariant-loop-k : goal.invariant-loop-k
invariant-loop-k l = (l.row ≡ filled (joined_field l.split (row_at stride l.left l.i) (row_at stride l.right l.j)) l.columns l.k) × (length l.row ≡ stride)
