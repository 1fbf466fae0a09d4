use mathlib.Core.Path.{◌∙◌, sym, ap}
use native.Mathlib.Omega.{arith}
use Rattle.model.specs.Areas.{stride}
use Rattle.rows.specs.Rows.{row_at}
use Rattle.rows.proofs.Words.{rows_cons, rows_none}
use Rattle.merges.specs.Merges.{order_first}
use Rattle.merges.proofs.compare_first.Goals as goal

pub returns-then-j-m : goal.returns-then-j-m
returns-then-j-m c = let a = c.args in c.compare_rows.ensures
    ∙ sym (ap (order_first (row_at stride a.left.now a.i)) (rows_cons stride a.right.now a.m a.j (omega arith)))

pub returns-else-j-m : goal.returns-else-j-m
returns-else-j-m c = let a = c.args in sym (ap (order_first (row_at stride a.left.now a.i)) (rows_none stride a.right.now a.m a.j (omega arith)))
