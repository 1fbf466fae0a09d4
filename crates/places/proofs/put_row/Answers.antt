use mathlib.Core.Path.{ap, ◌∙◌}
use lib.ListN.{length}
use Rattle.laws.proofs.Sets.{ascending-holds}
use Rattle.model.specs.Areas.{stride}
use Rattle.rows.specs.Rows.{first_rows}
use Rattle.rows.proofs.Words.{length-row, wide_rows}
use Rattle.insertions.proofs.Stand.{put-new, put_present, put_full}
use Rattle.places.proofs.put_row.Goals as goal

pub returns-in_err-is_new : goal.returns-in_err-is_new
returns-in_err-is_new c =
    let full = put_full _ _ _ _ _ _ _ c.requires.0 c.in_err-is_new.ensures in
    rw c.from_residual.ensures (full.0, ap length full.1 ∙ c.requires.3)

pub returns-then-is_new : goal.returns-then-is_new
returns-then-is_new c = let a = c.args in put-new _ _ _ _ _ _ _ c.requires.0 (length-row stride a.src.now a.i) (wide_rows stride a.out.now 0 a.n)
    (rw c.if-is_new.true at c.in_ok-is_new.ensures)

pub returns-else-is_new : goal.returns-else-is_new
returns-else-is_new c = let a = c.args in put_present _ _ _ _ _ _ _ c.requires.0
    (ascending-holds (first_rows a.out.now a.n) c.requires.2)
    (rw c.if-is_new.false at c.in_ok-is_new.ensures)
