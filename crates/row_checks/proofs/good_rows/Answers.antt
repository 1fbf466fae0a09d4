use mathlib.Core.Path.{sym, ◌∙◌}
use native.Mathlib.Omega.{arith}
use Rattle.model.specs.Areas.{stride}
use Rattle.rows.specs.Rows.{first_rows}
use Rattle.row_checks.proofs.Form.{good_clean, good_unclean}
use Rattle.rows.proofs.Words.{wide_rows}
use Rattle.row_checks.proofs.good_rows.Goals as goal

pub returns-then-not-zero_past : goal.returns-then-not-zero_past
returns-then-not-zero_past c =
    let a = c.args in
    sym (good_unclean stride a.width (omega arith) (first_rows a.words.now a.n) (sym (c.if-not-zero_past.true) ∙ c.zero_past.ensures))

pub returns : goal.returns
returns c =
    let a = c.args in
    c.ascend.ensures
    ∙ good_clean stride a.width (omega arith) (first_rows a.words.now a.n) (wide_rows stride a.words.now 0 a.n)
    (sym (c.if-not-zero_past.false) ∙ c.zero_past.ensures)
