use Prim.Native.Nat.{◌+◌}
use mathlib.Core.Path.{◌≡◌, sym}
use mathlib.Core.Bool.{◌&&◌}
use native.Mathlib.Omega.{arith}
use Rattle.model.specs.Areas.{stride}
use Rattle.rows.specs.Rows.{first_rows}
use Rattle.rows.proofs.Words.{wide_rows}
use Rattle.row_checks.specs.RowChecks.{zero_past}
use Rattle.row_checks.proofs.Form.{past_two, past_more, past_not, past_last, past_all}
use Rattle.row_checks.proofs.zero_past.Goals as goal
use Rattle.row_checks.proofs.zero_past.Goals.{then-c-lt-STRIDE, else-c-lt-STRIDE}

pub returns-then-not-is_zero : goal.returns-then-not-is_zero
returns-then-not-is_zero c =
    let a = c.args in
    let l = first_rows a.words.now a.n in
    let k = c.loop-c.c in
    let wide = wide_rows stride a.words.now 0 a.n in
    let turn : zero_past k l ≡ (c.if-c-lt-STRIDE.is_zero && zero_past (k + 2) l) = elim c.if-c-lt-STRIDE.branch [
      | then-c-lt-STRIDE w ↦ rw (w.is_zero-is, w.zero_pair-is_zero.ensures) (past_two stride k l wide (omega arith))
      | else-c-lt-STRIDE w ↦ rw (w.is_zero-is, w.zero_field-is_zero.ensures) (past_last stride k l wide (omega arith))
    ] in
    sym (past_not a.width k (k + 2) c.if-c-lt-STRIDE.is_zero l turn c.loop-c.invariant c.if-not-is_zero.true)

pub loop-c-preserved : goal.loop-c-preserved
loop-c-preserved c =
    let a = c.args in
    let l = first_rows a.words.now a.n in
    let k = c.loop-c.c in
    let wide = wide_rows stride a.words.now 0 a.n in
    let turn : zero_past k l ≡ (c.if-c-lt-STRIDE.is_zero && zero_past (k + 2) l) = elim c.if-c-lt-STRIDE.branch [
      | then-c-lt-STRIDE w ↦ rw (w.is_zero-is, w.zero_pair-is_zero.ensures) (past_two stride k l wide (omega arith))
      | else-c-lt-STRIDE w ↦ rw (w.is_zero-is, w.zero_field-is_zero.ensures) (past_last stride k l wide (omega arith))
    ] in
    past_more a.width k (k + 2) c.if-c-lt-STRIDE.is_zero l turn c.loop-c.invariant c.if-not-is_zero.false

pub returns : goal.returns
returns c =
    let a = c.args in
    past_all stride a.width c.loop-c.c (first_rows a.words.now a.n) (wide_rows stride a.words.now 0 a.n) (omega arith) c.loop-c.invariant
