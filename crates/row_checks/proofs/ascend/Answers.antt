use mathlib.Core.Path.{◌≡◌}
use Prim.Native.Nat.{◌+◌, ◌-◌}
use mathlib.Core.Path.{sym, ◌∙◌}
use native.Mathlib.Omega.{arith}
use Rattle.model.specs.Areas.{stride}
use Rattle.row_checks.proofs.Form.{ascend_none, ascend_more, ascend_not, ascend_all}
use Rattle.row_checks.proofs.ascend.Goals as goal

pub loop-j-init : goal.loop-j-init
loop-j-init c = ascend_none _ _ _

pub returns-then-not-below_next : goal.returns-then-not-below_next
returns-then-not-below_next c =
    sym (ascend_not _ _ _ (c.loop-j.j - 1) (omega arith) c.loop-j.invariant (sym (c.if-not-below_next.true) ∙ c.below_next.ensures))

pub loop-j-preserved : goal.loop-j-preserved
loop-j-preserved c =
    let a = c.args in
    let next : c.loop-j.j - 1 + 1 ≡ c.loop-j.j + 1 - 1 = omega arith in
    rw next at (ascend_more stride a.words.now a.n (c.loop-j.j - 1) (omega arith) c.loop-j.invariant (sym (c.if-not-below_next.false) ∙ c.below_next.ensures))

pub returns : goal.returns
returns c = sym (ascend_all _ _ _ (c.loop-j.j - 1) (omega arith) c.loop-j.invariant)
