use Prim.Native.Nat.{◌-◌}
use Rattle.model.specs.Areas.{stride}
use Rattle.row_checks.proofs.Form.{AscendTo}
use Rattle.row_checks.proofs.ascend.Given as goal

abbrev pub invariant-loop-j : goal.invariant-loop-j
invariant-loop-j l = AscendTo stride l.words l.n (l.j - 1)
