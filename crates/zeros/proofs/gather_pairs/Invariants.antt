use Prim.Native.Nat.{◌+◌, ◌*◌}
use lib.Dec.{eqb}
use Rattle.zeros.proofs.Zeros.{LeftZero}
use Rattle.zeros.proofs.gather_pairs.Given as goal

abbrev pub invariant-loop-i : goal.invariant-loop-i
invariant-loop-i l = LeftZero l.words l.from l.to (eqb l.bits 0) (l.from + 2 * l.i)
