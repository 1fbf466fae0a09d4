use Prim.Native.Nat.{◌+◌, ◌*◌}
use native.Mathlib.Omega.{arith}
use Rattle.zeros.proofs.Zeros.{gather_on}
use Rattle.zeros.proofs.eight_pairs.Goals as goal

pub loop-i-preserved : goal.loop-i-preserved
loop-i-preserved c =
    let a = c.args in
    let l = c.loop-i in
    gather_on a.words.now a.bits l.bits c.two_pairs-bits.result a.k (a.k + 4 * l.i) (a.k + 4 * (l.i + 1)) 4 (omega arith) (omega arith) (omega arith) l.invariant c.two_pairs-bits.ensures
