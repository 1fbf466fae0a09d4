use Prim.Native.Nat.{◌+◌, ◌*◌}
use native.Mathlib.Omega.{arith}
use Rattle.zeros.proofs.Zeros.{gather_on}
use Rattle.zeros.proofs.gather_turn.Goals as goal

pub loop-i-preserved : goal.loop-i-preserved
loop-i-preserved c =
    let a = c.args in
    let l = c.loop-i in
    gather_on a.words.now a.bits l.bits c.eight_pairs-bits.result a.k (a.k + 16 * l.i) (a.k + 16 * (l.i + 1)) 16 (omega arith) (omega arith) (omega arith) l.invariant c.eight_pairs-bits.ensures
