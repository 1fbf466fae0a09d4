use mathlib.Core.Path.{refl}
use Prim.Native.Nat.{◌+◌}
use native.Mathlib.Omega.{arith}
use Rattle.zeros.specs.Zeros.{no_bits, turn}
use Rattle.zeros.proofs.Zeros.{left_more, left_last}
use Rattle.zeros.proofs.all_zero.Goals as goal

pub loop-k-init : goal.loop-k-init
loop-k-init c = (omega arith, omega arith, refl)

pub loop-k-preserved : goal.loop-k-preserved
loop-k-preserved c =
    let a = c.args in
    let l = c.loop-k in (
      omega arith,
      omega arith,
      left_more a.words.now a.from a.to (no_bits l.bits) (no_bits c.gather_turn-bits.result) l.k (l.k + turn) (omega arith) (omega arith) (omega arith) c.gather_turn-bits.ensures
          l.invariant.2,
    )

pub returns : goal.returns
returns c =
    let a = c.args in
    let l = c.loop-k in
    left_last a.words.now a.from a.to l.bits.even l.bits.odd c.gather_pairs.result l.k c.gather_pairs.ensures l.invariant.2
