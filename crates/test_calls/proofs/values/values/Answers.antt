use mathlib.Core.List.{◌++◌}
use Prim.Native.Nat.{◌<◌}
use native.Mathlib.Omega.{arith}
use lib.ListN.{length, length-append}
use Rattle.test_calls.proofs.Numbers.{put_one}
use Rattle.test_calls.proofs.values.values.Goals as goal

pub loop-k-preserved : goal.loop-k-preserved
loop-k-preserved c =
    let a = c.args in
    let all = a.bytes.now ++ a.words.now in
    let inside : c.loop-k.k < length all = rw length-append (omega arith) in
    rw c.value_at.ensures (put_one a.numbers.now c.loop-k.numbers all c.loop-k.k inside c.loop-k.invariant)
