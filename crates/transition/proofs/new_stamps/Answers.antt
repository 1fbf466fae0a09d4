use native.Mathlib.Omega.{arith}
use Rattle.transition.proofs.Head.{stamps_more}
use Rattle.transition.proofs.new_stamps.Goals as goal

pub loop-i-preserved : goal.loop-i-preserved
loop-i-preserved c = let a = c.args in
    stamps_more a.head.now a.changed.now a.number c.loop-i.i
    c.loop-i.stamps c.stamp_of.result
    (omega arith) c.loop-i.invariant
    c.stamp_of.ensures
