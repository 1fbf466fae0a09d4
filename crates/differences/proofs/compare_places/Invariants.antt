use Prim.Native.Nat.{◌-◌, ◌+◌}
use Rattle.differences.proofs.Picked.{Comparing}
use Rattle.differences.proofs.compare_places.Given as goal

abbrev pub invariant-loop-j : goal.invariant-loop-j
invariant-loop-j l = Comparing l.old l.m l.new l.n l.i l.j l.picks l.gained l.lost

abbrev pub decreases-loop-j : goal.decreases-loop-j
decreases-loop-j l = l.n - l.j + (l.m - l.i)
