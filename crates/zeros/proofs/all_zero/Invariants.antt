use Prim.Native.Nat.{◌≤◌, ◌-◌}
use Rattle.zeros.specs.Zeros.{no_bits}
use Rattle.zeros.proofs.Zeros.{LeftZero}
use Rattle.zeros.proofs.all_zero.Given as goal

abbrev pub invariant-loop-k : goal.invariant-loop-k
invariant-loop-k l = (l.from ≤ l.k) × (l.k ≤ l.to) × LeftZero l.words l.from l.to (no_bits l.bits) l.k

abbrev pub decreases-loop-k : goal.decreases-loop-k
decreases-loop-k l = l.to - l.k
