use Prim.Native.Nat.{◌≤◌, ◌-◌, ◌+◌}
use Rattle.merges.proofs.Merged.{Merged}
use Rattle.unions.proofs.Unions.{union}
use Rattle.unions.proofs.union_rows.Given as goal

abbrev pub invariant-loop-i : goal.invariant-loop-i
invariant-loop-i l = (l.i ≤ l.n) × (l.j ≤ l.m) × Merged union l.left l.n l.right l.m l.i l.j l.out l.count

abbrev pub decreases-loop-i : goal.decreases-loop-i
decreases-loop-i l = l.n - l.i + (l.m - l.j)
