use Prim.Native.Nat.{◌≤◌, ◌-◌, ◌+◌}
use Rattle.merges.specs.Merges.{kept_by}
use Rattle.merges.proofs.Merged.{Merged}
use Rattle.sets.proofs.keep_rows.Given as goal

abbrev pub invariant-loop-i : goal.invariant-loop-i
invariant-loop-i l = (l.i ≤ l.n) × (l.j ≤ l.m) × (l.count ≤ l.i) × Merged (kept_by l.wanted) l.left l.n l.right l.m l.i l.j l.out l.count

abbrev pub decreases-loop-i : goal.decreases-loop-i
decreases-loop-i l = l.n - l.i + (l.m - l.j)
