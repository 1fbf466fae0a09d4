use Prim.Native.Nat.{◌≤◌, ◌-◌}
use Rattle.rows.specs.Rows.{row_at}
use Rattle.model.specs.Areas.{stride}
use Rattle.rows.proofs.Search.{Narrowed}
use Rattle.rows.proofs.find.Given as goal

abbrev pub invariant-loop-low : goal.invariant-loop-low
invariant-loop-low l = (l.low ≤ l.high) × (l.high ≤ l.n) × Narrowed stride (row_at stride l.src l.at) l.words l.n l.low l.high

abbrev pub decreases-loop-low : goal.decreases-loop-low
decreases-loop-low l = l.high - l.low
