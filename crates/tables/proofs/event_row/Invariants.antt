use mathlib.Core.Path.{◌≡◌}
use Prim.Native.Nat.{◌+◌}
use Rattle.model.specs.Areas.{padded, stride}
use Rattle.model.specs.Batch.{row_in}
use Rattle.tables.proofs.event_row.Given as goal

abbrev pub invariant-loop-k : goal.invariant-loop-k
invariant-loop-k l = l.row ≡ padded stride (row_in l.bytes (l.at + 6) l.k)
