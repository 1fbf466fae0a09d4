use Prim.Native.Nat.{◌-◌}
use lib.ListN.{length}
use Rattle.tables.proofs.Folds.{Folded}
use Rattle.rows.specs.Rows.{first_rows}
use Rattle.tables.proofs.fold.Given as goal

abbrev pub invariant-loop-at : goal.invariant-loop-at
invariant-loop-at l = Folded l.bytes l.table l.width (first_rows l.initial.words l.n) l.words l.count l.at

abbrev pub decreases-loop-at : goal.decreases-loop-at
decreases-loop-at l = length l.bytes - l.at
