use Rattle.derived_records.proofs.Lists.{BelowTo}
use Rattle.derived_records.proofs.columns_below.Given as goal

abbrev pub invariant-loop-i : goal.invariant-loop-i
invariant-loop-i l = BelowTo l.width l.bytes l.at l.k l.n l.i
