use Rattle.derived_records.proofs.Lists.{PairsTo}
use Rattle.derived_records.proofs.pairs_below.Given as goal

abbrev pub invariant-loop-i : goal.invariant-loop-i
invariant-loop-i l = PairsTo l.left l.right l.bytes l.at 3 l.n l.i
