use Prim.Native.Nat.{◌-◌}
use lib.ListN.{length}
use Rattle.named_tables.proofs.Marks.{Marking}
use Rattle.named_tables.proofs.named_nodes.Given as goal

abbrev pub invariant-loop-at : goal.invariant-loop-at
invariant-loop-at l = Marking l.bytes l.named l.at

abbrev pub decreases-loop-at : goal.decreases-loop-at
decreases-loop-at l = length l.bytes - l.at
