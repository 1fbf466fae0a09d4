use lib.ListN.{length}
use Prim.Native.Nat.{◌-◌}
use Rattle.pieces.proofs.Cut.{Seeking}
use Rattle.pieces.proofs.next_piece.Given as goal

abbrev pub invariant-loop-at : goal.invariant-loop-at
invariant-loop-at l = Seeking l.file l.start l.at

abbrev pub decreases-loop-at : goal.decreases-loop-at
decreases-loop-at l = length l.file - l.at
