use lib.ListN.{length}
use Prim.Native.Nat.{◌-◌}
use Rattle.replay.proofs.Replaying.{Replaying}
use Rattle.areas.specs.Lent.{lent}
use Rattle.replay.proofs.replay_batches.Given as goal

abbrev pub invariant-loop-start : goal.invariant-loop-start
invariant-loop-start l = Replaying l.net l.file (lent l.initial.rows l.initial.gained l.initial.lost l.initial.head) (lent l.rows l.gained l.lost l.head) l.start

abbrev pub decreases-loop-start : goal.decreases-loop-start
decreases-loop-start l = length l.file - l.start
