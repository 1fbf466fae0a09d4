use Prim.Native.Nat.{◌-◌}
use lib.ListN.{length}
use Rattle.network.proofs.ReadAll.{Reached}
use Rattle.network.proofs.read_network.Given as goal

abbrev pub invariant-loop-at : goal.invariant-loop-at
invariant-loop-at l = Reached l.bytes l.net l.at

abbrev pub decreases-loop-at : goal.decreases-loop-at
decreases-loop-at l = length l.bytes - l.at
