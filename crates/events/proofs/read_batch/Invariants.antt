use Prim.Native.Nat.{◌-◌, ◌≤◌}
use lib.ListN.{length}
use Rattle.events.proofs.Events.{Left}
use Rattle.network.specs.Reading.{nodes_of}
use Rattle.events.specs.Reading.{NumbersOf}
use Rattle.model.specs.Batch.{max_events}
use Rattle.events.proofs.read_batch.Given as goal

abbrev pub invariant-loop-at : goal.invariant-loop-at
invariant-loop-at l = (l.before ≤ max_events) × ((o : NumbersOf l.count l.widths l.levels) → Left (nodes_of o.net) l.bytes l.before l.at)

abbrev pub decreases-loop-at : goal.decreases-loop-at
decreases-loop-at l = length l.bytes - l.at
