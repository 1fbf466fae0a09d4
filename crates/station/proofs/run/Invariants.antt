use Rattle.station.proofs.Running.{Running}
use Rattle.program.specs.Runs.{left}
use Rattle.stages.specs.Stages.{files}
use Rattle.areas.specs.Lent.{lent}
use Rattle.station.proofs.run.Given as goal

abbrev pub invariant-loop-last : goal.invariant-loop-last
invariant-loop-last l = Running (files l.n l.b l.net l.file) l.stage (lent l.rows l.gained l.lost l.head) l.told

abbrev pub decreases-loop-last : goal.decreases-loop-last
decreases-loop-last l = left (files l.n l.b l.net l.file) l.stage
