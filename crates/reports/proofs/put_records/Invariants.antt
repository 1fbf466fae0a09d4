use mathlib.Core.Path.{◌≡◌}
use lib.Seq.{sets}
use Rattle.model.specs.Areas.{held_in, layout}
use Rattle.reports.specs.Written.{records_of}
use Rattle.reports.proofs.put_records.Given as goal

abbrev pub invariant-loop-j : goal.invariant-loop-j
invariant-loop-j l = l.out ≡ sets l.initial.out l.at (records_of l.kind l.node (held_in layout l.w l.j l.area l.node))
