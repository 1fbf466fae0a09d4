use mathlib.Core.Path.{◌≡◌}
use mathlib.Core.List.{flat_map}
use lib.Seq.{sets}
use Rattle.model.specs.Record.{bytes32}
use Rattle.model.specs.Areas.{fields}
use Rattle.reports.proofs.put_fields.Given as goal

abbrev pub invariant-loop-k : goal.invariant-loop-k
invariant-loop-k l = l.out ≡ sets l.initial.out l.at (flat_map bytes32 (fields l.k l.words l.from))
