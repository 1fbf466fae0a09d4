use mathlib.Core.Path.{◌≡◌}
use lib.ListN.{length}
use Rattle.model.specs.Areas.{padded}
use Rattle.model.specs.Row.{max_nodes}
use Rattle.reader.proofs.Answered.{kinds_to}
use Rattle.reader.proofs.kinds_of.Given as goal

abbrev pub invariant-loop-i : goal.invariant-loop-i
invariant-loop-i l = (length l.kinds ≡ max_nodes) × (l.kinds ≡ padded max_nodes (kinds_to l.net.slots l.i))
