use mathlib.Core.Path.{◌≡◌}
use lib.ListN.{length}
use Rattle.model.specs.Row.{max_nodes}
use Rattle.model.specs.Areas.{padded}
use Rattle.worklist.specs.Listed.{due_list}
use Rattle.worklist.proofs.list_worked.Given as goal

abbrev pub invariant-loop-i : goal.invariant-loop-i
invariant-loop-i l = (l.entries ≡ padded max_nodes (due_list l.levels l.due l.i)) × (l.k ≡ length (due_list l.levels l.due l.i))
