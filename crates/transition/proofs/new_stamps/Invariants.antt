use mathlib.Core.Path.{◌≡◌}
use Rattle.model.specs.Areas.{padded}
use Rattle.transition.specs.Head.{stamps_from}
use Rattle.model.specs.Row.{max_nodes}
use Rattle.transition.proofs.new_stamps.Given as goal

abbrev pub invariant-loop-i : goal.invariant-loop-i
invariant-loop-i l = l.stamps ≡ padded max_nodes (stamps_from l.head l.changed l.number l.i)
