use mathlib.Core.Path.{◌≡◌}
use Rattle.laws.proofs.All.{AllTo}
use Rattle.model.specs.Areas.{batch_number}
use Rattle.model.specs.Row.{max_nodes}
use Rattle.areas.proofs.Gaps.{stamp_good}
use Rattle.areas.proofs.good_stamps.Given as goal

abbrev pub invariant-loop-node : goal.invariant-loop-node
invariant-loop-node l = (l.number ≡ batch_number l.head) × AllTo (stamp_good l.n l.head) max_nodes l.node
