use mathlib.Core.Path.{◌≡◌}
use Rattle.laws.proofs.All.{AllTo}
use Rattle.model.specs.Areas.{worked_count}
use Rattle.model.specs.Row.{max_nodes}
use Rattle.areas.proofs.Gaps.{entry_good}
use Rattle.areas.proofs.good_worked.Given as goal

abbrev pub invariant-loop-k : goal.invariant-loop-k
invariant-loop-k l = (l.counted ≡ worked_count l.head) × AllTo (entry_good l.n l.head) max_nodes l.k
