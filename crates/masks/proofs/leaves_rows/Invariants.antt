use Rattle.model.specs.Areas.{stride}
use Rattle.rows.specs.Rows.{first_rows}
use Rattle.laws.proofs.All.{AllTo}
use Rattle.masks.specs.Masks.{leaves_column}
use Rattle.masks.proofs.leaves_rows.Given as goal

abbrev pub invariant-loop-k : goal.invariant-loop-k
invariant-loop-k l = AllTo (leaves_column l.used (first_rows l.rows l.n)) stride l.k
