use lib.ListN.{take}
use Rattle.model.specs.Areas.{stride}
use Rattle.rows.specs.Rows.{first_rows}
use Rattle.masked_rows.specs.MaskedRows.{MaskedSet}
use Rattle.masked_rows.proofs.mask_unordered.Given as goal

abbrev pub invariant-loop-i : goal.invariant-loop-i
invariant-loop-i l = MaskedSet (take stride l.columns) (first_rows l.input l.i) l.out l.count
