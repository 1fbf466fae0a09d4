use mathlib.Core.Path.{◌≡◌}
use lib.ListN.{take}
use Rattle.masked_rows.specs.MaskedRows.{slot_from}
use Rattle.masked_rows.proofs.slot_of_row.Given as goal

abbrev pub invariant-loop-k : goal.invariant-loop-k
invariant-loop-k l = (l.slot ≡ slot_from 0 (take l.k l.row))
