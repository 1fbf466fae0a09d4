use mathlib.Core.Path.{◌≡◌}
use lib.ListN.{take}
use Rattle.masks.specs.Masks.{columns_from, keeping}
use Rattle.masks.proofs.keep_columns.Given as goal

abbrev pub invariant-loop-j : goal.invariant-loop-j
invariant-loop-j l = (l.used ≡ keeping (columns_from l.first l.end (take l.j l.columns)) l.initial.used)
