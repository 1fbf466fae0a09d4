use mathlib.Core.Path.{◌≡◌}
use Rattle.masks.specs.Masks.{keeping, pair_columns}
use Rattle.masks.proofs.keep_pairs.Given as goal

abbrev pub invariant-loop-j : goal.invariant-loop-j
invariant-loop-j l = (l.used ≡ keeping (pair_columns l.pairs l.j l.side) l.initial.used)
