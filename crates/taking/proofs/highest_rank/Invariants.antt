use mathlib.Core.Path.{◌≡◌}
use Rattle.taking.specs.Taking.{highest_in}
use Rattle.taking.proofs.highest_rank.Given as goal

abbrev pub invariant-loop-i : goal.invariant-loop-i
invariant-loop-i l = l.highest ≡ highest_in l.priorities l.pending l.i
