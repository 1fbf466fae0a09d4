use mathlib.Core.Path.{◌≡◌}
use lib.ListN.{take, drop}
use lib.Seq.{sets}
use Rattle.rows.specs.Rows.{words}
use Rattle.differences.specs.Differences.{chosen}
use Rattle.differences.proofs.copy_picked.Given as goal

abbrev pub invariant-loop-k : goal.invariant-loop-k
invariant-loop-k l = l.dst ≡ sets l.initial.dst l.at (words (chosen l.src (take l.k (drop l.from l.picks))))
