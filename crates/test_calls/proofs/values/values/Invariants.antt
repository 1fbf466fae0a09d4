use mathlib.Core.Path.{◌≡◌}
use mathlib.Core.List.{◌++◌}
use lib.ListN.{take}
use lib.Seq.{sets}
use Rattle.test_calls.proofs.values.values.Given as goal

abbrev pub invariant-loop-k : goal.invariant-loop-k
invariant-loop-k l = l.numbers ≡ sets l.initial.numbers 0 (take l.k (l.bytes ++ l.words))
