use mathlib.Core.Path.{◌≡◌}
use Prim.Native.Nat.{◌-◌, ◌≤◌}
use lib.ListN.{length}
use Rattle.model.specs.Calls.{longest_report}
use Rattle.test_calls.proofs.main.Given as goal

abbrev pub invariant-loop-at : goal.invariant-loop-at
invariant-loop-at l = (length l.input ≡ 65536) × (l.n ≤ 65536) × (l.from ≤ l.to) × (l.to ≤ l.n) × (length l.text
    ≡ 65536) × (length l.out ≡ longest_report)

abbrev pub decreases-loop-at : goal.decreases-loop-at
decreases-loop-at l = l.n - l.at
