use Prim.Native.Nat.{◌≤◌}
use mathlib.Core.Path.{◌≡◌}
use lib.ListN.{length}
use Rattle.insertions.proofs.Gaps.{gap}
use Rattle.worklist.specs.Listed.{place_for}
use Rattle.worklist.proofs.put_node.Given as goal

abbrev pub invariant-loop-entries : goal.invariant-loop-entries
invariant-loop-entries l = (l.at ≤ l.k) × (length l.entries ≡ length l.initial.entries) × (l.entries ≡ gap 1 l.at l.k l.initial.entries)
    × (place_for l.levels l.level l.initial.entries l.at ≡ place_for l.levels l.level l.initial.entries l.k)

abbrev pub decreases-loop-entries : goal.decreases-loop-entries
decreases-loop-entries l = l.at
