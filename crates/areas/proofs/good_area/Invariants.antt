use Prim.Native.Nat.{◌≤◌, ◌*◌}
use Rattle.model.specs.Areas.{place_size}
use Rattle.areas.specs.Lent.{counts_from}
use Rattle.areas.proofs.Gaps.{GapTo}
use Rattle.areas.proofs.good_area.Given as goal

abbrev pub invariant-loop-i : goal.invariant-loop-i
invariant-loop-i l = (l.from ≤ l.i * place_size) × GapTo l.widths l.n (counts_from l.words l.first) l.area l.from l.i
