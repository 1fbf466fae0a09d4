use Rattle.model.specs.Row.{max_width}
use Prim.Native.Nat.{◌+◌}
use mathlib.Core.Path.{◌≡◌}
use mathlib.Core.List.{◌∷◌}
use Rattle.model.specs.Areas.{padded, fields}
use Rattle.station_lines.proofs.change_numbers.Given as goal

abbrev pub invariant-loop-k : goal.invariant-loop-k
invariant-loop-k l = l.numbers ≡ padded (1 + max_width) (l.node ∷ fields l.k l.words l.from)
