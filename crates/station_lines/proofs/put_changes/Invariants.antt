use Rattle.lines.specs.Written.{Put}
use Rattle.station_lines.specs.Lines.{change_room}
use Prim.Native.Nat.{◌*◌}
use Rattle.station_lines.specs.Lines.{change_lines}
use Rattle.model.specs.Areas.{held_in, layout}
use Rattle.station_lines.proofs.put_changes.Given as goal

abbrev pub invariant-loop-j : goal.invariant-loop-j
invariant-loop-j l = Put (change_lines l.sign l.node (held_in layout l.w l.j l.area l.node)) (change_room * l.j) l.at l.initial.out l.out l.to
