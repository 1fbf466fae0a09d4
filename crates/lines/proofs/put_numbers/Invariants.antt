use Prim.Native.Nat.{◌*◌}
use lib.ListN.{take}
use Rattle.lines.specs.Written.{Put}
use Rattle.lines.specs.Numbers.{numbers_text}
use Rattle.lines.proofs.put_numbers.Given as goal

abbrev pub invariant-loop-x : goal.invariant-loop-x
invariant-loop-x l = Put (numbers_text (take l.x-index l.numbers)) (21 * l.x-index) l.at l.initial.out l.out l.to
