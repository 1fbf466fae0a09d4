use mathlib.Core.Path.{refl}
use mathlib.Core.List.{flat_map}
use Rattle.worklist.proofs.list_worked.Goals as goal

pub loop-i-init : goal.loop-i-init
unfolding flat_map
loop-i-init c = (c.requires.3, refl)
