use native.Mathlib.Omega.{arith}
use mathlib.Core.Path.{refl}
use Prim.Native.Nat.{◌+◌}
use lib.ListN.{get_or}
use Rattle.model.specs.Areas.{fields}
use Rattle.station_lines.proofs.Changes.{numbers_more}
use Rattle.station_lines.proofs.change_numbers.Goals as goal

pub loop-k-init : goal.loop-k-init
unfolding fields
loop-k-init c = refl

pub loop-k-preserved : goal.loop-k-preserved
loop-k-preserved c =
    let a = c.args in
    numbers_more a.node c.loop-k.k a.words.now a.from c.loop-k.numbers (get_or a.words.now (a.from + c.loop-k.k) 0) (omega (arith, c.requires.0)) c.loop-k.invariant refl
