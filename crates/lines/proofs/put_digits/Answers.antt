use mathlib.Core.List.{[]}
use mathlib.Core.Path.{ap, sym, ◌≡◌}
use Prim.Native.Nat.{◌+◌}
use native.Mathlib.Omega.{arith}
use lib.ListN.{drop, drop_of_length-le}
use lib.Seq.{sets}
use Rattle.lines.proofs.Digits.{digit_more, left_all}
use Rattle.model.specs.Text.{decimal}
use Rattle.lines.proofs.put_digits.Goals as goal

pub loop-k-init : goal.loop-k-init
loop-k-init c =
    let a = c.args in
    let none : drop a.count (decimal a.x) ≡ [] = drop_of_length-le (decimal a.x) {i = a.count} (omega (arith, c.requires.1)) in
    record { shown = ap (sets a.out.now (a.at + a.count)) (sym none); left = left_all a.x a.count c.requires.1 }

pub loop-k-preserved : goal.loop-k-preserved
loop-k-preserved c =
    let a = c.args in
    let d = digit_more a.x c.loop-k.k c.loop-k.rest a.out.now c.loop-k.out a.at (omega arith) (omega (arith, c.requires.1)) c.loop-k.invariant.left c.loop-k.invariant.shown in
    record { shown = d.0; left = d.1 }
