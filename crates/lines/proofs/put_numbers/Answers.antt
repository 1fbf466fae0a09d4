use mathlib.Core.List.{◌++◌, [], ◌∷◌}
use mathlib.Core.Path.{refl}
use native.Mathlib.Omega.{arith}
use Prim.Native.Nat.{◌+◌}
use lib.ListN.{get_or, set, take}
use Rattle.lines.proofs.Digits.{numbers_none, numbers_step}
use Rattle.lines.proofs.Written.{put_more}
use Rattle.lines.specs.Numbers.{numbers_text}
use Rattle.lines.specs.Written.{Put}
use Rattle.model.specs.Text.{decimal, space}
use Rattle.lines.proofs.put_numbers.Goals as goal

pub loop-x-init : goal.loop-x-init
loop-x-init c = let a = c.args in rw (numbers_none a.numbers.now) (record { bytes = refl; next = omega arith; short = omega arith })

pub loop-x-preserved : goal.loop-x-preserved
loop-x-preserved c =
    let a = c.args in
    let k = c.loop-x.x-index in
    let x = get_or a.numbers.now k 0 in
    let before = numbers_text (take k a.numbers.now) in
    let blank : Put (space ∷ []) 1 c.loop-x.to c.loop-x.out (set c.loop-x.out c.loop-x.to 32) (c.loop-x.to + 1) = record { bytes = refl; next = refl; short = omega arith } in
    let one = put_more before (space ∷ []) c.loop-x.invariant blank in
    let two = put_more (before ++ (space ∷ [])) (decimal x) one c.put_number-to.ensures in
    let more = rw (numbers_step a.numbers.now k (omega arith)) at two in
    record { bytes = more.bytes; next = more.next; short = omega (arith, more.short) }
