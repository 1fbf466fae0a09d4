use mathlib.Core.Path.{ap, ◌∙◌}
use native.Mathlib.Omega.{arith}
use lib.ListN.{take}
use lib.Seq.{take_all}
use Rattle.masked_rows.specs.MaskedRows.{row_slot, slot_from}
use Rattle.masked_rows.proofs.Unordered.{slots_below}
use Rattle.masked_rows.proofs.slot_of_row.Goals as goal

pub overflow_mul-slot : goal.overflow_mul-slot
overflow_mul-slot c =
    let l = c.loop-k in
    omega (arith, l.invariant, slots_below 0 (take l.k c.args.row.now) (omega arith))

pub returns : goal.returns
unfolding row_slot
returns c =
    let l = c.loop-k in
    let r = c.args.row.now in
    l.invariant ∙ ap (slot_from 0) (take_all l.k r (omega (arith, c.requires)))
