use mathlib.Core.Path.{sym, ◌∙◌}
use native.Mathlib.Omega.{arith}
use lib.ListN.{get_or, take}
use Rattle.model.specs.Areas.{stride}
use Rattle.rows.specs.Rows.{row_at}
use Rattle.rows.proofs.Words.{length-rows}
use Rattle.columns.proofs.Rows.{few-columns, masked_length}
use Rattle.masked_rows.proofs.Unordered.{masked_more, masked_none, masked_there, slot_below}
use Rattle.masked_rows.proofs.mask_unordered.Goals as goal
use Rattle.masked_rows.proofs.mask_unordered.Goals.{then-not-stands_at, else-not-stands_at}

pub loop-i-init : goal.loop-i-init
loop-i-init c =
    let a = c.args in
    masked_none (take stride a.columns.now) a.input.now (few-columns stride a.columns.now (omega arith) c.requires.2) a.out.now c.requires.4

pub offset_bounds-last-slot : goal.offset_bounds-last-slot
offset_bounds-last-slot c = rw c.slot_of_row-slot.ensures (omega (arith, slot_below c.columns_row-row.result))

pub bounds-last-slot : goal.bounds-last-slot
bounds-last-slot c = rw c.slot_of_row-slot.ensures (slot_below _)

pub stands_at-requires : goal.stands_at-requires
stands_at-requires c =
    let a = c.args in
    let l = c.loop-i in (
      omega (arith, l.invariant.size, l.invariant.few, length-rows stride a.input.now 0 l.i, c.requires.0, c.loop-i-test.true),
      masked_length (take stride a.columns.now) (row_at stride a.input.now l.i) c.columns_row-row.result
          (few-columns stride a.columns.now (omega arith) c.requires.2) c.columns_row-row.ensures,
    )

pub overflow_mul-count : goal.overflow_mul-count
overflow_mul-count c =
    let l = c.loop-i in
    omega (arith, l.invariant.few, length-rows stride c.args.input.now 0 l.i, c.requires.0, c.loop-i-test.true)

pub copy_run-requires : goal.copy_run-requires
copy_run-requires c =
    let a = c.args in
    let l = c.loop-i in
    let size = masked_length (take stride a.columns.now) (row_at stride a.input.now l.i) c.columns_row-row.result
    (few-columns stride a.columns.now (omega arith) c.requires.2) c.columns_row-row.ensures in
    (omega (arith, size), omega (arith, l.invariant.size, l.invariant.few, length-rows stride a.input.now 0 l.i, c.requires.0, c.loop-i-test.true))

pub offset_bounds-last-slot-then-not-stands_at : goal.offset_bounds-last-slot-then-not-stands_at
offset_bounds-last-slot-then-not-stands_at c =
    rw c.slot_of_row-slot.ensures (omega (arith, slot_below c.columns_row-row.result))

pub bounds-last-slot-then-not-stands_at : goal.bounds-last-slot-then-not-stands_at
bounds-last-slot-then-not-stands_at c = rw c.slot_of_row-slot.ensures (slot_below _)

pub loop-i-preserved : goal.loop-i-preserved
loop-i-preserved c =
    let a = c.args in
    let l = c.loop-i in
    let few = few-columns stride a.columns.now (omega arith) c.requires.2 in
    elim c.if-not-stands_at.branch [
      | then-not-stands_at w ↦ rw (w.out-is, w.count-is)
          (masked_more (take stride a.columns.now) a.input.now few l.i l.count l.out c.columns_row-row.result c.columns_row-row.ensures l.invariant w.copy_run.new.dst
          (omega (arith, l.invariant.few, length-rows stride a.input.now 0 l.i, c.requires.0, c.loop-i-test.true)) w.copy_run.ensures)
      | else-not-stands_at w ↦ rw (w.out-is, w.count-is)
          (masked_there (take stride a.columns.now) a.input.now few l.i l.count l.out c.columns_row-row.result c.columns_row-row.ensures l.invariant
          (get_or l.last c.slot_of_row-slot.result 0) (sym c.stands_at.ensures ∙ w.if-not-stands_at.false))
    ]
