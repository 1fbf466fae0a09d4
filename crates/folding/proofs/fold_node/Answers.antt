use mathlib.Core.Path.{refl}
use native.Mathlib.Omega.{arith}
use Rattle.folding.proofs.Folded.{had_few, gone-few, came-few, gone_ascends, came_ascends, kept-place, folds}
use Rattle.folding.proofs.fold_node.Goals as goal

pub overflow_cast-had : goal.overflow_cast-had
overflow_cast-had c =
    let a = c.args in
    omega (arith, had_few c.requires.0.0 a.i a.gained.now a.lost.now a.head.now a.pending.now c.requires.0.1)

pub overflow_cast-gone : goal.overflow_cast-gone
overflow_cast-gone c =
    let a = c.args in
    omega (arith, gone-few c.requires.0.0 a.i a.gained.now a.lost.now a.head.now a.pending.now c.requires.0.1)

pub overflow_cast-came : goal.overflow_cast-came
overflow_cast-came c =
    let a = c.args in
    omega (arith, came-few c.requires.0.0 a.i a.gained.now a.lost.now a.head.now a.pending.now c.requires.0.1)

pub difference_rows-left-requires : goal.difference_rows-left-requires
difference_rows-left-requires c =
    let a = c.args in
    let w = c.requires.0.0 in
    let o = c.requires.0.1 in
    let p = had_few w a.i a.gained.now a.lost.now a.head.now a.pending.now o in (
      p,
      rw o.pending_at.long (omega (arith, p)),
      rw o.lost_at.long (omega (arith, gone-few w a.i a.gained.now a.lost.now a.head.now a.pending.now o)),
      gone_ascends w a.i a.gained.now a.lost.now a.head.now a.pending.now o,
      refl,
    )

pub union_rows-requires : goal.union_rows-requires
union_rows-requires c =
    let a = c.args in
    let w = c.requires.0.0 in
    let o = c.requires.0.1 in
    let d = c.difference_rows-left in
    let fills = d.ensures w o.pending_at o.lost_at in
    let kept = kept-place w a.i a.gained.now a.lost.now a.head.now a.pending.now o d.new.out d.result fills in
    let came = came-few w a.i a.gained.now a.lost.now a.head.now a.pending.now o in (
      rw kept.0.long (omega (arith, fills.few)),
      came,
      rw o.gained_at.long (omega (arith, came)),
      came_ascends w a.i a.gained.now a.lost.now a.head.now a.pending.now o,
      c.requires.1,
    )

pub returns : goal.returns
returns c =
    let a = c.args in
    let d = c.difference_rows-left in
    let u = c.union_rows in
    λ w o. folds w a.i a.gained.now a.lost.now a.head.now a.pending.now o d.new.out d.result (d.ensures w o.pending_at o.lost_at)
    u.new.out u.result u.ensures
