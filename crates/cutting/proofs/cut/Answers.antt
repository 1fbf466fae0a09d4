use Rattle.stages.proofs.Steps.{says-batch, says-broken, says-end, says-unfinished}
use native.Mathlib.Omega.{arith}
use Rattle.stages.specs.Stages.{files}
use Rattle.areas.specs.Lent.{lent}
use Rattle.cutting.proofs.cut.Goals as goal

pub slice_bounds-apply-count : goal.slice_bounds-apply-count
slice_bounds-apply-count c = let n = rw c.in-Batch.is at c.next_piece.ensures in omega (arith, n.0)

pub slice_bounds-apply-start : goal.slice_bounds-apply-start
slice_bounds-apply-start c = let n = rw c.in-Batch.is at c.next_piece.ensures in omega (arith, n.0)

pub slice_bounds-apply-end : goal.slice_bounds-apply-end
slice_bounds-apply-end c = let n = rw c.in-Batch.is at c.next_piece.ensures in omega (arith, n.1)

pub overflow_add-end : goal.overflow_add-end
overflow_add-end c = let n = rw c.in-Batch.is at c.next_piece.ensures in omega (arith, n.1)

pub returns-in-Batch : goal.returns-in-Batch
returns-in-Batch c = let a = c.args in let n =
    rw c.in-Batch.is
    at c.next_piece.ensures in says-batch (files a.n a.b a.net.now a.file.now) a.start (lent a.rows.now a.gained.now a.lost.now a.head.now) a.out.now
    c.apply.new.out 0
    c.requires.1
    c.in-Batch.end
    (lent c.apply.new.rows
    c.apply.new.gained
    c.apply.new.lost
    c.apply.new.head)
    c.apply.result n
    c.apply.ensures

pub returns-in-Broken : goal.returns-in-Broken
returns-in-Broken c = let a = c.args in let n =
    rw c.in-Broken.is at c.next_piece.ensures in says-broken
    (files a.n a.b a.net.now a.file.now) a.start (lent a.rows.now a.gained.now a.lost.now a.head.now) a.out.now c.put_refused-size.new.out
    c.put_refused-size.result c.requires.1
    c.in-Broken.at n (rw c.number.ensures at c.put_refused-size.ensures)

pub returns-in-Unfinished : goal.returns-in-Unfinished
returns-in-Unfinished c = let a = c.args in let n =
    rw c.in-Unfinished.is at c.next_piece.ensures in says-unfinished
    (files a.n a.b a.net.now a.file.now) a.start (lent a.rows.now a.gained.now a.lost.now a.head.now) a.out.now c.put_line_at-size.new.out
    c.put_line_at-size.result c.requires.1 n
    c.put_line_at-size.ensures

pub returns-in-End : goal.returns-in-End
returns-in-End c = let a = c.args in let n = rw c.in-End.is
    at c.next_piece.ensures in says-end (files a.n a.b a.net.now a.file.now) a.start (lent a.rows.now a.gained.now a.lost.now a.head.now)
    a.out.now c.requires.1 n
