use native.Mathlib.Omega.{arith}
use Rattle.replay.proofs.Replaying.{none_left, replay_start, replay_more, replay_done, replay_end}
use Rattle.areas.specs.Lent.{lent}
use Rattle.network.specs.Reading.{result_with}
use Rattle.replay.proofs.replay_batches.Goals as goal

pub loop-start-init : goal.loop-start-init
loop-start-init c = let a = c.args in replay_start a.net.now a.file.now (lent a.rows.now a.gained.now a.lost.now a.head.now)

pub slice_bounds-apply-count : goal.slice_bounds-apply-count
slice_bounds-apply-count c = let n = rw c.in-Batch.is at c.next_piece.ensures in omega (arith, n.0)

pub slice_bounds-apply-start : goal.slice_bounds-apply-start
slice_bounds-apply-start c = let n = rw c.in-Batch.is at c.next_piece.ensures in omega (arith, n.0)

pub slice_bounds-apply-end : goal.slice_bounds-apply-end
slice_bounds-apply-end c = let n = rw c.in-Batch.is at c.next_piece.ensures in omega (arith, n.1)

pub overflow_add-start : goal.overflow_add-start
overflow_add-start c = let n = rw c.in-Batch.is at c.next_piece.ensures in omega (arith, n.1)

pub loop-start-smaller : goal.loop-start-smaller
loop-start-smaller c = let n = rw c.in-Batch.is at c.next_piece.ensures in omega (arith, n.0, n.1, c.loop-start-test.true)

pub loop-start-preserved : goal.loop-start-preserved
loop-start-preserved c =
    let a = c.args in
    let n = rw c.in-Batch.is at c.next_piece.ensures in
    replay_more a.net.now a.file.now (lent a.rows.now a.gained.now a.lost.now a.head.now)
    (lent c.loop-start.rows c.loop-start.gained c.loop-start.lost c.loop-start.head) c.loop-start.start c.loop-start.invariant c.in-Batch.end
    (result_with c.apply.result (lent c.apply.new.rows c.apply.new.gained c.apply.new.lost c.apply.new.head)) n c.apply.ensures.applies

pub returns-in-Broken : goal.returns-in-Broken
returns-in-Broken c =
    let a = c.args in
    replay_done a.net.now a.file.now (lent a.rows.now a.gained.now a.lost.now a.head.now)
    (lent c.loop-start.rows c.loop-start.gained c.loop-start.lost c.loop-start.head) c.loop-start.start c.loop-start.invariant
    (none_left a.file.now c.loop-start.start c.next_piece.result c.in-Broken.is c.next_piece.ensures)

pub returns : goal.returns
returns c =
    let a = c.args in
    replay_end a.net.now a.file.now (lent a.rows.now a.gained.now a.lost.now a.head.now)
    (lent c.loop-start.rows c.loop-start.gained c.loop-start.lost c.loop-start.head) c.loop-start.start c.loop-start.invariant (omega (arith, c.loop-start-test.false))
