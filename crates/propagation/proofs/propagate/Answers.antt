use Rattle.std.proofs.lemmas.Result.{err_from_is_err_and}
use native.Mathlib.Omega.{arith}
use mathlib.Core.Path.{◌≡◌}
use Prim.Native.Nat.{◌<◌}
use Rattle.propagation.specs.Propagated.{new_rows}
use Rattle.propagation.proofs.Network.{new_many, propagating_none, ready_node, next-rows, propagating_more, propagates_over, propagates_all, refused_with}
use Rattle.propagation.proofs.propagate.Goals as goal

pub loop-i-init : goal.loop-i-init
loop-i-init c =
    let a = c.args in
    propagating_none a.net a.rows.now a.head.now a.bytes.now c.requires.0 a.work.now.rows a.work.now.counts a.work.now.changed a.due.now a.told.now.picks a.told.now.sizes c.requires.1

pub work_node-requires : goal.work_node-requires
work_node-requires c =
    let a = c.args in
    let l = c.loop-i in
    ready_node a.net a.rows.now a.head.now a.bytes.now c.requires.0 l.work.rows l.work.counts l.work.changed l.due l.told.picks l.told.sizes l.i (omega arith) l.invariant

pub returns-in_err-ok_or : goal.returns-in_err-ok_or
returns-in_err-ok_or c =
    let a = c.args in
    let l = c.loop-i in
    let k = c.in_err-ok_or in
    let p = err_from_is_err_and c.from_residual.result c.from_residual.ensures.1 in
    let h : l.i < a.net.count = omega arith in
    let o = rw k.ensures.ok_part at c.work_node.ensures in
    let n = next-rows a.net a.rows.now a.head.now a.bytes.now c.requires.0 l.work.rows l.work.counts l.work.changed l.due l.told.picks l.told.sizes l.i h l.invariant in
    let e = refused_with c.work_node.result c.at.result _ k.ensures.value in
    rw (p.1, p.2, e, c.at.ensures)
    (record {
      propagates = propagates_over a.head.now (new_rows a.net a.rows.now a.head.now a.bytes.now) a.net _ _ _ (new_many a.net a.rows.now a.head.now a.bytes.now c.requires.0)
          l.i h (rw (← n) o) (λ j k. (l.invariant.to.worked j k).few);
    })

pub loop-i-preserved : goal.loop-i-preserved
loop-i-preserved c =
    let a = c.args in
    let l = c.loop-i in
    let w = c.work_node in
    propagating_more a.net a.rows.now a.head.now a.bytes.now c.requires.0 l.work.rows l.work.counts l.work.changed l.due l.told.picks l.told.sizes l.i (omega arith) l.invariant
    w.new.work.rows w.new.work.counts w.new.work.changed w.new.due w.new.told.picks w.new.told.sizes
    (rw c.in_ok-ok_or.ensures.ok_part at w.ensures)

pub returns : goal.returns
returns c =
    let a = c.args in
    let l = c.loop-i in
    let e : l.i ≡ a.net.count = omega (arith, l.invariant.within) in
    record {
      propagates = propagates_all a.head.now (new_rows a.net a.rows.now a.head.now a.bytes.now) a.net _ _ _ (new_many a.net a.rows.now a.head.now a.bytes.now c.requires.0)
          tt (rw e at l.invariant.to) (rw e at l.invariant.marked);
    }
