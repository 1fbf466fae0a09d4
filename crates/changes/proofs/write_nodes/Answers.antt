use Prim.Native.Nat.{◌<◌}
use native.Mathlib.Omega.{arith}
use Rattle.changes.proofs.Out.{writes_none, can_write, writes_more}
use Rattle.changes.proofs.write_nodes.Goals as goal

pub loop-i-init : goal.loop-i-init
loop-i-init c = let a = c.args in λ o. writes_none o.net a.rows.now a.gained.now a.lost.now
    a.head.now a.work.now.rows a.work.now.counts a.work.now.changed a.told.now.picks a.told.now.sizes o.out

pub write_node-requires : goal.write_node-requires
write_node-requires c =
    let a = c.args in
    let o = c.requires in
    let l = c.loop-i in
    can_write o.net a.rows.now a.gained.now a.lost.now a.head.now a.work.now.rows a.work.now.counts a.work.now.changed a.told.now.picks a.told.now.sizes o.out l.i
    (omega (arith, o.count_is)) l.rows l.gained l.lost (l.invariant o)

pub loop-i-preserved : goal.loop-i-preserved
loop-i-preserved c =
    let a = c.args in
    let l = c.loop-i in
    let w = c.write_node in
    λ o.
    let k : l.i < o.net.count = omega (arith, o.count_is) in
    writes_more o.net a.rows.now a.gained.now a.lost.now a.head.now a.work.now.rows a.work.now.counts a.work.now.changed a.told.now.picks a.told.now.sizes o.out l.i k l.rows
    l.gained l.lost (l.invariant o) w.new.rows w.new.gained w.new.lost w.ensures
