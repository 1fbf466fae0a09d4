use native.Mathlib.Omega.{arith}
use Rattle.changes.proofs.Node.{came-few, gone-few, gained-few, lost-few, new-few, old-few, numbers_long, node-changed, node_kept}
use Rattle.areas.proofs.Pasted.{place-long}
use Rattle.changes.proofs.write_node.Goals as goal

pub write_picked-requires : goal.write_picked-requires
write_picked-requires c =
    let a = c.args in
    let o = c.requires in
    let g = came-few a.rows.now a.gained.now a.lost.now a.head.now a.work.now.rows a.work.now.counts a.work.now.changed a.told.now.picks a.told.now.sizes a.i o in (
      o.inside,
      o.gained-long,
      g,
      gained-few a.rows.now a.gained.now a.lost.now a.head.now a.work.now.rows a.work.now.counts a.work.now.changed a.told.now.picks a.told.now.sizes
          a.i o,
      omega (
        arith,
        g,
        numbers_long a.rows.now a.gained.now a.lost.now a.head.now a.work.now.rows a.work.now.counts a.work.now.changed a.told.now.picks a.told.now.sizes a.i o,
      ),
      o.tells.came.within,
    )

pub write_picked-requires-2 : goal.write_picked-requires-2
write_picked-requires-2 c =
    let a = c.args in
    let o = c.requires in
    let l = gone-few a.rows.now a.gained.now a.lost.now a.head.now a.work.now.rows a.work.now.counts a.work.now.changed a.told.now.picks a.told.now.sizes a.i o in (
      o.inside,
      o.lost-long,
      l,
      lost-few a.rows.now a.gained.now a.lost.now a.head.now a.work.now.rows a.work.now.counts a.work.now.changed a.told.now.picks a.told.now.sizes a.i o,
      omega (
        arith,
        l,
        numbers_long a.rows.now a.gained.now a.lost.now a.head.now a.work.now.rows a.work.now.counts a.work.now.changed a.told.now.picks a.told.now.sizes
            a.i o,
      ),
      o.tells.gone.within,
    )

pub write_place-requires : goal.write_place-requires
write_place-requires c =
    let a = c.args in
    let o = c.requires in (
      o.inside,
      o.rows_long,
      new-few a.rows.now a.gained.now a.lost.now a.head.now a.work.now.rows a.work.now.counts a.work.now.changed a.told.now.picks a.told.now.sizes a.i o,
      old-few a.rows.now a.gained.now a.lost.now a.head.now a.work.now.rows a.work.now.counts a.work.now.changed a.told.now.picks a.told.now.sizes a.i o,
      place-long a.work.now.rows a.i o.inside o.work-long,
    )

pub returns-then-work-i : goal.returns-then-work-i
returns-then-work-i c =
    let a = c.args in
    let g = c.write_picked in
    let l = c.write_picked-2 in
    let r = c.write_place in
    λ o. node-changed a.rows.now a.gained.now a.lost.now a.head.now a.work.now.rows a.work.now.counts a.work.now.changed a.told.now.picks a.told.now.sizes a.i o g.new.area
    l.new.area g.ensures l.ensures c.if-work-i.true r.new.area r.ensures

pub returns-else-work-i : goal.returns-else-work-i
returns-else-work-i c =
    let a = c.args in
    let g = c.write_picked in
    let l = c.write_picked-2 in
    λ o. node_kept a.rows.now a.gained.now a.lost.now a.head.now a.work.now.rows a.work.now.counts a.work.now.changed a.told.now.picks a.told.now.sizes a.i o g.new.area
    l.new.area g.ensures l.ensures c.if-work-i.false
