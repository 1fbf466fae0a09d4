use native.Mathlib.Omega.{arith}
use mathlib.Core.Path.{refl, ap, ◌∙◌}
use Prim.Native.Nat.{◌≤◌}
use lib.ListN.{length}
use Rattle.model.specs.Row.{max_nodes}
use Rattle.states.proofs.Head.{padded-length}
use Rattle.worklist.specs.Listed.{due_list}
use Rattle.changes.proofs.Out.{head-long}
use Rattle.transition.proofs.Head.{stamps-long}
use Rattle.transition.proofs.Next.{state_written}
use Rattle.transition.proofs.write_state.Goals as goal

pub bounds-head-0 : goal.bounds-head-0
bounds-head-0 c =
    let a = c.args in
    let o = c.requires.0 in
    omega (arith, head-long o.net a.rows.now a.gained.now a.lost.now a.head.now a.work.now.rows a.work.now.counts a.work.now.changed a.told.now.picks a.told.now.sizes o.out)

pub new_stamps-stamps-requires : goal.new_stamps-stamps-requires
new_stamps-stamps-requires c =
    let a = c.args in
    let o = c.requires.0 in
    let few = rw o.count_is at o.out.built.sound.few in (
      few,
      head-long o.net a.rows.now a.gained.now a.lost.now a.head.now a.work.now.rows a.work.now.counts a.work.now.changed a.told.now.picks a.told.now.sizes o.out,
      omega
          (arith, few, o.out.worked.sized.changed),
    )

pub write_head-requires : goal.write_head-requires
write_head-requires c =
    let a = c.args in
    let o = c.requires.0 in
    let few = rw o.count_is at o.out.built.sound.few in
    let l = c.list_worked-k in
    let stamps = c.new_stamps-stamps in
    let listed : length (due_list a.levels.now a.due.now a.n) ≤ max_nodes = omega (arith, l.ensures.counts, l.ensures.few) in (
      head-long o.net a.rows.now a.gained.now a.lost.now a.head.now a.work.now.rows a.work.now.counts a.work.now.changed a.told.now.picks a.told.now.sizes o.out,
      o.out.worked.sized.counts,
      stamps-long a.head.now a.work.now.changed _ a.n stamps.result stamps.ensures few,
      o.out.worked.told.sizes,
      l.ensures.few,
      ap length l.ensures.lists ∙ padded-length max_nodes (due_list a.levels.now a.due.now a.n) listed,
    )

pub returns : goal.returns
returns c =
    let a = c.args in
    let w = c.write_nodes in
    let stamps = c.new_stamps-stamps in
    let l = c.list_worked-k in
    let h = c.write_head in
    record {
      writes = λ o copy. state_written o.net a.rows.now a.gained.now a.lost.now a.head.now a.work.now.rows a.work.now.counts a.work.now.changed a.told.now.picks a.told.now.sizes o.out
          o.fit w.new.rows w.new.gained w.new.lost h.new.head stamps.result l.new.entries a.levels.now
          a.due.now a.n _ l.result copy o.count_is refl (w.ensures (record { net = o.net; out = o.out; count_is = o.count_is })) stamps.ensures o.levels-are o.marked
          l.ensures.lists l.ensures.counts h.ensures;
    }
