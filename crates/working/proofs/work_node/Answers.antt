use mathlib.Core.Path.{sym, ap, ◌∙◌}
use lib.ListN.{get_or, set}
use Rattle.model.specs.Areas.{row_count}
use Rattle.areas.specs.Lent.{place_at}
use Rattle.new_rows.specs.Working.{working_in}
use Rattle.working.specs.Worked.{told_in}
use Rattle.working.proofs.Nodes.{kept_works, made_place, put_works}
use Rattle.places.proofs.Places.{place-few, rows_ascend}
use Rattle.working.proofs.work_node.Goals as goal

pub returns-then-not-must_work : goal.returns-then-not-must_work
returns-then-not-must_work c =
    let a = c.args in
    let k = c.must_work in
    kept_works a.slot a.level a.bytes.now a.head.now (working_in a.widths.now a.rows.now a.work.now) a.i c.requires.0
    a.due.now (told_in a.told.now) c.requires.1 k.new.due (k.ensures.marks ∙ ap (set a.due.now a.i) k.ensures.tells)
    (sym k.ensures.tells ∙ c.if-not-must_work.true)

pub put_node-requires : goal.put_node-requires
put_node-requires c =
    let a = c.args in
    let can = c.requires.0 in
    let r = c.work_rows in
    let n = c.in_ok-count.count in
    let out = r.new.out in
    let p = made_place a.slot a.level a.bytes.now a.head.now (working_in a.widths.now a.rows.now a.work.now) a.i can out n
    c.in_ok-count.ensures in
    let w = get_or a.widths.now a.i 0 in (
      can.inside,
      place-few w out n p,
      place-few w (place_at a.rows.now a.i) (row_count a.head.now a.i) can.old,
      can.sized.rows,
      p.long,
      rows_ascend w out n p,
      rows_ascend w (place_at a.rows.now a.i) (row_count a.head.now a.i) can.old,
      can.blank,
      can.unchanged,
      c.requires.1,
    )

pub returns : goal.returns
returns c =
    let a = c.args in
    let can = c.requires.0 in
    let r = c.work_rows in
    let n = c.in_ok-count.count in
    let out = r.new.out in
    let f = c.in_ok-count.ensures in
    let p = made_place a.slot a.level a.bytes.now a.head.now (working_in a.widths.now a.rows.now a.work.now) a.i can out n f in
    let k = c.must_work in
    let t = c.put_node in
    put_works a.slot a.level a.bytes.now a.head.now (working_in a.widths.now a.rows.now a.work.now) a.i can out n f a.due.now
    k.new.due (told_in a.told.now) (told_in t.new.told)
    (k.ensures.marks ∙ ap (set a.due.now a.i) k.ensures.tells) (sym k.ensures.tells ∙ c.if-not-must_work.false) t.new.work.rows
    t.new.work.counts t.new.work.changed (t.ensures (get_or a.widths.now a.i 0) a.widths.now p can.old)
