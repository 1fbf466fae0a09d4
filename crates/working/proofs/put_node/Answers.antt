use native.Mathlib.Omega.{arith}
use Rattle.working.specs.Worked.{told_in}
use Rattle.working.proofs.Differ.{put_same, put_other}
use Rattle.working.proofs.put_node.Goals as goal

pub returns-then-same_rows : goal.returns-then-same_rows
returns-then-same_rows c =
    let a = c.args in
    let f = c.same_rows in
    λ w ws p q. put_same w ws a.out.now a.n a.rows.now a.i a.m a.work.now.rows a.work.now.counts a.work.now.changed (told_in a.told.now) p q c.requires.0
    (omega arith) (omega arith) c.requires.8 c.requires.9 f.result (f.ensures w p q) c.if-same_rows.true

pub returns : goal.returns
returns c =
    let a = c.args in
    let t = c.tell_change in
    let f = c.same_rows in
    λ w ws p q. put_other w ws a.out.now a.n a.rows.now a.i a.m a.work.now.rows a.work.now.counts a.work.now.changed (told_in a.told.now) p q c.requires.0
    (omega arith) (omega arith) (told_in t.new.told) f.result (f.ensures w p q)
    c.if-same_rows.false
    c.requires.7 c.copy_run.new.dst c.copy_run.ensures (t.ensures.tells w p q) t.ensures.keeps
