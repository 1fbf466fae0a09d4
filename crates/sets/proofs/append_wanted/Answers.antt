use Rattle.merges.proofs.Merged.{appended_one}
use Rattle.sets.proofs.append_wanted.Goals as goal

pub returns-then-wanted : goal.returns-then-wanted
returns-then-wanted c =
    let a = c.args in
    rw (c.if-wanted.true) (appended_one a.src.now a.i c.append_rows.ensures)
