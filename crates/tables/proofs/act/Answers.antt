use mathlib.Core.Bool.{false}
use mathlib.Core.Path.{◌≡◌, sym, ◌∙◌}
use Rattle.std.specs.Prelude.{Some}
use Rattle.tables.proofs.Folds.{put_adds, put_fits, put_keeps, take_drops, take_keeps}
use Rattle.tables.proofs.act.Goals as goal

pub returns-in-Some-true-clause-folds : goal.returns-in-Some-true-clause-folds
returns-in-Some-true-clause-folds c =
    let a = c.args in
    put_adds a.bytes.now a.at a.width c.requires.0 c.event_row-row.result c.event_row-row.ensures a.words.now c.insert.new.words a.n c.requires.2
    (sym c.is_put.ensures ∙ c.if-is_put.true) (rw (c.in-Some-true.is, c.in-Some-true.field-0-test) at c.insert.ensures)

pub returns-in-Some-false-clause-folds : goal.returns-in-Some-false-clause-folds
returns-in-Some-false-clause-folds c =
    let a = c.args in
    put_keeps a.bytes.now a.at a.width c.requires.0 c.event_row-row.result c.event_row-row.ensures a.words.now c.insert.new.words a.n c.requires.2
    (sym c.is_put.ensures ∙ c.if-is_put.true) (let e : c.insert.result ≡ Some false = cc in rw e at c.insert.ensures)

pub returns-in-Some-false-2-clause-folds : goal.returns-in-Some-false-2-clause-folds
returns-in-Some-false-2-clause-folds c =
    let a = c.args in
    absurd (put_fits a.bytes.now a.at a.width c.requires.0 c.event_row-row.result c.event_row-row.ensures a.words.now c.insert.new.words a.n c.requires.2
    c.requires.3 c.in-Some-false.ensures)

pub returns-then-remove-clause-folds : goal.returns-then-remove-clause-folds
returns-then-remove-clause-folds c =
    let a = c.args in
    take_drops a.bytes.now a.at a.width c.requires.0 c.event_row-row.result c.event_row-row.ensures a.words.now c.remove.new.words a.n c.requires.2
    (sym c.is_put.ensures ∙ c.if-is_put.false) (rw c.if-remove.true at c.remove.ensures)

pub returns-else-remove-clause-folds : goal.returns-else-remove-clause-folds
returns-else-remove-clause-folds c =
    let a = c.args in
    take_keeps a.bytes.now a.at a.width c.requires.0 c.event_row-row.result c.event_row-row.ensures a.words.now c.remove.new.words a.n c.requires.2
    (sym c.is_put.ensures ∙ c.if-is_put.false) (rw c.if-remove.false at c.remove.ensures)
