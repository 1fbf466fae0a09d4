use Rattle.stages.proofs.Steps.{says_no_input, says-opened, says-refused}
use mathlib.Core.Path.{refl, sym, ◌∙◌}
use Rattle.model.specs.Record.{accepted}
use Rattle.stages.specs.Stages.{files}
use Rattle.verdicts.specs.Verdicts.{refusal_of}
use Rattle.verdicts.proofs.Numbers.{not-accepted}
use Rattle.areas.specs.Lent.{lent}
use Rattle.beginning.proofs.begin.Goals as goal

pub returns-then-not-has_input : goal.returns-then-not-has_input
returns-then-not-has_input c =
    let a = c.args in
    says_no_input (files a.n a.b a.net.now a.file.now) (lent a.rows.now a.gained.now a.lost.now a.head.now) a.out.now c.put_line_at-size.new.out c.put_line_at-size.result c.requires.1
    (sym c.has_input.ensures ∙ c.if-not-has_input.true) c.put_line_at-size.ensures

pub returns-in-Ok : goal.returns-in-Ok
returns-in-Ok c =
    let a = c.args in
    says-opened (files a.n a.b a.net.now a.file.now) (lent a.rows.now a.gained.now a.lost.now a.head.now) a.out.now a.out.now 0 c.requires.1 c.requires.0
    (sym c.has_input.ensures ∙ c.if-not-has_input.false)
    (record { verdict = accepted; areas = lent c.open.new.rows c.open.new.gained c.open.new.lost c.open.new.head })
    c.in-Ok.ensures.opens refl

pub returns-in-Err : goal.returns-in-Err
returns-in-Err c =
    let a = c.args in
    says-refused (files a.n a.b a.net.now a.file.now) (lent a.rows.now a.gained.now a.lost.now a.head.now) a.out.now c.put_refused-size.new.out c.put_refused-size.result c.requires.1 c.requires.0
    (sym c.has_input.ensures ∙ c.if-not-has_input.false)
    (record { verdict = refusal_of c.in-Err.refusal; areas = lent c.open.new.rows c.open.new.gained c.open.new.lost c.open.new.head })
    c.in-Err.ensures.opens (not-accepted c.in-Err.refusal) (rw (← c.number-number.ensures) c.put_refused-size.ensures)
